use Rattle.std.proofs.Common.{◌≡◌, Some, IfOk, sym, ap, subst, ◌∙◌, arith}
use Rattle.sn_model.specs.declared.change.Change.{Change}
use Rattle.sn_model.specs.Tree.{link_to}
use Rattle.sn_model.specs.declared.link.Link.{Link}
use Rattle.sn_model.specs.Changes.{linked, written, apply}
use Rattle.sn_overlay_change.specs.ChangeLayers.{link_layer, write_layer, layer_of_change}
use Rattle.sn_overlay.specs.Overlays.{layer_of}
use Rattle.sn_overlay_change.proofs.ApplyLemmas.{links_fit, bytes_fit, bytes_some}
use Rattle.sn_overlay_change.proofs.changing.layered.Goals as goal

pub returns-in_ok-link-in-AddLink-clause-layer : goal.returns-in_ok-link-in-AddLink-clause-layer
returns-in_ok-link-in-AddLink-clause-layer g c told after e =
    let tree = g.B.Below.shows c.args.below.now in
    let limits = c.args.limits.now in
    let arm = c.in-AddLink in
    let here : linked limits tree (link_to arm.directory arm.name) arm.number ≡ Some after = ap (λ change. apply limits change tree) (sym arm.is) ∙ e in
    subst (λ (change : Change). IfOk c.add_link.result (λ o. layer_of o ≡ layer_of_change tree change)) (sym arm.is)
    (subst (λ (link : Link). IfOk c.add_link.result (λ o. layer_of o ≡ link_layer tree link arm.number)) c.in_ok-link-in-AddLink.ensures
    (c.add_link.ensures.layer told (links_fit limits tree after (link_to arm.directory arm.name) arm.number (omega arith) here)))

pub returns-in-Write-clause-layer : goal.returns-in-Write-clause-layer
returns-in-Write-clause-layer g c told after e =
    let tree = g.B.Below.shows c.args.below.now in
    let limits = c.args.limits.now in
    let arm = c.in-Write in
    let here : written limits tree arm.number arm.offset arm.bytes ≡ Some after = ap (λ change. apply limits change tree) (sym arm.is) ∙ e in
    let same : c.as_slice.result.now ≡ arm.bytes = c.as_slice.ensures in
    let given : written limits tree arm.number arm.offset c.as_slice.result.now ≡ Some after = ap (written limits tree arm.number arm.offset) same ∙ here in
    subst (λ (change : Change). IfOk c.write.result (λ o. layer_of o ≡ layer_of_change tree change)) (sym arm.is)
    (subst (λ bytes. IfOk c.write.result (λ o. layer_of o ≡ write_layer tree arm.number arm.offset bytes)) same
    (c.write.ensures.layer told (bytes_some limits tree after arm.number arm.offset c.as_slice.result.now given) (bytes_fit limits tree after arm.number arm.offset c.as_slice.result.now (omega arith) given)))
