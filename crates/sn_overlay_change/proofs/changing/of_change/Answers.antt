use Rattle.std.proofs.Common.{◌≡◌, ◌≤◌, sym, ap, subst, ◌∙◌}
use Rattle.sn_overlay_change.specs.ChangeLayers.{layer_of_change}
use Rattle.sn_overlay.specs.Layers.{Layer, through}
use Rattle.sn_overlay.specs.Needs.{need, need_of, counts_for}
use Rattle.sn_overlay.specs.Overlays.{layer_of}
use Rattle.sn_overlay.specs.Seen.{LiesOver}
use Rattle.sn_overlay_change.proofs.ApplyLemmas.{if_ok}
use Rattle.sn_overlay_change.proofs.CountLemmas.{changes_need}
use Rattle.sn_overlay_change.proofs.LiesLemmas.{changes_lie}
use Rattle.sn_overlay_change.proofs.ShownLemmas.{changes_show}
use Rattle.sn_overlay_change.proofs.changing.of_change.Goals as goal

pub returns-clause-shows : goal.returns-clause-shows
returns-clause-shows g c told after h e =
    let tree = g.B.Below.shows c.args.below.now in
    let change = c.args.change.now in
    if_ok c.layered.result (λ o. layer_of o ≡ layer_of_change tree change) (λ o. through (layer_of o) tree ≡ after)
    (λ o same. ap (λ (layer : Layer). through layer tree) same ∙ changes_show c.args.limits.now change tree after h e) (c.layered.ensures.layer told after e)

pub returns-clause-lies : goal.returns-clause-lies
returns-clause-lies g c told after h e =
    let tree = g.B.Below.shows c.args.below.now in
    let change = c.args.change.now in
    if_ok c.layered.result (λ o. layer_of o ≡ layer_of_change tree change) (λ o. LiesOver (layer_of o) tree)
    (λ o same. subst (λ (layer : Layer). LiesOver layer tree) (sym same) (changes_lie c.args.limits.now change tree after h e)) (c.layered.ensures.layer told after e)

pub returns-clause-need : goal.returns-clause-need
returns-clause-need g c told after e =
    let tree = g.B.Below.shows c.args.below.now in
    let change = c.args.change.now in
    let limits = c.args.limits.now in
    if_ok c.layered.result (λ o. layer_of o ≡ layer_of_change tree change) (λ o. need limits (layer_of o) ≤ need_of limits (counts_for change))
    (λ o same. subst (λ (layer : Layer). need limits layer ≤ need_of limits (counts_for change)) (sym same) (changes_need limits tree change)) (c.layered.ensures.layer told after e)
