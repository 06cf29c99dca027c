use Rattle.std.proofs.Common.{◌≡◌, ℕ, Bool, cond, List, [], Option, sym, ap, ◌∙◌}
use Rattle.std.specs.FinMap as map
use Rattle.sn_model.specs.declared.link.Link.{Link}
use Rattle.sn_model.specs.Tree.{link_cmp}
use Rattle.sn_overlay.specs.Layers.{hides_names}
use Rattle.sn_overlay.specs.Lists.{changed_names}
use Rattle.sn_overlay.specs.Overlays.{layer_of}
use Rattle.sn_live_files.specs.Listing.{links_of, merged}
use Rattle.sn_live_files.proofs.ListingLemmas.{below_seen, links_of-through}
use Rattle.sn_live_files.proofs.through.ThroughHasContents.names.Goals as goal
use Rattle.sn_live_files.proofs.through.ThroughHasContents.names.Goals.{then-hides_names, else-hides_names+in_ok-below}

pub returns-clause-found : goal.returns-clause-found
returns-clause-found g c told =
    let layer = layer_of c.args.self.now.overlay.now in
    let tree = g.B.Below.shows c.args.self.now.below.now in
    let directory = c.args.directory in
    let hides : c.hides_names.result ≡ hides_names (map.get layer.nodes directory) = c.hides_names.ensures ∙ ap hides_names c.node.ensures in
    let seen : c.if-hides_names.below.items ≡ below_seen layer tree directory =
    elim c.if-hides_names.branch [
      | then-hides_names w ↦
          ap (λ v. v.items) w.below-is ∙ w.new-below.ensures.items ∙ ap (λ (b : Bool). cond b [] (links_of tree directory)) (sym w.if-hides_names.true ∙ hides)
      | else-hides_names+in_ok-below w ↦
          ap (λ v. v.items) w.below-is ∙ w.in_ok-below.ensures.found told ∙ ap (λ (b : Bool). cond b [] (links_of tree directory)) (sym w.if-hides_names.false ∙ hides)
    ] in
    c.in_ok-merged.ensures
    ∙ ap (λ (changed : List (Link × Option ℕ)). merged link_cmp changed c.if-hides_names.below.items) c.names_of-changed.ensures
    ∙ ap (merged link_cmp (changed_names layer directory)) seen
    ∙ sym (links_of-through layer tree directory)
