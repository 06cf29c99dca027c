use Rattle.std.proofs.Common.{◌≡◌, ℕ, Bool, true, false, cond, Option, None, IfOk, sym, ap, subst, ◌∙◌}
use Rattle.std.specs.FinMap as map
use Rattle.sn_overlay.specs.Layers.{through, hides_names, name_seen}
use Rattle.sn_overlay.specs.Overlays.{layer_of}
use Rattle.sn_overlay.proofs.LayerLemmas.{get-through_links}
use Rattle.sn_overlay.proofs.through.ThroughBelow.link.Goals as goal

pub returns-in-Some-clause-found : goal.returns-in-Some-clause-found
returns-in-Some-clause-found g c told =
    let layer = layer_of c.args.self.now.overlay.now in
    let tree = g.B.Below.shows c.args.self.now.below.now in
    let link = c.args.link.now in
    sym (get-through_links layer tree link ∙ ap (λ (found : Option (Option ℕ)). name_seen layer link found (map.get tree.links link)) (sym c.name.ensures ∙ c.in-Some.is))

pub returns-then-hides_names-clause-found : goal.returns-then-hides_names-clause-found
returns-then-hides_names-clause-found g c told =
    let layer = layer_of c.args.self.now.overlay.now in
    let tree = g.B.Below.shows c.args.self.now.below.now in
    let link = c.args.link.now in
    let hidden : hides_names (map.get layer.nodes link.directory) ≡ true = ap hides_names (sym c.node.ensures) ∙ sym c.hides_names.ensures ∙ c.if-hides_names.true in
    sym (get-through_links layer tree link ∙ ap (λ (found : Option (Option ℕ)). name_seen layer link found (map.get tree.links link)) (sym c.name.ensures ∙ c.in_default.is)
    ∙ ap (λ (b : Bool). cond b None (map.get tree.links link)) hidden)

pub returns-clause-found : goal.returns-clause-found
returns-clause-found g c told =
    let layer = layer_of c.args.self.now.overlay.now in
    let tree = g.B.Below.shows c.args.self.now.below.now in
    let link = c.args.link.now in
    let seen : hides_names (map.get layer.nodes link.directory) ≡ false = ap hides_names (sym c.node.ensures) ∙ sym c.hides_names.ensures ∙ c.if-hides_names.false in
    let same : map.get tree.links link ≡ map.get (through layer tree).links link = sym (get-through_links layer tree link ∙ ap (λ (found : Option (Option ℕ)). name_seen layer link found (map.get tree.links link)) (sym c.name.ensures ∙ c.in_default.is)
    ∙ ap (λ (b : Bool). cond b None (map.get tree.links link)) seen) in
    subst (λ (number : Option ℕ). IfOk c.link.result (λ n. n ≡ number)) same (c.link.ensures.found told)
