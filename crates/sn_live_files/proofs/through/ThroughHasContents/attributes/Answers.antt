use Rattle.std.proofs.Common.{◌≡◌, Option, Some, IfOk, sym, ap, subst, ◌∙◌}
use Rattle.std.specs.Option.{option_copied, option_map}
use Rattle.sn_walk.specs.declared.view.Attributes.{Attributes}
use Rattle.sn_overlay.specs.declared.node.NodeChange.{NodeChange}
use Rattle.sn_overlay.specs.Layers.{through}
use Rattle.sn_overlay.specs.Overlays.{layer_of}
use Rattle.sn_overlay.specs.Seen.{seen_node, node_shown}
use Rattle.sn_overlay.proofs.SeenLemmas.{seen_node-through}
use Rattle.sn_live_files.specs.Known.{attributes_of}
use Rattle.sn_live_files.proofs.through.ThroughHasContents.attributes.Goals as goal

pub returns-in-Some-Gone-clause-found : goal.returns-in-Some-Gone-clause-found
returns-in-Some-Gone-clause-found g c told =
    let layer = layer_of c.args.self.now.overlay.now in
    let tree = g.B.Below.shows c.args.self.now.below.now in
    sym (ap (option_map attributes_of) (seen_node-through layer tree c.args.number (c.requires.1 told).counts
    ∙ ap (λ (change : Option NodeChange). node_shown change (seen_node tree c.args.number)) (sym c.node.ensures ∙ ap option_copied c.in-Some-Gone.is ∙ ap (λ (change : NodeChange). Some change) c.in-Some-Gone.field-0-is)))

pub returns-in-Some-Changed-clause-found : goal.returns-in-Some-Changed-clause-found
returns-in-Some-Changed-clause-found g c told =
    let layer = layer_of c.args.self.now.overlay.now in
    let tree = g.B.Below.shows c.args.self.now.below.now in
    ap (λ (a : Attributes). Some a) c.attributes_of.ensures
    ∙ sym (ap (option_map attributes_of) (seen_node-through layer tree c.args.number (c.requires.1 told).counts
    ∙ ap (λ (change : Option NodeChange). node_shown change (seen_node tree c.args.number)) (sym c.node.ensures ∙ ap option_copied c.in-Some-Changed.is ∙ ap (λ (change : NodeChange). Some change) c.in-Some-Changed.field-0-is)))

pub returns-in-None-clause-found : goal.returns-in-None-clause-found
returns-in-None-clause-found g c told =
    let layer = layer_of c.args.self.now.overlay.now in
    let tree = g.B.Below.shows c.args.self.now.below.now in
    let same : seen_node tree c.args.number ≡ seen_node (through layer tree) c.args.number = sym (seen_node-through layer tree c.args.number (c.requires.1 told).counts
    ∙ ap (λ (change : Option NodeChange). node_shown change (seen_node tree c.args.number)) (sym c.node.ensures ∙ ap option_copied c.in-None.is)) in
    subst (λ (a : Option Attributes). IfOk c.attributes.result (λ found. found ≡ a)) (ap (option_map attributes_of) same) (c.attributes.ensures.found told)
