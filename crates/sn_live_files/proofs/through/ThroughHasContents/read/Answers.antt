use Rattle.std.proofs.Common.{◌≡◌, ℕ, List, Option, IfOk, drop, take, sym, ap, subst, ◌∙◌}
use Rattle.std.specs.FinMap as map
use Rattle.std.specs.Option.{option_copied}
use Rattle.sn_overlay.specs.declared.node.NodeChange.{NodeChange}
use Rattle.sn_overlay.specs.Layers.{bytes_of, node_seen, through}
use Rattle.sn_overlay.specs.Overlays.{layer_of}
use Rattle.sn_overlay.proofs.LayerLemmas.{get-through_nodes}
use Rattle.sn_live_files.proofs.through.ThroughHasContents.read.Goals as goal

pub returns-in-None-clause-found : goal.returns-in-None-clause-found
returns-in-None-clause-found g c told =
    let layer = layer_of c.args.self.now.overlay.now in
    let tree = g.B.Below.shows c.args.self.now.below.now in
    let number = c.args.number in
    let same : bytes_of (map.get tree.nodes number) ≡ bytes_of (map.get (through layer tree).nodes number) = ap bytes_of (sym (get-through_nodes layer tree number
    ∙ ap (λ (change : Option NodeChange). node_seen layer number change (map.get tree.nodes number)) (sym c.node.ensures ∙ ap option_copied c.in-None.is))) in
    subst (λ (bytes : List ℕ). IfOk c.read.result (λ read. read.items ≡ take c.args.most (drop c.args.offset bytes))) same (c.read.ensures.found told)
