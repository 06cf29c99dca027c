use Rattle.std.proofs.Common.{ap, ◌∙◌}
use Rattle.sn_overlay.specs.Overlays.{nodes_of, names_of, blocks_of}
use Rattle.sn_overlay.proofs.MergedLemmas.{dropped_nodes, dropped_names, dropped_blocks}
use Rattle.sn_overlay.proofs.overlay.Overlay.drop_node.Goals as goal

pub returns-clause-layer : goal.returns-clause-layer
returns-clause-layer c =
    let old = c.args.self.now in
    let nodes = ap nodes_of c.insert.ensures.entries ∙ dropped_nodes old.nodes.entries.items old.names.entries.items old.blocks.entries.items c.args.number c.args.by_close in
    let names = ap names_of c.retain_others.ensures.entries ∙ dropped_names old.nodes.entries.items old.names.entries.items old.blocks.entries.items c.args.number c.args.by_close in
    let blocks = ap blocks_of c.retain_others-2.ensures.entries ∙ dropped_blocks old.nodes.entries.items old.names.entries.items old.blocks.entries.items c.args.number c.args.by_close in
    λ i. record { nodes = nodes i; names = names i; blocks = blocks i }
