use Rattle.std.proofs.Common.{ap, ◌∙◌}
use Rattle.sn_model.specs.Tree.{link_cmp}
use Rattle.sn_overlay.specs.Keys.{file_block_cmp}
use Rattle.sn_overlay.specs.Overlays.{nodes_of, names_of, blocks_of}
use Rattle.sn_overlay.specs.Sorted.{put_each, newer_value}
use Rattle.sn_overlay.proofs.MergedLemmas.{merged_nodes, merged_names, merged_blocks}
use Rattle.sn_overlay.proofs.overlay.Overlay.merge.Goals as goal

pub returns-clause-layer : goal.returns-clause-layer
returns-clause-layer c =
    let old = c.args.self.now in
    let new = c.args.newer in
    let nodes = ap nodes_of c.lay_over.ensures.entries ∙ merged_nodes old.nodes.entries.items new.nodes.entries.items old.names.entries.items new.names.entries.items old.blocks.entries.items new.blocks.entries.items new.nodes.sorted in
    let names = ap names_of (c.extend.ensures.entries ∙ ap (put_each link_cmp newer_value new.names.entries.items) c.retain_seen.ensures.entries)
    ∙ merged_names old.nodes.entries.items new.nodes.entries.items old.names.entries.items new.names.entries.items old.blocks.entries.items new.blocks.entries.items new.names.sorted in
    let blocks = ap blocks_of (c.extend-2.ensures.entries ∙ ap (put_each file_block_cmp newer_value new.blocks.entries.items) c.retain_seen-2.ensures.entries)
    ∙ merged_blocks old.nodes.entries.items new.nodes.entries.items old.names.entries.items new.names.entries.items old.blocks.entries.items new.blocks.entries.items new.blocks.sorted in
    λ i. record { nodes = nodes i; names = names i; blocks = blocks i }
