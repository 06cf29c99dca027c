use Rattle.std.proofs.Common.{not, eqb, sym, ap, ◌∙◌}
use Rattle.sn_overlay.specs.Lists.{without_blocks, written_blocks}
use Rattle.sn_overlay.specs.Overlays.{layer_of, blocks_of}
use Rattle.sn_overlay.specs.Sorted.{bytes_by_file_block}
use Rattle.sn_overlay.proofs.ListLemmas.{blocks_of-kept, kept-blocks_of}
use Rattle.sn_overlay.proofs.overlay.Overlay.take_blocks.Goals as goal

pub returns-clause-taken : goal.returns-clause-taken
unfolding written_blocks
returns-clause-taken c =
    let old = c.args.self.now.blocks in
    ap bytes_by_file_block c.in_ok-taken.ensures.taken ∙ sym (kept-blocks_of old.entries.items (λ file_block. eqb file_block.file c.args.file) old.sorted)

pub returns-clause-left : goal.returns-clause-left
unfolding without_blocks
returns-clause-left c = ap (λ blocks. record (layer_of c.args.self.now) { blocks = blocks }) (ap blocks_of c.in_ok-taken.ensures.left ∙ blocks_of-kept c.args.self.now.blocks.entries.items (λ file_block. not (eqb file_block.file c.args.file)))
