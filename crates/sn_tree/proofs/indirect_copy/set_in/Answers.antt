use Rattle.std.proofs.Common.{set, sym, ◌∙◌, arith}
use Rattle.sn_layout_node.specs.Indirect.{pointers_of}
use Rattle.sn_layout_node.proofs.Numbers.{block_fits}
use Rattle.sn_tree.proofs.CopyLemmas.{are-set, one_reading}
use Rattle.sn_tree.proofs.indirect_copy.set_in.Goals as goal

pub returns : goal.returns
returns c =
    let old = pointers_of c.args.block.now in
    let wanted = are-set old c.args.index c.args.pointer (block_fits c.args.block.now c.fits-block) (omega (arith, c.ranges.pointer.fits)) in
    sym c.pointers_in.ensures.value ∙ one_reading c.pointers_in.result (set old c.args.index c.args.pointer) c.pointers_in.ensures.are wanted (sym c.pointers_in.ensures.bytes ∙ c.set_pointer.ensures)
