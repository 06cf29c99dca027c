use Rattle.std.proofs.Common.{ℕ, ◌<◌, slice_index_or}
use Rattle.sn_tree.specs.declared.new_block.NewBlock.{NewBlock}
use Rattle.sn_cp_whole.specs.Planning.{IsWholeBlock}
use Rattle.sn_cp_whole.proofs.planning.blocks_fit.Given as goal

abbrev pub invariant-loop-block : goal.invariant-loop-block
invariant-loop-block l = (k : ℕ) (d : NewBlock) → k < l.block-index → IsWholeBlock (slice_index_or l.blocks k d)
