use Rattle.std.proofs.Common.{take}
use Rattle.sn_tree.specs.Drafts.{numbers_of}
use Rattle.sn_cp_build.specs.Bits.{PutsBits}
use Rattle.sn_cp_build.proofs.bits.set_added.Given as goal

abbrev pub invariant-loop-block : goal.invariant-loop-block
invariant-loop-block l = PutsBits 1 (numbers_of (take l.block-index l.added)) l.initial.map l.map
