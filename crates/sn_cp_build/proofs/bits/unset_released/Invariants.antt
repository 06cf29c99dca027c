use Rattle.std.proofs.Common.{take}
use Rattle.sn_cp_build.specs.Bits.{PutsBits}
use Rattle.sn_cp_build.proofs.bits.unset_released.Given as goal

abbrev pub invariant-loop-block : goal.invariant-loop-block
invariant-loop-block l = PutsBits 0 (take l.block-index l.released) l.initial.map l.map
