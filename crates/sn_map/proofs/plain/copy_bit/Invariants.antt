use Rattle.std.proofs.Common.{◌≡◌, ◌++◌, map, take, drop}
use Rattle.sn_map.specs.Bits.{with_bit_copied}
use Rattle.sn_map.proofs.plain.copy_bit.Given as goal

-- the words so far are copied, and the others are as they were
abbrev pub invariant-loop-word : goal.invariant-loop-word
invariant-loop-word l = l.words ≡ map (with_bit_copied l.from l.to) (take l.word-index l.fn.words) ++ drop l.word-index l.fn.words
