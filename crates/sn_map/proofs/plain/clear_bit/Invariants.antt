use Rattle.std.proofs.Common.{◌≡◌, ◌++◌, map, take, drop}
use Rattle.sn_map.specs.Bits.{with_bit_cleared}
use Rattle.sn_map.proofs.plain.clear_bit.Given as goal

-- the words so far are cleared, and the others are as they were
abbrev pub invariant-loop-word : goal.invariant-loop-word
invariant-loop-word l = l.words ≡ map (with_bit_cleared l.k) (take l.word-index l.fn.words) ++ drop l.word-index l.fn.words
