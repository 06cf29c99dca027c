use Rattle.std.proofs.Common.{◌≡◌, ◌-◌, ◌≤◌, ◌++◌, length, map, take, drop}
use Rattle.sn_map.specs.Bits.{with_bit_copied}
use Rattle.sn_map.proofs.lanes.copy_bit.Given as goal

abbrev pub invariant-vectors : goal.invariant-vectors
invariant-vectors l = (l.at ≤ length l.words) × (l.words ≡ map (with_bit_copied l.from l.to) (take l.at l.fn.words) ++ drop l.at l.fn.words)

abbrev pub decreases-vectors : goal.decreases-vectors
decreases-vectors l = length l.initial.words - l.at
