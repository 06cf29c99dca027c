use Rattle.std.proofs.Common.{◌≡◌, ◌-◌, ◌≤◌, ◌++◌, length, map, take, drop}
use Rattle.sn_map.specs.Bits.{with_bit_cleared}
use Rattle.sn_map.proofs.lanes.clear_bit.Given as goal

abbrev pub invariant-vectors : goal.invariant-vectors
invariant-vectors l = (l.at ≤ length l.words) × (l.words ≡ map (with_bit_cleared l.k) (take l.at l.fn.words) ++ drop l.at l.fn.words)

abbrev pub decreases-vectors : goal.decreases-vectors
decreases-vectors l = length l.initial.words - l.at
