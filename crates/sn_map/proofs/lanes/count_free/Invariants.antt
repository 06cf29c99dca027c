use Rattle.std.proofs.Common.{◌≡◌, ◌-◌, ◌≤◌, length, take, count_by}
use Rattle.sn_map.specs.Free.{is_free_word}
use Rattle.sn_map.proofs.lanes.count_free.Given as goal

abbrev pub invariant-vectors : goal.invariant-vectors
invariant-vectors l = (l.at ≤ length l.words) × (l.count ≡ count_by is_free_word (take l.at l.words))

abbrev pub decreases-vectors : goal.decreases-vectors
decreases-vectors l = length l.words - l.at
