use Rattle.std.proofs.Common.{◌-◌, ◌≤◌, length}
use Rattle.sn_map.proofs.FreeLemmas.{NoneBelow}
use Rattle.sn_map.proofs.lanes.first_free_by_vectors.Given as goal

abbrev pub invariant-vectors : goal.invariant-vectors
invariant-vectors l = (l.at ≤ length l.words) × NoneBelow l.words l.at

abbrev pub decreases-vectors : goal.decreases-vectors
decreases-vectors l = length l.words - l.at
