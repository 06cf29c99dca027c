use Rattle.std.proofs.Common.{◌≡◌, Some, length}
use Rattle.sn_walk.specs.Paths.{last_after, last_of}
use Rattle.sn_walk.proofs.path.Path.last.Given as goal

abbrev pub invariant-loop-next : goal.invariant-loop-next
invariant-loop-next l = Some (last_after l.name l.rest) ≡ last_of l.self

abbrev pub decreases-loop-next : goal.decreases-loop-next
decreases-loop-next l = length l.rest
