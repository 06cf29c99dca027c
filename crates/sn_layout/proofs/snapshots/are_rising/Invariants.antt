use Rattle.std.proofs.Common.{◌≡◌, drop}
use Rattle.sn_layout.specs.Snapshot.{are_rising}
use Rattle.sn_layout.proofs.snapshots.are_rising.Given as goal

abbrev pub invariant-loop-snapshot : goal.invariant-loop-snapshot
invariant-loop-snapshot l = are_rising 0 l.snapshots ≡ are_rising l.before (drop l.snapshot-index l.snapshots)
