use Rattle.std.proofs.Common.{drop}
use Rattle.std.specs.List.{AllByRecursion}
use Rattle.sn_layout.specs.Snapshot.{IsSnapshot}
use Rattle.sn_layout.proofs.snapshots.fit.Given as goal

abbrev pub invariant-loop-snapshot : goal.invariant-loop-snapshot
invariant-loop-snapshot l = AllByRecursion IsSnapshot (drop l.snapshot-index l.snapshots) → AllByRecursion IsSnapshot l.snapshots
