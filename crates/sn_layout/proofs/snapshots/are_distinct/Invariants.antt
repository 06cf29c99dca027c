use Rattle.std.proofs.Common.{◌≡◌, drop}
use Rattle.sn_layout.specs.Snapshot.{are_distinct}
use Rattle.sn_layout.proofs.snapshots.are_distinct.Given as goal

abbrev pub invariant-loop-i : goal.invariant-loop-i
invariant-loop-i l = are_distinct l.snapshots ≡ are_distinct (drop l.i l.snapshots)
