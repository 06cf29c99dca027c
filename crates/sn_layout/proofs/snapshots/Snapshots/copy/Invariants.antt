use Rattle.std.proofs.Common.{◌≡◌, take}
use Rattle.sn_layout.proofs.snapshots.Snapshots.copy.Given as goal

abbrev pub invariant-loop-snapshot : goal.invariant-loop-snapshot
invariant-loop-snapshot l = l.copy ≡ take l.snapshot-index l.list
