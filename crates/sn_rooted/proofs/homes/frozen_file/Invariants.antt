use Rattle.std.proofs.Common.{◌≡◌, drop}
use Rattle.sn_rooted.specs.Roots.{snapshot_named}
use Rattle.sn_rooted.proofs.homes.frozen_file.Given as goal

abbrev pub invariant-loop-snapshot : goal.invariant-loop-snapshot
invariant-loop-snapshot l = snapshot_named l.name l.snapshots ≡ snapshot_named l.name (drop l.snapshot-index l.snapshots)
