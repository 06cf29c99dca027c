use Rattle.std.proofs.Common.{◌≡◌, ◌+◌, drop}
use Rattle.sn_layout.specs.Snapshot.{index_of}
use Rattle.sn_layout.proofs.snapshots.index_of.Given as goal

abbrev pub invariant-loop-snapshot : goal.invariant-loop-snapshot
invariant-loop-snapshot l = record {
  count : l.count ≡ l.snapshot-index;
  index : index_of l.bit l.snapshots ≡ l.count + index_of l.bit (drop l.snapshot-index l.snapshots);
}
