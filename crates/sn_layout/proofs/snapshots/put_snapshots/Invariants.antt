use Rattle.std.proofs.Common.{ℕ, ◌≤◌, drop, ◌≡◌, ◌+◌, ◌*◌, ◌++◌, take}
use Rattle.sn_layout.specs.Snapshot.{snapshots_bytes}
use Rattle.sn_layout.proofs.snapshots.put_snapshots.Given as goal

abbrev pub invariant-loop-snapshot : goal.invariant-loop-snapshot
invariant-loop-snapshot l = record {
  next : l.next ≡ l.at + 112 * l.snapshot-index;
  front : take l.next l.block ≡ take l.at l.initial.block ++ snapshots_bytes (take l.snapshot-index l.snapshots);
  back : (n : ℕ) → l.next ≤ n → drop n l.block ≡ drop n l.initial.block;
}
