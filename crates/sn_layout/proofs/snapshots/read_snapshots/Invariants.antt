use Rattle.std.proofs.Common.{◌≡◌, ℕ, ◌+◌, ◌*◌, ◌++◌, List, length}
use Rattle.std.specs.List.{AllByRecursion}
use Rattle.sn_layout.specs.declared.snapshot.Snapshot.{Snapshot}
use Rattle.sn_layout.specs.Snapshot.{IsSnapshot, snapshot_bytes, snapshots_bytes}
use Rattle.sn_bytes.proofs.Reading.{AreLeft}
use Rattle.sn_layout.proofs.snapshots.read_snapshots.Given as goal

abbrev pub invariant-loop : goal.invariant-loop
invariant-loop l = record {
  count : length l.all ≡ l.counter;
  each : AllByRecursion IsSnapshot l.all;
  read : l.initial.reader ≡ snapshots_bytes l.all ++ l.reader;
  left : length l.reader + 112 * l.counter ≡ length l.initial.reader;
  only : (others : List Snapshot) (rest : List ℕ) → length others ≡ l.count → AllByRecursion IsSnapshot others
      → l.initial.reader ≡ snapshots_bytes others ++ rest → AreLeft IsSnapshot snapshot_bytes l.all others l.reader rest;
}
