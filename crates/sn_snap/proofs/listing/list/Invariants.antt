use Rattle.std.proofs.Common.{◌≡◌, ◌≤◌, length, take}
use Rattle.std.specs.FinMap as map
use Rattle.sn_snap.specs.Catalogue.{catalogue}
use Rattle.sn_snap.proofs.listing.list.Given as goal

abbrev pub invariant-loop-snapshot : goal.invariant-loop-snapshot
invariant-loop-snapshot l = record {
  keys : l.names.items ≡ map.keys (catalogue (take l.snapshot-index l.snapshots));
  few : length l.names.items ≤ l.snapshot-index;
}
