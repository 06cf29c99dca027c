use Rattle.std.proofs.Common.{◌≡◌, ◌%◌, ◌<◌, ℕ, true, slice_index}
use Rattle.std.specs.List.{Contains}
use Rattle.sn_names.specs.Share.{shares}
use Rattle.sn_names.specs.Search.{HasAll}
use Rattle.sn_names.proofs.share.take_entries.Given as goal

abbrev pub invariant-loop-entry : goal.invariant-loop-entry
invariant-loop-entry l = record {
  kept : HasAll l.initial.taken.items l.taken.items;
  taken : (k : ℕ) → k < l.entry-index → shares l.numbers l.other.numbers.items l.other.rooms.items (slice_index l.entries k % 16384) ≡ true → Contains l.taken.items (slice_index l.entries k);
}
