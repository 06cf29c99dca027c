use Rattle.std.proofs.Common.{◌≡◌, ◌⊎◌, ◌/◌, ◌%◌, ℕ, slice_index}
use Rattle.sn_names.specs.Place.{IsFrom}
use Rattle.sn_names.proofs.place.place_below.Given as goal

abbrev pub invariant-loop-k : goal.invariant-loop-k
invariant-loop-k l = record {
  placed : (i : ℕ) → (slice_index l.numbers i ≡ slice_index l.initial.numbers i)
      ⊎ (slice_index l.initial.numbers i ≡ 0) × (i / 1024 ≡ l.top) × IsFrom l.sectors l.pointers (i % 1024) (slice_index l.numbers i);
}
