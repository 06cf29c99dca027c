use Rattle.std.proofs.Common.{◌≡◌, ◌⊎◌, ℕ, slice_index}
use Rattle.sn_names.specs.Place.{IsFrom}
use Rattle.sn_names.proofs.place.place_first.Given as goal

abbrev pub invariant-loop-i : goal.invariant-loop-i
invariant-loop-i l = record {
  placed : (i : ℕ) → (slice_index l.numbers i ≡ slice_index l.initial.numbers i) ⊎ IsFrom l.sectors l.pointers i (slice_index l.numbers i);
}
