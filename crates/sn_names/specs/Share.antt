-- What an index takes over from another one.
use Rattle.std.specs.Prelude.{ℕ, Bool, not, ◌&&◌, ◌==◌, List, Option, None, is_some, slice_index, slice_index_or}

-- block i is known to the other, and at the same place in both
abbrev pub shares : List ℕ → List ℕ → List (Option ℕ) → ℕ → Bool
shares numbers others rooms i = not (slice_index numbers i == 0) && (slice_index numbers i == slice_index others i) && is_some (slice_index_or rooms i None)
