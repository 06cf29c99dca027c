-- What marks of all roots result in.
use Rattle.std.specs.Prelude.{◌≡◌, ◌↔◌, ℕ, List, slice_index}
use Rattle.std.specs.Int.{bit_at}
use Rattle.sn_ondisk.specs.Trees.{Store}
use Rattle.sn_sound.specs.Maps.{Rooted, IsReachedBy}

-- The word of each block is the set of those roots that reach it.
abbrev pub AreSets : Store → List Rooted → List ℕ → Type 0
AreSets s roots words = (block k : ℕ) → (bit_at (slice_index words block) k ≡ 1) ↔ IsReachedBy s roots block k
