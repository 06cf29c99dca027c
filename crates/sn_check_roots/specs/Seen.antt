-- Roots of a disk that have one inode file.
use Rattle.std.specs.Prelude.{◌≡◌, ℕ, ◌<◌, List, slice_index_or}
use Rattle.sn_sound.specs.Maps.{Rooted}

-- Two of these roots have one inode file.
abbrev pub HaveOneFile : List Rooted → ℕ → ℕ → Type 0
HaveOneFile roots i j = (other : Rooted) → (slice_index_or roots i other).inodes ≡ (slice_index_or roots j other).inodes

-- None of the first so many has that of root i.
abbrev pub NoneHasFileOf : List Rooted → ℕ → ℕ → Type 0
NoneHasFileOf roots i count = (j : ℕ) → j < count → HaveOneFile roots i j → ⊥

-- Root j is the first that has the inode file of root i, and is before it.
pub record IsFirstSeen (roots : List Rooted) (i j : ℕ) : Type 0 where
  pub before : j < i
  pub same : HaveOneFile roots i j
  pub first : NoneHasFileOf roots i j
