-- Going through pointers, so many levels above data blocks, on behalf of a tree of some size. `first` is the byte of the tree that the first of them begins with.
use Rattle.std.specs.Prelude.{◌≡◌, ◌≢◌, ◌⊎◌, ℕ, zero, suc, ◌+◌, ◌*◌, ◌^◌, ◌<◌, ◌≤◌, ◌==◌, not, List, length, slice_index}
use Rattle.std.specs.List.{filter}
use Rattle.sn_model.specs.declared.fault.Damage.{Damage}
use Rattle.sn_model.specs.declared.fault.Damage.TheVariants.{Misspelt}
use Rattle.sn_ondisk.specs.Trees.{Store, named_by, below, all_pointers}
use Rattle.sn_marks.specs.Marks.{Marks, IsAstray}

-- the blocks that pointers name, without holes
abbrev pub named : List ℕ → List ℕ
named pointers = filter (λ pointer. not (pointer == 0)) pointers

-- The bytes of the data block at a pointer are 0 from an offset on.
abbrev pub HasEnd : Store → ℕ → ℕ → Type 0
HasEnd s from pointer = (k : ℕ) → k < 4096 → from ≤ k → slice_index (named_by s pointer) k ≡ 0

-- One of them isn't.
pub data HasTail (s : Store) (from pointer : ℕ) : Damage → ℕ → Type 0 where
  tail : (k : ℕ) → k < 4096 → from ≤ k → slice_index (named_by s pointer) k ≢ 0 → HasTail s from pointer Misspelt pointer

-- Nothing is past the size: no pointer, and in the last block no byte.
unfoldable pub EndsBelow : Store → ℕ → ℕ → ℕ → ℕ → Type 0
EndsBelow s size zero first pointer = (size ≤ first → pointer ≡ 0) × ((k : ℕ) → k < 4096 → size ≤ first + k → slice_index (named_by s pointer) k ≡ 0)
EndsBelow s size (suc height) first pointer = (size ≤ first → pointer ≡ 0)
    × ((j : ℕ) → j < 1024 → EndsBelow s size height (first + j * (4096 * 1024 ^ height)) (slice_index (below s pointer) j))

-- A pointer past the size. It is reported at the block that has it.
pub record IsPast (size first pointer holder block : ℕ) : Type 0 where
  pub past : size ≤ first
  pub some : pointer ≢ 0
  pub here : block ≡ holder

-- A byte past it, which is reported at its own block.
pub record HasByte (s : Store) (size first pointer block : ℕ) : Type 0 where
  pub k : ℕ
  pub within : k < 4096
  pub past : size ≤ first + k
  pub some : slice_index (named_by s pointer) k ≢ 0
  pub here : block ≡ pointer

-- Something is past the size.
unfoldable pub BreaksBelow : Store → ℕ → ℕ → ℕ → ℕ → ℕ → ℕ → Type 0
BreaksBelow s size zero first pointer holder block = IsPast size first pointer holder block ⊎ HasByte s size first pointer block
BreaksBelow s size (suc height) first pointer holder block = IsPast size first pointer holder block
    ⊎ ((j : ℕ) × (j < 1024) × BreaksBelow s size height (first + j * (4096 * 1024 ^ height)) (slice_index (below s pointer) j) pointer block)

-- All that these pointers reach was gone through, and nothing is past the size.
pub record IsWalked (n k : ℕ) (s : Store) (size height first : ℕ) (pointers old new : List ℕ) : Type 0 where
  pub marks : Marks n k (named (all_pointers s height pointers)) old new
  pub ends : (j : ℕ) → j < length pointers → EndsBelow s size height (first + j * (4096 * 1024 ^ height)) (slice_index pointers j)

-- It can't all be gone through, or something is past the size.
pub data IsBroken (n k : ℕ) (s : Store) (size height first : ℕ) (pointers : List ℕ) (holder : ℕ) (old : List ℕ) : Damage → ℕ → Type 0 where
  astray : (damage : Damage) (block : ℕ) → IsAstray n k (named (all_pointers s height pointers)) old damage block → IsBroken n k s size height first pointers holder old damage block
  misspelt : (block j : ℕ) → j < length pointers → BreaksBelow s size height (first + j * (4096 * 1024 ^ height)) (slice_index pointers j) holder block
      → IsBroken n k s size height first pointers holder old Misspelt block
