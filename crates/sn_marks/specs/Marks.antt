-- Which blocks were gone through, marked in the words of a map.
use Rattle.std.specs.Prelude.{◌≡◌, ◌≢◌, ℕ, ◌+◌, ◌≤◌, List, slice_index, Contains}
use Rattle.std.specs.Int.{bit_at}
use Rattle.sn_layout.specs.declared.geometry.Area.TheVariants.{Data}
use Rattle.sn_layout.specs.Geometry.{IsIn}
use Rattle.sn_model.specs.declared.fault.Damage.{Damage}
use Rattle.sn_model.specs.declared.fault.Damage.TheVariants.{Pointer, ReachedTwice}
use Rattle.sn_ondisk.specs.Counts.{times}

-- These blocks were gone through: bit k of a word counts how often its block is among them, and all of them are in the data area of a disk of n blocks.
pub record Marks (n k : ℕ) (blocks old new : List ℕ) : Type 0 where
  pub counted : (block : ℕ) → bit_at (slice_index new block) k ≡ bit_at (slice_index old block) k + times block blocks
  pub others : (block other : ℕ) → other ≢ k → bit_at (slice_index new block) other ≡ bit_at (slice_index old block) other
  pub within : (block : ℕ) → Contains blocks block → IsIn n Data block

-- These blocks can't all be gone through: one is outside the data area, or is among them once more than its bit has room for.
pub data IsAstray (n k : ℕ) (blocks old : List ℕ) : Damage → ℕ → Type 0 where
  outside : (block : ℕ) → Contains blocks block → (IsIn n Data block → ⊥) → IsAstray n k blocks old Pointer block
  twice : (block : ℕ) → 2 ≤ bit_at (slice_index old block) k + times block blocks → IsAstray n k blocks old ReachedTwice block
