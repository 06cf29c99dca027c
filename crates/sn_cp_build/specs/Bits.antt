-- What becomes of the bits of the block map.
use Rattle.std.specs.Prelude.{◌≡◌, ◌≢◌, ◌↔◌, ℕ, ◌+◌, ◌≤◌, List, length, slice_index, Contains}
use Rattle.std.specs.Int.{bit_at}
use Rattle.sn_ondisk.specs.Counts.{times}
use Rattle.sn_cp_build.specs.Edits.{IsEdited, base_bit}
use Rattle.sn_cp_build.specs.declared.edits.SnapshotEdit.{SnapshotEdit}

-- Bit k of a block's word is set exactly if the block is among these.
abbrev pub TellsBit : ℕ → List ℕ → List ℕ → Type 0
TellsBit k words reached = (block : ℕ) → (bit_at (slice_index words block) k ≡ 1) ↔ Contains reached block

-- bit 0, which is the live tree's
abbrev pub TellsBlocks : List ℕ → List ℕ → Type 0
TellsBlocks words reached = TellsBit 0 words reached

-- Bit 0 of the words of some blocks is the given one. Their other bits and the other words are what they were.
pub record PutsBits (bit : ℕ) (blocks old new : List ℕ) : Type 0 where
  pub as_many : length new ≡ length old
  pub put : (block : ℕ) → Contains blocks block → bit_at (slice_index new block) 0 ≡ bit
  pub others : (block k : ℕ) → k ≢ 0 → bit_at (slice_index new block) k ≡ bit_at (slice_index old block) k
  pub elsewhere : (block : ℕ) → ¬ Contains blocks block → slice_index new block ≡ slice_index old block

-- What is reached, with what was released, is what was reached with what was added, each block as often, but for 0, which is no block of the data area. What was reached had no block twice and none of those that were added, and none was added twice.
pub record MakesUp (was is added released : List ℕ) : Type 0 where
  pub sum : (block : ℕ) → block ≢ 0 → times block is + times block released ≡ times block was + times block added
  pub once : (block : ℕ) → times block was + times block added ≤ 1
  pub no_zero : times 0 is + times 0 was + times 0 added ≡ 0

-- The map says what is reached where it did before in the bit that the build begins from, and the bits of snapshots are edited.
pub record BitsFollow (added released : List ℕ) (edit : SnapshotEdit) (old new : List ℕ) : Type 0 where
  pub as_many : length new ≡ length old
  pub snapshots : IsEdited edit old new
  pub tells : (was is : List ℕ) → MakesUp was is added released → TellsBit (base_bit edit) old was → TellsBlocks new is
