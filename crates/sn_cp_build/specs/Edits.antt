-- What becomes of the bits of snapshots. Bit 0 is the live tree's, and no snapshot's.
use Rattle.std.specs.Prelude.{◌≡◌, ◌≢◌, ℕ, List, length, slice_index}
use Rattle.std.specs.Int.{bit_at}
use Rattle.sn_cp_build.specs.declared.edits.SnapshotEdit.{SnapshotEdit}
use Rattle.sn_cp_build.specs.declared.edits.SnapshotEdit.TheVariants as edit

-- The bits of all snapshots are what they were.
pub record SnapshotsStay (old new : List ℕ) : Type 0 where
  pub others : (block k : ℕ) → k ≢ 0 → bit_at (slice_index new block) k ≡ bit_at (slice_index old block) k

-- A snapshot with this bit reaches what the live tree now reaches. The bits of the others are what they were.
pub record Freezes (bit : ℕ) (old new : List ℕ) : Type 0 where
  pub frozen : (block : ℕ) → bit_at (slice_index new block) bit ≡ bit_at (slice_index new block) 0
  pub others : (block k : ℕ) → k ≢ 0 → k ≢ bit → bit_at (slice_index new block) k ≡ bit_at (slice_index old block) k

-- A snapshot with this bit reaches nothing. The bits of the others are what they were.
pub record Thaws (bit : ℕ) (old new : List ℕ) : Type 0 where
  pub thawed : (block : ℕ) → bit_at (slice_index new block) bit ≡ 0
  pub others : (block k : ℕ) → k ≢ 0 → k ≢ bit → bit_at (slice_index new block) k ≡ bit_at (slice_index old block) k

-- What an edit makes of the bits of snapshots. It says nothing of bit 0.
abbrev pub IsEdited : SnapshotEdit → List ℕ → List ℕ → Type 0
IsEdited edit.None old new = SnapshotsStay old new
IsEdited (edit.Freeze bit) old new = Freezes bit old new
IsEdited (edit.Thaw bit) old new = Thaws bit old new
IsEdited (edit.Restore bit) old new = SnapshotsStay old new

-- the bit that says what a build begins from: that of a snapshot that is brought back, and else the live tree's
abbrev pub base_bit : SnapshotEdit → ℕ
base_bit (edit.Restore bit) = bit
base_bit edit = 0

-- Bit 0 becomes the bit of what the build begins from. The bits of snapshots are what they were.
pub record TakesBase (edit : SnapshotEdit) (old new : List ℕ) : Type 0 where
  pub as_many : length new ≡ length old
  pub live : (block : ℕ) → bit_at (slice_index new block) 0 ≡ bit_at (slice_index old block) (base_bit edit)
  pub others : (block k : ℕ) → k ≢ 0 → bit_at (slice_index new block) k ≡ bit_at (slice_index old block) k

-- An edit is made of words, whose bit 0 stays.
pub record EditsBits (edit : SnapshotEdit) (old new : List ℕ) : Type 0 where
  pub as_many : length new ≡ length old
  pub live : (block : ℕ) → bit_at (slice_index new block) 0 ≡ bit_at (slice_index old block) 0
  pub snapshots : IsEdited edit old new
