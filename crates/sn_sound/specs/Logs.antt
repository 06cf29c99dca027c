-- What the log of a disk holds on top of its newest root, and when that is sound.
use Rattle.std.specs.Prelude.{◌≡◌, ◌≢◌, ◌⊎◌, ℕ, ◌+◌, ◌/◌, ◌^◌, ◌≤◌, List, [], ◌++◌, Some, None}
use Rattle.sn_device.specs.Sectors.{Contents}
use Rattle.sn_limits.specs.declared.limits.Limits.{Limits}
use Rattle.sn_limits.specs.Versions.{limits_written}
use Rattle.sn_layout.specs.declared.geometry.Area.TheVariants.{Log}
use Rattle.sn_layout.specs.declared.root.RootBody.{RootBody}
use Rattle.sn_layout.specs.Geometry.{start_of, half_of_epoch}
use Rattle.sn_model.specs.declared.change.Change.{Change}
use Rattle.sn_model.specs.Changes.{apply, apply_all}
use Rattle.sn_model.specs.Tree.{Tree}
use Rattle.sn_ondisk.specs.LogHalf.{base_of, HasNoLater, Replays}
use Rattle.sn_ondisk.specs.Trees.{store_of}
use Rattle.sn_image.specs.Image.{image}
use Rattle.sn_log.specs.Positions.{LogPosition, IsBehind, base_at, payloads_of}
use Rattle.sn_log.specs.Replaying.{Finds}
use Rattle.sn_log.specs.declared.replay.NextRecord.TheVariants as found
use Rattle.sn_opening.specs.Spelled.{AreSpelled}
use Rattle.sn_model.specs.Settling.{nameless_in}
use Rattle.sn_sound.specs.Charges.{Fits}

-- The records of an epoch spell these changes, all of them, which make this tree of another.
pub record AreReplayed (c : Contents) (limits : Limits) (from : Tree) (n epoch : ℕ) (changes : List Change) (tree : Tree) : Type 0 where
  pub spelled : AreSpelled changes
  pub records : Replays c (base_of n epoch) epoch (payloads_of changes)
  pub applied : apply_all limits changes from ≡ Some tree

-- a mount of this ends in a consistency point: the root isn't of the written version, a record is replayed, or a file without names is dropped
abbrev pub IsToRecover : RootBody → List Change → Tree → Type 0
IsToRecover root changes tree = (root.limits.version ≢ limits_written.version) ⊎ (changes ≢ []) ⊎ (nameless_in tree ≢ 0)

-- and that point has a root to write
pub record HasAgeLeft (root : RootBody) : Type 0 where
  pub generation : root.generation + 1 ≤ 2 ^ 62
  pub epoch : root.epoch + 2 ≤ 2 ^ 62

-- The log is sound on top of the root: replay finds changes of its epoch and then of the next, they can be made in their order, at the first place of neither half is a record of a later epoch, what was charged fits in the free blocks, and a recovery has an age left.
pub record HasSoundLog (n : ℕ) (c : Contents) (root : RootBody) (free : ℕ) : Type 0 where
  pub older : List Change
  pub newer : List Change
  pub middle : Tree
  pub tree : Tree
  pub has_older : AreReplayed c root.limits (image (store_of c) root.inode_file) n root.epoch older middle
  pub has_newer : AreReplayed c root.limits middle n (root.epoch + 1) newer tree
  pub none_later : (epoch : ℕ) → HasNoLater c (base_of n epoch) (root.epoch + 1)
  pub fits : Fits root.limits (older ++ newer) (image (store_of c) root.inode_file) free
  pub age : IsToRecover root (older ++ newer) tree → HasAgeLeft root

-- ---- its faults

-- At the position is a record of the epoch that is no change's or has another number than it is to have, or one of a change that can't be made of this tree.
abbrev pub IsBad : Contents → Limits → Tree → LogPosition → ℕ → Type 0
IsBad c limits tree at block = Finds c at (found.Misspelt block) ⊎ ((change : Change) × Finds c at (found.Change change) × (apply limits change tree ≡ None) × (block ≡ (base_at at + at.place) / 8))

-- Replay of an epoch meets such a record: the changes before it make a tree, and it is bad there. The block is that of its gate.
pub record BreaksAt (c : Contents) (limits : Limits) (from : Tree) (n epoch block : ℕ) : Type 0 where
  pub at : LogPosition
  pub blocks : at.blocks ≡ n
  pub of_epoch : at.epoch ≡ epoch
  pub changes : List Change
  pub tree : Tree
  pub spelled : AreSpelled changes
  pub behind : IsBehind at changes c
  pub applied : apply_all limits changes from ≡ Some tree
  pub bad : IsBad c limits tree at block

-- the first block of an epoch's half
abbrev pub half_block : ℕ → ℕ → ℕ
half_block n epoch = start_of n (Log (half_of_epoch epoch))

-- The log has a fault at this block. That what is recorded doesn't fit or can't be recovered is reported at the half of the root's epoch.
pub data IsLogFault (n : ℕ) (c : Contents) (root : RootBody) (free : ℕ) : ℕ → Type 0 where
  older : (block : ℕ) → BreaksAt c root.limits (image (store_of c) root.inode_file) n root.epoch block → IsLogFault n c root free block
  newer : (block : ℕ) (changes : List Change) (tree : Tree) → AreReplayed c root.limits (image (store_of c) root.inode_file) n root.epoch changes tree
      → BreaksAt c root.limits tree n (root.epoch + 1) block → IsLogFault n c root free block
  later : (epoch : ℕ) → (HasNoLater c (base_of n epoch) (root.epoch + 1) → ⊥) → IsLogFault n c root free (half_block n epoch)
  charges : (older newer : List Change) (middle tree : Tree) → AreReplayed c root.limits (image (store_of c) root.inode_file) n root.epoch older middle → AreReplayed c root.limits middle n (root.epoch + 1) newer tree
      → (Fits root.limits (older ++ newer) (image (store_of c) root.inode_file) free → ⊥) → IsLogFault n c root free (half_block n root.epoch)
  age : (older newer : List Change) (middle tree : Tree) → AreReplayed c root.limits (image (store_of c) root.inode_file) n root.epoch older middle → AreReplayed c root.limits middle n (root.epoch + 1) newer tree
      → IsToRecover root (older ++ newer) tree → (HasAgeLeft root → ⊥) → IsLogFault n c root free (half_block n root.epoch)
