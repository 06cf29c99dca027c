-- The root of a mounted file system, and the log on top of it.
use Rattle.std.specs.Prelude.{◌≡◌, ℕ, ◌+◌, List, ◌++◌, Some, slice_index}
use Rattle.sn_device.specs.Disk.{Disk, Always, reads}
use Rattle.sn_layout.specs.declared.geometry.Slot.{Slot}
use Rattle.sn_layout.specs.declared.root.RootBody.{RootBody}
use Rattle.sn_model.specs.declared.change.Change.{Change}
use Rattle.sn_model.specs.Changes.{apply_all}
use Rattle.sn_model.specs.Tree.{Tree}
use Rattle.sn_ondisk.specs.LogHalf.{HasNoLater, base_of}
use Rattle.sn_ondisk.specs.MapCopy.{HasMap}
use Rattle.sn_ondisk.specs.Trees.{Store}
use Rattle.sn_image.specs.Image.{image}
use Rattle.sn_opening.specs.Opens.{IsDisk, Shows}
use Rattle.sn_opening.specs.Spelled.{AreSpelled}
use Rattle.sn_sound.specs.Charges.{Fits}
use Rattle.sn_sound.specs.Logs.{HasAgeLeft, IsToRecover}
use Rattle.sn_sound.specs.Maps.{IsSoundRoot, free_blocks}

-- The root is in place, whatever a crash leaves, with its records, its blocks and its map, and is sound. `s` has the blocks as they were when it was made, and `words` are those of its map.
pub record RootStands (n : ℕ) (d : Disk) (s : Store) (slot : Slot) (root : RootBody) (words : List ℕ) (older newer : List Change) : Type 0 where
  pub disk : IsDisk n (reads d)
  pub shows : Always d (Shows n s slot root older newer)
  pub map : Always d (λ c. HasMap n c slot words)
  pub sound : IsSoundRoot n s root (slice_index words)

-- The log on top of it is sound, whatever a crash leaves: its changes have records and can be made in their order, what they were charged fits in the blocks that the root leaves free, and a recovery has an age left.
pub record LogStands (n : ℕ) (d : Disk) (s : Store) (root : RootBody) (older newer : List Change) : Type 0 where
  pub older_spelled : AreSpelled older
  pub newer_spelled : AreSpelled newer
  pub middle : Tree
  pub tree : Tree
  pub older_made : apply_all root.limits older (image s root.inode_file) ≡ Some middle
  pub newer_made : apply_all root.limits newer middle ≡ Some tree
  pub none_later : (epoch : ℕ) → Always d (λ c. HasNoLater c (base_of n epoch) (root.epoch + 1))
  pub fits : Fits root.limits (older ++ newer) (image s root.inode_file) (free_blocks n s root)
  pub age : IsToRecover root (older ++ newer) tree → HasAgeLeft root
