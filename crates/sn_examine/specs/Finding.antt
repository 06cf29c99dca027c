-- What a mount reads of a disk.
use Rattle.std.specs.Prelude.{◌≡◌, ℕ, ◌+◌, Bool, true, List, ◌++◌}
use Rattle.sn_changed.specs.Changed.{HasChanged}
use Rattle.sn_device.specs.Sectors.{Contents}
use Rattle.sn_layout.specs.declared.geometry.Slot.{Slot}
use Rattle.sn_layout.specs.declared.root.RootBody.{RootBody}
use Rattle.sn_model.specs.Tree.{Tree}
use Rattle.sn_ondisk.specs.LogHalf.{HasNoLater, base_of}
use Rattle.sn_ondisk.specs.MapCopy.{HasMap}
use Rattle.sn_ondisk.specs.Roots.{IsNewest}
use Rattle.sn_ondisk.specs.Trees.{store_of}
use Rattle.sn_log.specs.Positions.{LogPosition}
use Rattle.sn_image.specs.Image.{image}
use Rattle.sn_sound.specs.Disks.{IsFormatted}
use Rattle.sn_model.specs.Settling.{nameless_in}
use Rattle.sn_held.specs.Rooms.{RoomCounts}
use Rattle.sn_sound.specs.Logs.{HasAgeLeft}
use Rattle.sn_held.specs.Held.{Kept}
use Rattle.sn_examine.specs.Ages.{TellsRecovery}
use Rattle.sn_examine.specs.Both.{HasBoth}
use Rattle.sn_examine.specs.Rooms.{FindsRoom}

-- A disk of n blocks has this newest root, and at the first place of neither half of its log is a record of an epoch later than the next.
pub record HasRoot (sectors : ℕ) (c : Contents) (n : ℕ) (slot : Slot) (root : RootBody) : Type 0 where
  pub formatted : IsFormatted sectors c n
  pub newest : IsNewest c slot root
  pub none_later : (epoch : ℕ) → HasNoLater c (base_of n epoch) (root.epoch + 1)

-- The tree of the newest root, with the records of both epochs on top of it, is this tree; the log continues at this position, what is charged for the records is no more than is free, all by the limits of that root, and where something is to recover an age is left. What is kept is that root with the words of its map, and what the records changed.
pub record HasFound (sectors : ℕ) (c : Contents) (k : Kept) (at : LogPosition) (tree : Tree) (room : RoomCounts) (recovers : Bool) : Type 0 where
  pub roots : HasRoot sectors c at.blocks k.slot k.root
  pub words : (words : List ℕ) → HasMap at.blocks c k.slot words → k.words ≡ words
  pub charges : ℕ
  pub both : HasBoth k.root.limits c (image (store_of c) k.root.inode_file) at.blocks k.root.epoch at tree charges
  pub changed : HasChanged k.root.limits k.changed (image (store_of c) k.root.inode_file) tree charges
  pub finds : FindsRoom at.blocks c k.slot k.root charges (nameless_in (image (store_of c) k.root.inode_file)) room
  pub recovery : TellsRecovery recovers k.root (both.has_older.all.replayed.changes ++ both.has_newer.all.replayed.changes) (image (store_of c) k.root.inode_file)
  pub age : recovers ≡ true → HasAgeLeft k.root
