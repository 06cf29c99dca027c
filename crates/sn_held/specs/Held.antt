-- What a mounted file system over a root holds, and what that means.
use Rattle.std.specs.Prelude.{◌≡◌, ◌⊎◌, ℕ, ◌+◌, Bool, List, [], ◌++◌, Option}
use Rattle.sn_changed.specs.Changed.{HasChanged}
use Rattle.sn_device.specs.Disk.{Disk, Always, IsSynced}
use Rattle.sn_device.specs.declared.status.Status.{Status}
use Rattle.sn_layout.specs.declared.geometry.Slot.{Slot}
use Rattle.sn_layout.specs.declared.root.RootBody.{RootBody}
use Rattle.sn_layout.specs.Superblock.{superblock_bytes}
use Rattle.sn_limits.specs.Versions.{limits_written}
use Rattle.sn_model.specs.declared.change.Change.{Change}
use Rattle.sn_model.specs.NameTree.{IsTree}
use Rattle.sn_model.specs.Tree.{Tree}
use Rattle.sn_model.specs.World.{World}
use Rattle.sn_ondisk.specs.Blocks.{block_at}
use Rattle.sn_ondisk.specs.LogHalf.{HasNoLater, base_of}
use Rattle.sn_ondisk.specs.Trees.{Store}
use Rattle.sn_log.specs.Positions.{LogPosition, IsReadyAt}
use Rattle.sn_image.specs.Image.{image}
use Rattle.sn_opening.specs.Covering.{MakesCover}
use Rattle.sn_opening.specs.Spelled.{AreSpelled}
use Rattle.sn_opening.specs.Worlds.{frozen_of}
use Rattle.sn_overlay.specs.Layers.{Layer}
use Rattle.sn_held.specs.Rooms.{RoomCounts}
use Rattle.sn_sound.specs.Logs.{HasAgeLeft, IsToRecover}
use Rattle.sn_sound.specs.Standing.{RootStands}
use Rattle.sn_held.specs.Room.{IsCharged}
use Rattle.sn_cp.specs.Points.{Work}
use Rattle.sn_cp.specs.declared.stage.Stage.{Stage}

-- What a mounted file system keeps for its next point: the root that counts, where it is, the words of its map, and what
-- changed since, or since the point in progress began.
pub record Kept : Type 0 where
  pub slot : Slot
  pub root : RootBody
  pub words : List ℕ
  pub changed : Layer

-- A point in progress: what it writes, how far it is, and the blocks that its root leaves free.
pub record Going : Type 0 where
  pub work : Work
  pub stage : Stage
  pub free : ℕ

-- the world in memory, the numbers that are kept back in it, in all and since the point in progress began, the room that is left for it, where its log continues, what is kept for the next point, the point in progress, and the device
pub record Held : Type 0 where
  pub world : World
  pub kept : ℕ → Bool
  pub kept_since : ℕ → Bool
  pub room : RoomCounts
  pub at : LogPosition
  pub base : Kept
  pub point : Option Going
  pub disk : Disk
  pub status : Status

-- Whatever a crash leaves, the next record goes after the last one: in the half of the root's epoch while the
-- next epoch has none, else in the half of that.
abbrev pub GoesOn : LogPosition → RootBody → List Change → List Change → Disk → Type 0
GoesOn at root older newer d = ((newer ≡ []) × (at.epoch ≡ root.epoch) × Always d (IsReadyAt at older)) ⊎ ((at.epoch ≡ root.epoch + 1) × Always d (IsReadyAt at newer))

-- A mount that runs over a world rests on a root, and keeps the changes of its log, which make of
-- the root's tree one that covers the live one.
pub record Runs (h : Held) (world : World) : Type 0 where
  pub is : h.world ≡ world
  -- the blocks as they were when the root was made
  pub store : Store
  pub slot : Slot
  pub root : RootBody
  -- the words of its map
  pub words : List ℕ
  pub older : List Change
  pub newer : List Change
  pub older_spelled : AreSpelled older
  pub newer_spelled : AreSpelled newer
  pub limits : root.limits ≡ limits_written
  pub formatted : Always h.disk (λ c. block_at c 0 ≡ superblock_bytes (record { geometry = h.at.blocks }))
  pub stands : RootStands h.at.blocks h.disk store slot root words older newer
  pub none_later : (epoch : ℕ) → Always h.disk (λ c. HasNoLater c (base_of h.at.blocks epoch) (root.epoch + 1))
  pub log : GoesOn h.at root older newer h.disk
  pub cover : MakesCover limits_written (older ++ newer) (image store root.inode_file) world.live
  pub charged : IsCharged h.room h.at.blocks store root (older ++ newer) world.live
  pub age : IsToRecover root (older ++ newer) (image store root.inode_file) → HasAgeLeft root
  pub frozen : world.frozen ≡ frozen_of store root.snapshots

-- No point is in progress, so that the log continues under the root's own epoch, and nothing is unsynced.
pub record IsBetween (h : Held) (world : World) (r : Runs h world) : Type 0 where
  pub none_newer : r.newer ≡ []
  pub epoch : h.at.epoch ≡ r.root.epoch
  pub ready : Always h.disk (IsReadyAt h.at r.older)
  pub synced : IsSynced h.disk

-- The mount is ready for a point: it is between two points, the root that is kept counts, and the live tree, a name tree, is seen through what changed since, which was charged.
pub record IsReady (h : Held) (world : World) (r : Runs h world) (k : Kept) : Type 0 where
  pub between : IsBetween h world r
  pub slot : k.slot ≡ r.slot
  pub root : k.root ≡ r.root
  pub words : k.words ≡ r.words
  pub changed : HasChanged limits_written k.changed (image r.store r.root.inode_file) world.live h.room.charged
  pub tree : IsTree limits_written world.live

-- A mount runs over this world, and is ready for a point.
pub record RunsReady (h : Held) (world : World) (k : Kept) : Type 0 where
  pub runs : Runs h world
  pub ready : IsReady h world runs k

-- The same root is kept, and what changed of its tree up to a live tree, and was charged, leads on to another.
pub record CarriesOn (old : Kept) (before : Tree) (charged : ℕ) (new : Kept) (after : Tree) (charges : ℕ) : Type 0 where
  pub slot : new.slot ≡ old.slot
  pub root : new.root ≡ old.root
  pub words : new.words ≡ old.words
  pub changed : (root : Tree) → HasChanged limits_written old.changed root before charged → HasChanged limits_written new.changed root after charges
