-- What a mounted file system is made of.
use Rattle.std.specs.Prelude.{◌≡◌, ◌+◌, ◌*◌, ◌^◌, ◌≤◌, Bool, false, IsTrue, Option, None, Some}
use Rattle.sn_device.specs.declared.device.Device.{Ghosts}
use Rattle.sn_device.specs.declared.status.Status.{Status}
use Rattle.sn_device.specs.Disk.{Disk, reads}
use Rattle.sn_image.specs.Image.{image}
use Rattle.sn_layout.specs.Geometry.{other_slot}
use Rattle.sn_layout.specs.declared.root.RootBody.{RootBody}
use Rattle.sn_limits.specs.Versions.{limits_written}
use Rattle.sn_model.specs.Tree.{Tree}
use Rattle.sn_model.specs.World.{Trees}
use Rattle.sn_model.specs.Worlds.{IsWorld}
use Rattle.sn_ondisk.specs.Trees.{store_of}
use Rattle.sn_rooted.specs.Roots.{trees_at}
use Rattle.sn_block.specs.Lending.{device_of}
use Rattle.sn_block.specs.declared.blocks.Blocks.{Blocks}
use Rattle.sn_log.specs.Positions.{LogPosition}
use Rattle.sn_live_world.specs.World.{HasDrops, IsOver, changes_of, descriptors_of, kept_of, kept_since_of, nameless_of, point_of, world_in}
use Rattle.sn_live_world.specs.declared.world.LiveWorld.{LiveWorld}
use Rattle.sn_desc.specs.InUse.{live_in}
use Rattle.sn_held.specs.Held.{Going, Held}
use Rattle.sn_overlay.specs.Overlays.{no_changes}
use Rattle.sn_held.specs.Rooms.{RoomCounts}
use Rattle.sn_cp.specs.Points.{stage_of, work_of}
use Rattle.sn_cp_progress.specs.Meaning.{RunsWith}
use Rattle.sn_cp.specs.Steps.{IsWhole, IsWithin, StandsAtStage}
use Rattle.sn_cp_whole.specs.Going.{going_of}
use Rattle.sn_cp_whole.specs.Planning.{IsBaseAt, kept_in}
use Rattle.sn_cp_whole.specs.declared.base.PointBase.{PointBase}
use Rattle.sn_cp_whole.specs.declared.going.GoingPoint.{GoingPoint}

-- A point in progress writes the slot that doesn't count, on the disk whose log continues here, under its root's epoch.
pub record IsUnderWay (at : LogPosition) (base : PointBase) (going : GoingPoint) : Type 0 where
  pub whole : IsWhole (work_of going.point)
  pub within : IsWithin (work_of going.point) (stage_of going.point)
  pub blocks : (work_of going.point).blocks ≡ at.blocks
  pub slot : other_slot base.slot ≡ (work_of going.point).slot
  pub epoch : at.epoch ≡ (work_of going.point).plan.next.epoch

-- a point can begin from what is kept, or one is in progress
abbrev pub IsBased : Option GoingPoint → LogPosition → PointBase → Type 0
IsBased None at base = IsBaseAt at base
IsBased (Some going) at base = IsUnderWay at base going

-- the disk is where the point in progress takes it to be
abbrev pub StandsThere : Option GoingPoint → Disk → Type 0
StandsThere None d = Unit {0}
StandsThere (Some going) d = StandsAtStage (work_of going.point) (stage_of going.point) d

-- the point in progress, as `sn_held` speaks of it
abbrev pub going_in : Option GoingPoint → Option Going
going_in None = None
going_in (Some going) = Some (going_of going)

-- the tree of a root, as it is on a disk
abbrev pub tree_at : Disk → RootBody → Tree
tree_at disk root = image (store_of (reads disk)) root.inode_file

-- the live tree of a root and its frozen ones, so
abbrev pub trees_there : Disk → RootBody → Trees
trees_there disk root = trees_at (store_of (reads disk)) root

-- what these parts hold over a disk
abbrev pub holding_on : Disk → Status → LogPosition → LiveWorld → RoomCounts → PointBase → Option GoingPoint → Held
holding_on disk status at world room base going = record {
  world = world_in world (trees_there disk base.root);
  kept = kept_of world;
  kept_since = kept_since_of world;
  room = room;
  at = at;
  base = kept_in base (changes_of world);
  point = going_in going;
  disk = disk;
  status = status;
}

abbrev pub holding : {D : Type 0} (g : Ghosts D) → Blocks D g → LogPosition → LiveWorld → RoomCounts → PointBase → Option GoingPoint → Held
holding g blocks at world room base going = holding_on (g.disk (device_of blocks)) (g.status (device_of blocks)) at world room base going

-- It runs over the world that it holds.
abbrev pub RunsNow : Held → Type 0
RunsNow h = RunsWith h.point h h.world

-- What holds of what it reads, where the device tells its bytes: its live tree is over the root's, its world is one, it runs over that,
-- and the disk is where the point in progress takes it to be.
pub record IsMeant (disk : Disk) (status : Status) (at : LogPosition) (world : LiveWorld) (room : RoomCounts) (base : PointBase) (going : Option GoingPoint) : Type 0 where
  pub over : IsOver world (tree_at disk base.root)
  pub whole : IsWorld limits_written (world_in world (trees_there disk base.root))
  pub runs : RunsNow (holding_on disk status at world room base going)
  pub stands : StandsThere going disk

-- Unless a failure has stopped it, its log is on a device that has all its blocks, no more files are parked than can be counted, a point can begin from what is kept for it or is in progress, there is room for the drop of each file that is open, and what it reads is meant.
pub record IsMounted (told : Bool) (disk : Disk) (status : Status) (at : LogPosition) (world : LiveWorld) (room : RoomCounts) (base : PointBase) (going : Option GoingPoint) (has_stopped : Bool) : Type 0 where
  pub within : has_stopped ≡ false → 8 * at.blocks ≤ status.sectors
  pub parked : has_stopped ≡ false → room.dropped + nameless_of world ≤ 2 ^ 33
  pub based : has_stopped ≡ false → IsBased going at base
  pub between : has_stopped ≡ false → going ≡ None → point_of world ≡ no_changes
  pub drops : has_stopped ≡ false → HasDrops world (live_in (descriptors_of world))
  pub meant : has_stopped ≡ false → IsTrue told → IsMeant disk status at world room base going

-- What is kept is of the same root still.
pub record IsSameRoot (old new : PointBase) : Type 0 where
  pub slot : new.slot ≡ old.slot
  pub root : new.root ≡ old.root
  pub map : new.map ≡ old.map
