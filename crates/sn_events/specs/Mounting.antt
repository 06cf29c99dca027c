-- What a mount makes of a disk.
use Rattle.std.specs.Prelude.{◌≡◌, ◌⊎◌, ℕ, Bool, false, None}
use Rattle.sn_device.specs.Disk.{Disk, reads}
use Rattle.sn_device.specs.Crash.{Touches}
use Rattle.sn_block.specs.Effects.{Nowhere}
use Rattle.sn_model.specs.declared.fault.MountFault.{MountFault}
use Rattle.sn_model.specs.Machine.{Running}
use Rattle.sn_model.specs.World.{World}
use Rattle.sn_log.specs.Positions.{first_of}
use Rattle.sn_overlay.specs.Overlays.{no_changes}
use Rattle.sn_held.specs.Rooms.{fresh}
use Rattle.sn_held.specs.Held.{Held}
use Rattle.sn_cp_progress.specs.Meaning.{Means}
use Rattle.sn_held.specs.Room.{HasRoomOf}
use Rattle.sn_mount.specs.Recovering.{KeepsTheWorld, LeavesTheWorld, OfImage, WritesAtFault, KeepsTheRoot}
use Rattle.sn_examine.specs.Laws.{IsSomeClean}
use Rattle.sn_check.specs.Verdicts.{IsCause}

-- The world that the disk was an image of runs, with the room of the image that is there now, and
-- at no moment would a crash have left another.
pub record MountsWorld (old : Disk) (h : Held) (has_stopped : Bool) (world : World) : Type 0 where
  pub room : HasRoomOf (reads h.disk) world h.room
  pub means : Means h has_stopped (Running world)
  pub leaves : LeavesTheWorld old h.disk world

-- Nothing was done since the root that counts: no point is in progress, the log is empty at its first place, nothing is charged or has changed, and no number is kept back.
pub record IsFresh (h : Held) : Type 0 where
  pub between : h.point ≡ None
  pub log : h.at ≡ first_of h.at.blocks h.base.root.epoch
  pub room : h.room ≡ fresh h.room.free
  pub changed : h.base.changed ≡ no_changes
  pub none_kept : (number : ℕ) → h.kept number ≡ false
  pub none_since : (number : ℕ) → h.kept_since number ≡ false

-- A disk without a fault is mounted, and what it was an image of runs over a root since which nothing was done.
pub record Mounts (sectors : ℕ) (old : Disk) (h : Held) (has_stopped : Bool) : Type 0 where
  pub running : has_stopped ≡ false
  pub fresh : IsFresh h
  pub clean : IsSomeClean sectors (reads old)
  pub touched : KeepsTheRoot sectors old h.disk
  pub runs : OfImage old (MountsWorld old h has_stopped)

-- It isn't, for the cause that a check reports, and the world that it is an image of, if any, is still there.
pub record IsLeft (fault : MountFault) (sectors : ℕ) (old new : Disk) : Type 0 where
  pub cause : IsCause sectors (reads old) fault
  pub touched : WritesAtFault fault sectors old new
  pub keeps : OfImage old (KeepsTheWorld old new)

-- what a mount may write, whether it succeeds or not
abbrev pub WritesToMount : ℕ → Disk → Disk → Type 0
WritesToMount sectors old new = Touches Nowhere old new ⊎ KeepsTheRoot sectors old new
