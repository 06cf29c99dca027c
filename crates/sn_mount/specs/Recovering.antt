-- What a mount makes of a disk.
use Rattle.std.specs.Prelude.{◌≡◌, ◌⊎◌, ℕ, Bool, None, Result, Ok, Err}
use Rattle.sn_device.specs.Disk.{Disk, IsSynced, reads}
use Rattle.sn_device.specs.Crash.{LeavesOnly, Touches}
use Rattle.sn_device.specs.declared.status.Status.{Status}
use Rattle.sn_layout.specs.declared.geometry.Slot.{Slot}
use Rattle.sn_layout.specs.declared.root.RootBody.{RootBody}
use Rattle.sn_block.specs.Effects.{Nowhere}
use Rattle.sn_live_world.specs.World.{changes_of, world_in}
use Rattle.sn_model.specs.declared.fault.MountFault.{MountFault}
use Rattle.sn_model.specs.declared.fault.MountFault.TheVariants as fault
use Rattle.sn_model.specs.World.{World}
use Rattle.sn_ondisk.specs.Roots.{IsNewest}
use Rattle.sn_ondisk.specs.Trees.{store_of}
use Rattle.sn_rooted.specs.Roots.{trees_at}
use Rattle.sn_log.specs.Positions.{LogPosition}
use Rattle.sn_sound.specs.Disks.{IsFormatted}
use Rattle.sn_held.specs.Held.{Held, Kept, RunsReady}
use Rattle.sn_held.specs.Images.{IsImage}
use Rattle.sn_held.specs.Room.{HasRoomOf}
use Rattle.sn_held.specs.Rooms.{RoomCounts}
use Rattle.sn_cp_whole.specs.Planning.{kept_in}
use Rattle.sn_cp_whole.specs.Recovering.{IsApart}
use Rattle.sn_check.specs.Verdicts.{IsCause}
use Rattle.sn_mount.specs.declared.found.Recovered.{Recovered}

-- Of the formatted disk, which has a newest root, neither the superblock was written, nor that root or its map.
pub record KeepsTheRoot (sectors : ℕ) (old new : Disk) : Type 0 where
  pub blocks : ℕ
  pub formatted : IsFormatted sectors (reads old) blocks
  pub slot : Slot
  pub root : RootBody
  pub newest : IsNewest (reads old) slot root
  pub touched : Touches (IsApart blocks slot) old new

-- Up to a sync that succeeded nothing was written. From then on each content that a crash leaves is an image of the world that was there.
pub record LeavesTheWorld (old new : Disk) (world : World) : Type 0 where
  pub mid : Disk
  pub first : Touches Nowhere old mid
  pub same : reads mid ≡ reads old
  pub synced : IsSynced mid
  pub moments : LeavesOnly mid new (λ c. IsImage c world)

-- The world that the disk was an image of runs, ready for a point, over a root on which nothing is logged: with the room that its image has
-- now. At no moment would a crash have left another.
pub record IsRecovered (at : LogPosition) (found : World) (room : RoomCounts) (base : Kept) (old new : Disk) (world : World) : Type 0 where
  pub is : found ≡ world
  pub room_is : HasRoomOf (reads new) world room
  pub runs : (kept since : ℕ → Bool) (status : Status) → RunsReady (record { world = world; kept = kept; kept_since = since; room = room; at = at; base = base; point = None; disk = new; status = status }) world base
  pub leaves : LeavesTheWorld old new world

-- either nothing was written, or at no moment would a crash have left another world
abbrev pub KeepsTheWorld : Disk → Disk → World → Type 0
KeepsTheWorld old new world = Touches Nowhere old new ⊎ LeavesTheWorld old new world

-- A mount that finds that it can't succeed has written nothing; one that was refused memory, or whose
-- device failed, may have written outside the root.
abbrev pub WritesAtFault : MountFault → ℕ → Disk → Disk → Type 0
WritesAtFault fault.Memory sectors old new = Touches Nowhere old new ⊎ KeepsTheRoot sectors old new
WritesAtFault fault.Device sectors old new = Touches Nowhere old new ⊎ KeepsTheRoot sectors old new
WritesAtFault cause sectors old new = Touches Nowhere old new

-- of a disk that is an image of a world
abbrev pub OfImage : Disk → (World → Type 0) → Type 0
OfImage old P = (world : World) → IsImage (reads old) world → P world

-- the world over the trees of the root that counts
abbrev pub recovered_world : Recovered → Disk → World
recovered_world r new = world_in r.world (trees_at (store_of (reads new)) r.base.root)

abbrev pub recovered_base : Recovered → Kept
recovered_base r = kept_in r.base (changes_of r.world)

-- What was an image of a world runs. Otherwise there is a cause, and the world, if any, is still there.
abbrev pub Recovers : Result Recovered MountFault → ℕ → Disk → Disk → Type 0
Recovers (Ok r) sectors old new = KeepsTheRoot sectors old new × OfImage old (IsRecovered r.log (recovered_world r new) r.room (recovered_base r) old new)
Recovers (Err f) sectors old new = IsCause sectors (reads old) f × WritesAtFault f sectors old new × OfImage old (KeepsTheWorld old new)

-- what runs over it
abbrev pub held_over : Recovered → Disk → (kept since : ℕ → Bool) → Status → Held
held_over r new kept since status = record { world = recovered_world r new; kept = kept; kept_since = since; room = r.room; at = r.log; base = recovered_base r; point = None; disk = new; status = status }

-- It runs, ready for a point.
abbrev pub RunsOver : Recovered → Disk → Type 0
RunsOver r new = (kept since : ℕ → Bool) (status : Status) → RunsReady (held_over r new kept since status) (recovered_world r new) (recovered_base r)
