-- What an unmount makes of a mounted file system.
use Rattle.std.specs.Prelude.{◌≡◌, ◌⊎◌, Bool, Result, Ok, Err}
use Rattle.sn_device.specs.Disk.{Disk}
use Rattle.sn_device.specs.declared.status.Status.{Status}
use Rattle.sn_model.specs.declared.reply.Errno.{Errno}
use Rattle.sn_cp_progress.specs.Meaning.{RunsWith}
use Rattle.sn_cp_whole.specs.declared.fault.PointFault.{PointFault}
use Rattle.sn_held.specs.Held.{Held, RunsReady}
use Rattle.sn_events.specs.Pointing.{FinishesSo, IsPointedLast, IsUnpointedLast, errno_of_point, stops_for}

-- The point in progress was finished, and then the whole point of an unmount left this disk, and the device has counted it.
pub record IsUnmountedTo (old : Held) (disk : Disk) (status : Status) : Type 0 where
  pub fin : Held
  pub finish : FinishesSo (Ok (tt {0})) old.point old fin
  pub mid : Held
  pub pointed : IsPointedLast fin mid
  pub disk_is : mid.disk ≡ disk
  pub status_is : mid.status ≡ status

-- of what runs
abbrev pub HasUnmounted : Held → Disk → Status → Type 0
HasUnmounted old disk status = RunsWith old.point old old.world → IsUnmountedTo old disk status

-- the point of an unmount, where it is made or not, of what runs without one in progress
abbrev pub PointsLast : Result (Unit {0}) PointFault → Held → Held → Type 0
PointsLast (Ok _) old new = RunsReady old old.world old.base → (mid : Held) × IsPointedLast old mid × (mid.disk ≡ new.disk) × (mid.status ≡ new.status)
PointsLast (Err fault) old new = RunsReady old old.world old.base → IsUnpointedLast fault old new

-- It wasn't made after the point in progress, or this one was cut off.
abbrev pub IsRefusedFor : PointFault → Held → Held → Type 0
IsRefusedFor fault old new = FinishesSo (Err fault) old.point old new ⊎ ((fin : Held) × FinishesSo (Ok (tt {0})) old.point old fin × IsUnpointedLast fault fin new)

-- It was refused, as a point is that isn't made.
pub record IsRefusedTo (errno : Errno) (old new : Held) (has_stopped : Bool) : Type 0 where
  pub fault : PointFault
  pub told : errno ≡ errno_of_point fault
  pub stops : has_stopped ≡ stops_for fault
  pub unpointed : RunsWith old.point old old.world → IsRefusedFor fault old new
