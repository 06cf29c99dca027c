-- Why events are refused, mounts fail and runs stop over a device that counts no failure: only
-- because it reached its end, or memory was refused.
use Rattle.std.specs.Prelude.{◌≡◌, ◌⊎◌, List, Contains, IsTrue, Option, Some}
use Rattle.sn_device.specs.Disk.{Disk, reads}
use Rattle.sn_device.specs.Status.{has_ended}
use Rattle.sn_device.specs.declared.status.Status.{Status}
use Rattle.sn_model.specs.declared.call.Event.{Event}
use Rattle.sn_model.specs.declared.end.End.{End}
use Rattle.sn_model.specs.declared.end.End.TheVariants as ending
use Rattle.sn_model.specs.declared.fault.MountFault.{MountFault}
use Rattle.sn_model.specs.declared.fault.MountFault.TheVariants as mount
use Rattle.sn_model.specs.declared.reply.Reply.{Reply}
use Rattle.sn_model.specs.declared.reply.Reply.TheVariants as answer
use Rattle.sn_model.specs.Machine.{Mishap, Read, Write, Age, RunBy}
use Rattle.sn_model.specs.World.{World}
use Rattle.sn_held.specs.Images.{IsImage}
use Rattle.sn_run.specs.Runs.{Goes, RunsTo, Served, Standing, start}

-- a read, a write or a sync failed
abbrev pub IsFailure : Option Mishap → Type 0
IsFailure (Some Read) = Unit {0}
IsFailure (Some Write) = Unit {0}
IsFailure met = ⊥

-- An event leads from one standing to the next, and where it encountered a failure the device has reached its end.
pub record GoesOrEnds (old : Standing) (e : Event) (reply : Reply) (new : Standing) : Type 0 where
  pub goes : Goes old e reply new
  pub ended : IsFailure goes.answers.met → IsTrue (has_ended new.held.status)

-- a restart found no memory to mount
abbrev pub HasNoMemory : List Reply → Type 0
HasNoMemory replies = Contains replies (answer.Unmounted mount.Memory)

-- A first mount fails for the device only where that has reached its end.
abbrev pub FailsAtItsEnd : MountFault → Status → Type 0
FailsAtItsEnd mount.Device last_status = IsTrue (has_ended last_status)
FailsAtItsEnd fault last_status = Unit {0}

-- each failure in what was served was the device's end
abbrev pub ServedToItsEnd : (end : End) (events : List Event) (replies : List Reply) (disk : Disk) (status : Status) (last_disk : Disk) (last_status : Status) → Served events replies end disk status last_disk last_status → Type 0
ServedToItsEnd end events replies disk status last_disk last_status s = (world : World) (image : IsImage (reads disk) world) → RunBy GoesOrEnds (start world s.mounted) events replies (s.served world image).last

-- Each failure in a run was the device's end, and where the run stopped it was for one, for memory at a restart, or because no
-- root can follow for the last unmount to make.
abbrev pub HasCauses : (end : End) (events : List Event) (replies : List Reply) (disk : Disk) (status : Status) (last_disk : Disk) (last_status : Status) → RunsTo end events replies disk status last_disk last_status → Type 0
HasCauses ending.Clean events replies disk status last_disk last_status served = ServedToItsEnd ending.Clean events replies disk status last_disk last_status served
HasCauses ending.Stopped events replies disk status last_disk last_status served = ServedToItsEnd ending.Stopped events replies disk status last_disk last_status served
    × ((world : World) (image : IsImage (reads disk) world) → IsTrue (has_ended last_status) ⊎ HasNoMemory replies ⊎ ((served.served world image).ended.met ≡ Some Age))
HasCauses ending.Memory events replies disk status last_disk last_status either = (served : Served events replies ending.Memory disk status last_disk last_status) → ServedToItsEnd ending.Memory events replies disk status last_disk last_status served
HasCauses (ending.Mount fault) events replies disk status last_disk last_status unmounted = FailsAtItsEnd fault last_status

-- Where a run counted no failure of the device, all that failed in it was the device's end.
abbrev pub OnlyItsEndFails : Type 0
OnlyItsEndFails = (end : End) (events : List Event) (replies : List Reply) (disk last_disk : Disk) (status last_status : Status) (runs : RunsTo end events replies disk status last_disk last_status)
    → last_status.failures ≡ status.failures → HasCauses end events replies disk status last_disk last_status runs
