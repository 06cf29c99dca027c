-- How a run ends: the last unmount.
use Rattle.std.specs.Prelude.{◌≡◌, Bool, Option, None, Some}
use Rattle.sn_device.specs.Disk.{Disk, Always}
use Rattle.sn_device.specs.Crash.{LeavesOnly}
use Rattle.sn_device.specs.declared.status.Status.{Status}
use Rattle.sn_block.specs.Counts.{IsLater}
use Rattle.sn_model.specs.declared.call.Event.TheVariants as event
use Rattle.sn_model.specs.declared.end.End.{End}
use Rattle.sn_model.specs.declared.end.End.TheVariants as ending
use Rattle.sn_model.specs.declared.reply.Errno.{Errno}
use Rattle.sn_model.specs.declared.reply.Errno.TheVariants.{Enomem}
use Rattle.sn_model.specs.Machine.{State, Running, Stopped, Mishap, Write, Ends}
use Rattle.sn_held.specs.Held.{Held}
use Rattle.sn_cp_progress.specs.Meaning.{Means}
use Rattle.sn_held.specs.Moments.{ShowsState}
use Rattle.sn_events.specs.Answers.{HasMadeLast, IsBehindFinish, IsBehindPoint, IsCutLast, MayMeet, IsUnchanged}
use Rattle.sn_model.specs.Settling.{settle}
use Rattle.sn_events.specs.Durable.{IsInItsRoot}

-- What the last unmount leaves, after the point in progress: its own whole point, whose root has all, or where that isn't made, what
-- was held. One that has stopped calls nothing.
abbrev pub LeavesLast : State → Held → Held → Option Mishap → Held → Type 0
LeavesLast (Running w) fin mid None new = HasMadeLast fin mid × (new ≡ mid) × Always new.disk (IsInItsRoot (settle fin.world).live (settle fin.world))
LeavesLast (Running w) fin mid (Some Write) new = IsCutLast fin new.disk new.status
LeavesLast (Running w) fin mid (Some m) new = IsUnchanged m fin new
LeavesLast (Stopped before after) fin mid met new = new ≡ mid

-- The last unmount is answered, which makes this end, and at no moment does a crash leave anything else than before it. The point in
-- progress is finished first. What it encountered has a cause.
pub record IsEnded (s : State) (last : Held) (end : End) (last_disk : Disk) (last_status : Status) : Type 0 where
  pub met : Option Mishap
  pub ends : Ends s met end
  pub fin : Held
  pub finish : IsBehindFinish s event.Restart last fin
  pub mid : Held
  pub point : IsBehindPoint s event.Restart fin mid
  pub may : MayMeet fin mid event.Restart met last_status
  pub lasts : LeavesOnly last.disk last_disk (ShowsState s)
  pub later : IsLater last.status last_status
  pub new : Held
  pub disk_is : new.disk ≡ last_disk
  pub status_is : new.status ≡ last_status
  pub leaves : LeavesLast s fin mid met new

-- from each state that is meant
abbrev pub EndsSo : End → Held → Bool → Disk → Status → Type 0
EndsSo end last has_stopped last_disk last_status = (s : State) → Means last has_stopped s → IsEnded s last end last_disk last_status

-- how a run ends whose last unmount is refused so
abbrev pub end_for : Errno → End
end_for Enomem = ending.Memory
end_for _ = ending.Stopped

-- an unmount reports no mount that failed
abbrev pub IsLastEnd : End → Type 0
IsLastEnd (ending.Mount fault) = ⊥
IsLastEnd end = Unit {0}
