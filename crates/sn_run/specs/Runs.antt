-- Runs over a device, and what a crash leaves of them.
use Rattle.std.specs.Prelude.{◌≡◌, ◌⊎◌, ℕ, Bool, false, List, [], ◌∷◌, ◌++◌}
use Rattle.sn_device.specs.Sectors.{Contents}
use Rattle.sn_device.specs.Disk.{Disk, reads}
use Rattle.sn_device.specs.Crash.{LeavesOnly, Touches}
use Rattle.sn_device.specs.declared.status.Status.{Status}
use Rattle.sn_block.specs.Counts.{IsLater}
use Rattle.sn_block.specs.Effects.{Nowhere}
use Rattle.sn_limits.specs.Versions.{limits_written}
use Rattle.sn_model.specs.declared.call.Event.{Event}
use Rattle.sn_model.specs.declared.end.End.{End}
use Rattle.sn_model.specs.declared.end.End.TheVariants as ending
use Rattle.sn_model.specs.declared.fault.MountFault.{MountFault}
use Rattle.sn_model.specs.declared.fault.MountFault.TheVariants as fault
use Rattle.sn_model.specs.declared.reply.Reply.{Reply}
use Rattle.sn_model.specs.Machine.{State, Running, Anything, CutRun, Holds, RunBy, WholeRun}
use Rattle.sn_model.specs.World.{World}
use Rattle.sn_sound.specs.Verdicts.{HasNoVerdict}
use Rattle.sn_held.specs.Held.{Held}
use Rattle.sn_cp_progress.specs.Meaning.{Means}
use Rattle.sn_held.specs.Images.{IsImage}
use Rattle.sn_held.specs.Room.{HasRoomOf}
use Rattle.sn_examine.specs.Failing.{IsSoOf}
use Rattle.sn_examine.specs.Laws.{IsSomeClean}
use Rattle.sn_mount.specs.Costs.{CostsFew}
use Rattle.sn_mount.specs.Recovering.{KeepsTheRoot, LeavesTheWorld, OfImage}
use Rattle.sn_events.specs.Answers.{AnswersFrom, CostsMountOf}
use Rattle.sn_events.specs.Mounting.{IsLeft, IsFresh}
use Rattle.sn_run.specs.Ending.{IsEnded}
use Rattle.sn_mount.specs.Rooting.{MountsRoot}

-- where a run is between two events: the state of the machine, and what is held
pub record Standing : Type 0 where
  pub state : State
  pub held : Held
  pub has_stopped : Bool

-- an event leads from one to the next
pub record Goes (old : Standing) (e : Event) (reply : Reply) (new : Standing) : Type 0 where
  pub answers : AnswersFrom old.state e reply old.held new.held new.has_stopped
  pub next : new.state ≡ answers.next

-- from this state on
pub record IsAnswered (s : State) (events : List Event) (replies : List Reply) (old : Held) (had_stopped : Bool) (new : Held) (has_stopped : Bool) : Type 0 where
  pub state : State
  pub means : Means new has_stopped state
  pub run : RunBy Goes (record { state = s; held = old; has_stopped = had_stopped }) events replies (record { state = state; held = new; has_stopped = has_stopped })

-- events lead from what is held to what is held, from each state that it means
abbrev pub AnswersAll : List Event → List Reply → Held → Bool → Held → Bool → Type 0
AnswersAll events replies old had_stopped new has_stopped = (s : State) → Means old had_stopped s → IsAnswered s events replies old had_stopped new has_stopped

-- a mount that runs over a world
abbrev pub start : World → Held → Standing
start world h = record { state = Running world; held = h; has_stopped = false }

-- The world that the disk was an image of was mounted, with the room of the image that was there then, and at no moment would a crash have
-- left another. The events were answered, and then the last unmount.
pub record IsServed (world : World) (events : List Event) (replies : List Reply) (end : End) (disk : Disk) (status : Status) (mounted : Held) (last_disk : Disk) (last_status : Status) : Type 0 where
  pub means : Means mounted false (Running world)
  pub room : HasRoomOf (reads mounted.disk) world mounted.room
  pub leaves : LeavesTheWorld disk mounted.disk world
  pub root : (im : IsImage (reads disk) world) → MountsRoot (reads disk) world im mounted.base status mounted.status
  pub last : Standing
  pub run : RunBy Goes (start world mounted) events replies last
  pub ended : IsEnded last.state last.held end last_disk last_status

-- The disk, which has no fault, was mounted, with nothing done since its root, and what it was an image of was served.
pub record Served (events : List Event) (replies : List Reply) (end : End) (disk : Disk) (status : Status) (last_disk : Disk) (last_status : Status) : Type 0 where
  pub mounted : Held
  pub fresh : IsFresh mounted
  pub clean : IsSomeClean status.sectors (reads disk)
  pub touched : KeepsTheRoot status.sectors disk mounted.disk
  pub costs : CostsMountOf status mounted.status
  pub served : OfImage disk (λ world. IsServed world events replies end disk status mounted last_disk last_status)

-- There was no mount, for a cause, and the world that the disk is an image of, if any, is still there.
pub record NotMounted (fault : MountFault) (replies : List Reply) (disk : Disk) (status : Status) (last_disk : Disk) (last_status : Status) : Type 0 where
  pub none : replies ≡ []
  pub left : IsLeft fault status.sectors disk last_disk
  pub failed : IsSoOf fault status last_status
  pub later : IsLater status last_status
  pub costs : CostsFew status last_status

-- a run, by its end: where memory was refused, nothing may have been done, not even a mount
abbrev pub RunsTo : End → List Event → List Reply → Disk → Status → Disk → Status → Type 0
RunsTo ending.Memory events replies disk status last_disk last_status = ((replies ≡ []) × (last_disk ≡ disk) × (last_status ≡ status))
    ⊎ Served events replies ending.Memory disk status last_disk last_status
RunsTo (ending.Mount fault) events replies disk status last_disk last_status = NotMounted fault replies disk status last_disk last_status
RunsTo end events replies disk status last_disk last_status = Served events replies end disk status last_disk last_status

-- the contents are an image of a world that the machine's run, cut short after these replies, leaves
abbrev pub ShowsCut : State → List Event → List Reply → Contents → Type 0
ShowsCut s events said c = (world : World) × IsImage c world × CutRun Anything limits_written s events said world

-- From a disk on the events that are left get these replies, after those that were given: in the course of each a crash leaves a run that
-- was cut short in it or after it, and once all are answered one that was cut short after the last, in the course of the last unmount too.
abbrev pub LeavesFrom : State → List Event → List Reply → List Reply → Disk → Disk → Type 0
LeavesFrom s events said [] old new = LeavesOnly old new (ShowsCut s events said)
LeavesFrom s events said (reply ∷ replies) old new = (mid : Disk) × LeavesOnly old mid (ShowsCut s events said) × LeavesFrom s events (said ++ reply ∷ []) replies mid new

-- Up to a first sync that succeeds nothing is written. From then on a crash leaves the world that was found, and once it is mounted, what the machine's run leaves, event by event.
pub record LeavesItsRun (world : World) (events : List Event) (replies : List Reply) (old new : Disk) : Type 0 where
  pub mounted : Disk
  pub mounts : LeavesTheWorld old mounted world
  pub moments : LeavesFrom (Running world) events [] replies mounted new

-- Where the disk is an image of a world, this is a run of the machine from that world, and it is all that a crash leaves. Only where no event
-- was answered may nothing have been written.
pub record IsRunOf (world : World) (events : List Event) (replies : List Reply) (end : End) (old new : Disk) : Type 0 where
  pub run : WholeRun Anything limits_written (Holds world) events replies end
  pub crash : ((replies ≡ []) × Touches Nowhere old new) ⊎ LeavesItsRun world events replies old new

-- There is no root that a mount could begin from: the disk isn't formatted, or neither slot is open, or a root is of a version that isn't known.
abbrev pub LacksRoot : ℕ → Contents → MountFault → Type 0
LacksRoot sectors c fault.NotFormatted = HasNoVerdict sectors c fault.NotFormatted
LacksRoot sectors c fault.NoRoot = HasNoVerdict sectors c fault.NoRoot
LacksRoot sectors c fault.Version = HasNoVerdict sectors c fault.Version
LacksRoot sectors c cause = ⊥
