-- The machine: what it answers to calls, steps and restarts, whatever fails; how its runs end, and what a crash leaves of them.
use Rattle.std.specs.Prelude.{◌≡◌, ◌≢◌, ◌⊎◌, ℕ, ◌<◌, List, [], ◌∷◌, Option, None, Some, Ok, IsOk}
use Rattle.sn_limits.specs.declared.limits.Limits.{Limits}
use Rattle.sn_model.specs.declared.call.Call.{Call}
use Rattle.sn_model.specs.declared.call.Event.{Event}
use Rattle.sn_model.specs.declared.call.Event.TheVariants as event
use Rattle.sn_model.specs.declared.end.End.{End}
use Rattle.sn_model.specs.declared.end.End.TheVariants as ending
use Rattle.sn_model.specs.declared.fault.MountFault.{MountFault}
use Rattle.sn_model.specs.declared.fault.MountFault.TheVariants as mount
use Rattle.sn_model.specs.declared.reply.Errno.{Errno}
use Rattle.sn_model.specs.declared.reply.Errno.TheVariants.{Elimit, Enospc, Enomem, Eio, Estopped}
use Rattle.sn_model.specs.declared.reply.Progress.TheVariants as progress
use Rattle.sn_model.specs.declared.reply.Reply.{Reply}
use Rattle.sn_model.specs.declared.reply.Reply.TheVariants as answer
use Rattle.sn_model.specs.World.{World}
use Rattle.sn_model.specs.Outcomes.{Outcome}
use Rattle.sn_model.specs.Settling.{settle}
use Rattle.sn_model.specs.Tests.{plain}
use Rattle.sn_model.specs.Calls.{ready}
use Rattle.sn_model.specs.Steps.{AsksForPoint, Becomes, Comes, TakesMemory, decision}

-- What the next mount of a stopped machine may find is the settled world from before what stopped it, or the one from after.
pub data State : Type 0 where
  Running : World → State
  Stopped : World → World → State

-- What may happen in an event that doesn't follow from the world: memory is refused, a read of the device fails, or a write or a sync does; the outcome of a call doesn't fit; a point would be too old. Whether it happens is given from outside.
pub data Mishap : Type 0 where
  Memory : Mishap
  Read : Mishap
  Write : Mishap
  Space : Mishap
  Age : Mishap

abbrev pub errno_of : Mishap → Errno
errno_of Memory = Enomem
errno_of Read = Eio
errno_of Write = Eio
errno_of Space = Enospc
errno_of Age = Elimit

-- why there is no mount, where there could be one
abbrev pub mount_fault_of : Mishap → Option MountFault
mount_fault_of Memory = Some mount.Memory
mount_fault_of Read = Some mount.Device
mount_fault_of Write = Some mount.Device
mount_fault_of m = None

abbrev pub refused : Errno → Reply
refused errno = answer.Refused (plain errno)

-- the event is refused, and nothing changes
pub record IsRefused (old : World) (m : Mishap) (reply : Reply) (new : State) : Type 0 where
  pub told : reply ≡ refused (errno_of m)
  pub same : new ≡ Running old

-- the event stops the machine
pub record IsStopped (before after : World) (reply : Reply) (new : State) : Type 0 where
  pub told : reply ≡ refused Eio
  pub left : new ≡ Stopped before after

-- it is unmounted, and isn't mounted again
abbrev pub IsUnmounted : World → World → Mishap → Reply → State → Type 0
IsUnmounted before after m reply new = (fault : MountFault) × (mount_fault_of m ≡ Some fault) × (reply ≡ answer.Unmounted fault) × (new ≡ Stopped before after)

-- the tests of a call pass, with an outcome of which this holds
abbrev pub Passes : (Outcome → Type 0) → Limits → World → ℕ → Call → Type 0
Passes Has limits old session c = (o : Outcome) × (decision limits old session c ≡ Ok o) × Has o

-- what may write: a call that is charged for something, or that asks for a point
abbrev pub MayWrite : Call → Outcome → Type 0
MayWrite c o = (0 < o.charge) ⊎ AsksForPoint c

-- what a call may be refused for: memory and reads once its session and arguments have passed, room where it is charged for something, and age where it may write
abbrev pub MayRefuse : Limits → World → ℕ → Call → Mishap → Type 0
MayRefuse limits old session c Write = ⊥
MayRefuse limits old session c Space = Passes (λ o. 0 < o.charge) limits old session c
MayRefuse limits old session c Age = Passes (MayWrite c) limits old session c
MayRefuse limits old session c m = TakesMemory c × IsOk (ready old session c)

-- a write or a sync fails while a call that may write is made so
pub record IsCutOff (limits : Limits) (old : World) (session : ℕ) (c : Call) (reply : Reply) (new : State) : Type 0 where
  pub passes : Passes (MayWrite c) limits old session c
  pub next : World
  pub comes : Comes limits old session passes.0 next
  pub stops : IsStopped (settle old) (settle next) reply new

-- a call is answered as its decision says, or is cut off or refused
abbrev pub CallStep : Limits → World → ℕ → Call → Option Mishap → Reply → State → Type 0
CallStep limits old session c None reply new = (next : World) × Becomes limits old session (decision limits old session c) reply next × (new ≡ Running next)
CallStep limits old session c (Some Write) reply new = IsCutOff limits old session c reply new
CallStep limits old session c (Some m) reply new = MayRefuse limits old session c m × IsRefused old m reply new

-- a point is refused, or stops the machine; it never lacks room
abbrev pub PointFails : World → Mishap → Reply → State → Type 0
PointFails old Write reply new = IsStopped (settle old) (settle old) reply new
PointFails old Space reply new = ⊥
PointFails old m reply new = IsRefused old m reply new

-- From a state, where an event has a mishap or none, the machine may give this reply and continue from a state. A step of a point changes
-- no world. A restart of a running machine is an unmount, which is a point, and a mount; that of a stopped one is a mount alone. A stopped
-- machine serves no call and no step.
abbrev pub EventStep : Limits → State → Event → Option Mishap → Reply → State → Type 0
EventStep limits (Running old) (event.Call session c) met reply new = CallStep limits old session c met reply new
EventStep limits (Running old) event.Step None reply new = ((reply ≡ answer.Progress progress.More) ⊎ (reply ≡ answer.Progress progress.Done)) × (new ≡ Running old)
EventStep limits (Running old) event.Step (Some m) reply new = PointFails old m reply new
EventStep limits (Running old) event.Restart None reply new = (reply ≡ answer.Done) × (new ≡ Running (settle old))
EventStep limits (Running old) event.Restart (Some m) reply new = PointFails old m reply new ⊎ IsUnmounted (settle old) (settle old) m reply new
EventStep limits (Stopped before after) event.Restart None reply new = (reply ≡ answer.Done) × ((new ≡ Running before) ⊎ (new ≡ Running after))
EventStep limits (Stopped before after) event.Restart (Some m) reply new = IsUnmounted before after m reply new
EventStep limits (Stopped before after) e None reply new = (reply ≡ refused Estopped) × (new ≡ Stopped before after)
EventStep limits (Stopped before after) e (Some m) reply new = ⊥

-- Steps of a kind give these replies to these events, one after the other.
abbrev pub RunBy : {S : Type 0} → (S → Event → Reply → S → Type 0) → S → List Event → List Reply → S → Type 0
RunBy By old [] [] new = new ≡ old
RunBy {S} By old (e ∷ events) (reply ∷ replies) new = (mid : S) × By old e reply mid × RunBy By mid events replies new
RunBy By old events replies new = ⊥

-- steps with only such mishaps
abbrev pub StepOf : (Option Mishap → Type 0) → Limits → State → Event → Reply → State → Type 0
StepOf May limits old e reply new = (met : Option Mishap) × May met × EventStep limits old e met reply new

abbrev pub Run : (Option Mishap → Type 0) → Limits → State → List Event → List Reply → State → Type 0
Run May limits = RunBy (StepOf May limits)

-- any mishap
abbrev pub Anything : Option Mishap → Type 0
Anything met = Unit {0}

-- none, or memory is refused: there is no device that could fail or be full
abbrev pub OfMemory : Option Mishap → Type 0
OfMemory met = (met ≡ None) ⊎ (met ≡ Some Memory)

-- What an unmount answers. It is a point, which never lacks room; a stopped machine has nothing to unmount.
abbrev pub UnmountStep : State → Option Mishap → Reply → Type 0
UnmountStep (Running w) None reply = reply ≡ answer.Done
UnmountStep (Running w) (Some Space) reply = ⊥
UnmountStep (Running w) (Some m) reply = reply ≡ refused (errno_of m)
UnmountStep (Stopped before after) None reply = reply ≡ refused Estopped
UnmountStep (Stopped before after) (Some m) reply = ⊥

-- The end that this answer makes.
abbrev pub EndsBy : Reply → End → Type 0
EndsBy reply ending.Clean = reply ≡ answer.Done
EndsBy reply ending.Memory = reply ≡ refused Enomem
EndsBy reply ending.Stopped = (reply ≢ answer.Done) × (reply ≢ refused Enomem)
EndsBy reply (ending.Mount fault) = ⊥

-- the last unmount, what it answers, and the end of the run
abbrev pub Ends : State → Option Mishap → End → Type 0
Ends last met end = (reply : Reply) × UnmountStep last met reply × EndsBy reply end

-- no event is answered, and this is the end
abbrev pub EndsUnrun : End → List Reply → End → Type 0
EndsUnrun is replies end = (replies ≡ []) × (end ≡ is)

-- the list of replies finds no memory
abbrev pub HasNoList : (Option Mishap → Type 0) → List Reply → End → Type 0
HasNoList May replies end = May (Some Memory) × EndsUnrun ending.Memory replies end

-- there is no first mount
abbrev pub HasNoMount : (Option Mishap → Type 0) → List Reply → End → Type 0
HasNoMount May replies end = (met : Mishap) × (fault : MountFault) × May (Some met) × (mount_fault_of met ≡ Some fault) × EndsUnrun (ending.Mount fault) replies end

-- every event is answered
abbrev pub HasRun : (Option Mishap → Type 0) → Limits → World → List Event → List Reply → End → Type 0
HasRun May limits first events replies end = (last : State) × Run May limits (Running first) events replies last × (met : Option Mishap) × May met × Ends last met end

-- What a first mount finds on a device: a world, or what keeps it from being mounted.
pub data Image : Type 0 where
  Holds : World → Image
  Lacks : MountFault → Image

-- every event is answered if there is a world, and else the first mount is refused for what it finds
abbrev pub Serves : (Option Mishap → Type 0) → Limits → Image → List Event → List Reply → End → Type 0
Serves May limits (Holds first) events replies end = HasRun May limits first events replies end
Serves May limits (Lacks fault) events replies end = EndsUnrun (ending.Mount fault) replies end

-- A whole run: from what the device holds, a mount, the events, and an unmount.
abbrev pub WholeRun : (Option Mishap → Type 0) → Limits → Image → List Event → List Reply → End → Type 0
WholeRun May limits image events replies end = HasNoList May replies end ⊎ HasNoMount May replies end ⊎ Serves May limits image events replies end

-- what the next mount may find after a crash between two events
abbrev pub Left : State → World → Type 0
Left (Running old) w = w ≡ settle old
Left (Stopped before after) w = (w ≡ before) ⊎ (w ≡ after)

-- what a call would leave that has no mishap
abbrev pub LeftAfter : Limits → World → ℕ → Call → World → Type 0
LeftAfter limits old session c w = (reply : Reply) × (next : World) × Becomes limits old session (decision limits old session c) reply next × (w ≡ settle next)

-- after a crash in an event
abbrev pub LeftIn : Limits → State → Event → World → Type 0
LeftIn limits (Running old) (event.Call session c) w = Left (Running old) w ⊎ LeftAfter limits old session c w
LeftIn limits old e w = Left old w

-- A run that a crash cuts short, after these replies, in the event that has none yet or after the last: the world that the next mount finds.
abbrev pub CutRun : (Option Mishap → Type 0) → Limits → State → List Event → List Reply → World → Type 0
CutRun May limits old [] [] w = Left old w
CutRun May limits old (e ∷ events) [] w = LeftIn limits old e w
CutRun May limits old (e ∷ events) (reply ∷ replies) w = (mid : State) × StepOf May limits old e reply mid × CutRun May limits mid events replies w
CutRun May limits old [] (reply ∷ replies) w = ⊥

-- A life: runs, each from the world that a crash in the run before has left.
abbrev pub Life : (Option Mishap → Type 0) → Limits → World → List (List Event × List Reply) → World → Type 0
Life May limits first [] last = last ≡ first
Life May limits first (r ∷ rs) last = (next : World) × CutRun May limits (Running first) r.0 r.1 next × Life May limits next rs last
