-- What the machine does over events, runs and lives, said as a user would say it.
use Rattle.std.specs.Prelude.{◌≡◌, ◌≢◌, List, Option}
use Rattle.std.specs.List.{AllByRecursion}
use Rattle.sn_limits.specs.Versions.{limits_written}
use Rattle.sn_limits.specs.declared.limits.Limits.{Limits}
use Rattle.sn_model.specs.declared.call.Event.{Event}
use Rattle.sn_model.specs.declared.call.Event.TheVariants as event
use Rattle.sn_model.specs.declared.reply.Errno.TheVariants.{Eio, Estopped}
use Rattle.sn_model.specs.declared.reply.Refusal.{Refusal}
use Rattle.sn_model.specs.declared.reply.Reply.{Reply}
use Rattle.sn_model.specs.declared.reply.Reply.TheVariants as answer
use Rattle.sn_model.specs.World.{World, new_world}
use Rattle.sn_model.specs.Machine.{State, Running, Stopped, Mishap, Anything, EventStep, Run, Life, refused}
use Rattle.sn_model.specs.Worlds.{IsEvent, IsFound, IsSettled, IsState}

-- A stopped machine answers ESTOPPED to each call and step, and stays as it is.
abbrev pub StoppedStays : Type 0
StoppedStays = (limits : Limits) (before after : World) (e : Event) (met : Option Mishap) (reply : Reply) (new : State) → e ≢ event.Restart
    → EventStep limits (Stopped before after) e met reply new → (reply ≡ refused Estopped) × (new ≡ Stopped before after)

-- Whatever a running machine refuses an event for, but for EIO, it stays as it is.
abbrev pub RefusedEventsChangeNothing : Type 0
RefusedEventsChangeNothing = (limits : Limits) (old : World) (e : Event) (met : Option Mishap) (refusal : Refusal) (new : State) → refusal.errno ≢ Eio
    → EventStep limits (Running old) e met (answer.Refused refusal) new → new ≡ Running old

-- After a restart that mounts nobody is logged in, nothing is open, and no live file is without a name.
abbrev pub RestartsSettle : Type 0
RestartsSettle = (limits : Limits) (old : State) (met : Option Mishap) (new : World) → IsState limits old → EventStep limits old event.Restart met answer.Done (Running new) → IsSettled new

-- Whatever happens to a machine, with whatever mishaps, its worlds are worlds.
abbrev pub EventsKeepTheState : Type 0
EventsKeepTheState = (limits : Limits) (old new : State) (e : Event) (met : Option Mishap) (reply : Reply) → IsEvent e → IsState limits old → EventStep limits old e met reply new → IsState limits new

-- The same of runs from a new world: trees are name trees, open files are there, and nobody is logged in with a number that isn't one.
abbrev pub RunsKeepTheWorld : Type 0
RunsKeepTheWorld = (events : List Event) (replies : List Reply) (last : State) → AllByRecursion IsEvent events → Run Anything limits_written (Running new_world) events replies last → IsState limits_written last

-- A life, whatever its crashes, leaves a world that a mount may find.
abbrev pub LivesKeepTheWorld : Type 0
LivesKeepTheWorld = (limits : Limits) (first last : World) (runs : List (List Event × List Reply)) → AllByRecursion (λ r. AllByRecursion IsEvent r.0) runs → IsFound limits first → Life Anything limits first runs last → IsFound limits last
