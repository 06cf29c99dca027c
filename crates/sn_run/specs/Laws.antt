-- What crashes leave of runs, life by life, and what points leave and cost.
use Rattle.std.specs.Prelude.{◌≡◌, false, true, Option, Some, List, [], ◌∷◌, ℕ, ◌+◌, ◌<◌, ◌≤◌}
use Rattle.sn_device.specs.Sectors.{Contents}
use Rattle.sn_device.specs.Status.{has_ended}
use Rattle.sn_limits.specs.Versions.{limits_written}
use Rattle.sn_model.specs.declared.call.Event.{Event}
use Rattle.sn_model.specs.declared.call.Event.TheVariants as event
use Rattle.sn_model.specs.declared.reply.Progress.TheVariants as progress
use Rattle.sn_model.specs.declared.reply.Reply.{Reply}
use Rattle.sn_model.specs.declared.reply.Reply.TheVariants as answer
use Rattle.sn_model.specs.Machine.{Running, Anything, Life, Mishap, Read, Write, Run, RunBy}
use Rattle.sn_model.specs.World.{World}
use Rattle.sn_held.specs.Images.{IsImage}
use Rattle.sn_run.specs.Runs.{Goes, ShowsCut, Standing}
use Rattle.sn_device.specs.Disk.{Always}
use Rattle.sn_layout.specs.Geometry.{map_blocks}
use Rattle.sn_model.specs.declared.call.Call.{Call}
use Rattle.sn_model.specs.Settling.{nameless_in, settle}
use Rattle.sn_model.specs.Steps.{AsksForPoint}
use Rattle.sn_model.specs.declared.outcome.Outcome.{Outcome}
use Rattle.sn_overlay.specs.Needs.{need}
use Rattle.sn_held.specs.Rooms.{done, fits}
use Rattle.sn_held.specs.Held.{Going, Held}
use Rattle.sn_cp_progress.specs.Meaning.{Means}
use Rattle.sn_examine.specs.Failing.{CostsAtMost}
use Rattle.sn_events.specs.Answers.{HasBegun, counts_down, is_fitting, left_of, NeedsPoint}
use Rattle.sn_events.specs.Durable.{IsInItsRoot}
use Rattle.sn_model.specs.Worlds.{IsWorld}

-- a run from the world that the contents are an image of, of which a crash after these replies
-- left the others, as the contract of a run says
pub record Cuts (c : Contents) (events : List Event) (said : List Reply) (left : Contents) : Type 0 where
  pub world : World
  pub image : IsImage c world
  pub cut : ShowsCut (Running world) events said left

-- runs, each from what a crash in the run before has left
abbrev pub LivesOn : Contents → List (List Event × List Reply) → Contents → Type 0
LivesOn c [] last = last ≡ c
LivesOn c (r ∷ rs) last = (next : Contents) × Cuts c r.0 r.1 next × LivesOn next rs last

-- They are a life of the machine, whose last world the last contents are an image of.
abbrev pub LivesAreLives : Type 0
LivesAreLives = (c last : Contents) (runs : List (List Event × List Reply)) (first : World) → IsImage c first → LivesOn c runs last
    → (world : World) × IsImage last world × Life Anything limits_written first runs world

-- no read, no write and no sync of a device failed
abbrev pub Unfailing : Option Mishap → Type 0
Unfailing (Some Read) = ⊥
Unfailing (Some Write) = ⊥
Unfailing met = Unit {0}

-- Where the device failed in none of the events, and isn't at its end, they are a run in which no failure occurred: none is invented.
abbrev pub NoFailureIsInvented : Type 0
NoFailureIsInvented = (first last : Standing) (events : List Event) (replies : List Reply) → RunBy Goes first events replies last
    → last.held.status.failures ≡ first.held.status.failures → has_ended last.held.status ≡ false
    → Run Unfailing limits_written first.state events replies last.state

-- ---- points

-- After a call that asks for a point, as `sync`, and is answered so that it is done, the newest root has all of the world, whatever a crash
-- leaves: its tree is the live one, and nothing is logged on top of it.
abbrev pub SyncsLeaveAll : Type 0
SyncsLeaveAll = (old new : Standing) (session : ℕ) (c : Call) → AsksForPoint c → Means old.held old.has_stopped old.state → Goes old (event.Call session c) answer.Done new
    → Always new.held.disk (IsInItsRoot new.held.world.live (settle new.held.world))

-- A call that needs no point makes at most the 131 writes and the two syncs of the longest record, however it is answered.
abbrev pub CallsAreSmall : Type 0
CallsAreSmall = (old new : Standing) (session : ℕ) (c : Call) (reply : Reply) → IsWorld limits_written old.held.world → (NeedsPoint old.held (event.Call session c) → ⊥) → Goes old (event.Call session c) reply new → CostsAtMost 131 2 old.held.status new.held.status

-- A call that fits on the root that counts fits on that of the point in progress too, with what was charged since that began.
abbrev pub CallsFitOnBoth : Type 0
CallsFitOnBoth = (s : Standing) (going : Going) (o : Outcome) → s.held.point ≡ Some going → Means s.held false s.state → is_fitting s.held o ≡ true
    → fits limits_written (done going.free s.held.room) (nameless_in s.held.world.live) o ≡ true

-- A step makes at most eight writes and a sync, however it is answered.
abbrev pub StepsAreSmall : Type 0
StepsAreSmall = (old new : Standing) (reply : Reply) → Goes old event.Step reply new → CostsAtMost 8 1 old.held.status new.held.status

-- One that says that there is more has written something.
abbrev pub StepsWrite : Type 0
StepsWrite = (old new : Standing) → Means old.held false old.state → Goes old event.Step (answer.Progress progress.More) new → old.held.status.writes < new.held.status.writes

-- With the step that begins it a point has at most one for each new block that what has changed
-- needs, one for each block of the map, and four.
abbrev pub PointsAreFewSteps : Type 0
PointsAreFewSteps = (old new : Held) → HasBegun old new → left_of new.point + 1 ≤ need old.base.root.limits old.base.changed + map_blocks old.at.blocks + 4

-- an event is answered, and after it the mount runs, with a point in progress
pub record GoesUnder (old : Standing) (e : Event) (reply : Reply) (new : Standing) : Type 0 where
  pub goes : Goes old e reply new
  pub runs : new.has_stopped ≡ false
  pub going : Going
  pub is : new.held.point ≡ Some going

-- how many steps say that there is more
abbrev pub steps_on : List Event → List Reply → ℕ
steps_on [] replies = 0
steps_on (e ∷ events) [] = 0
steps_on (e ∷ events) (reply ∷ replies) = counts_down e reply + steps_on events replies

-- While a point is in progress each step that says that there is more takes one off those that are left, and no other event does, whatever calls come between.
abbrev pub StepsAreSpent : Type 0
StepsAreSpent = (first last : Standing) (events : List Event) (replies : List Reply) (going : Going) → first.held.point ≡ Some going → Means first.held false first.state → RunBy GoesUnder first events replies last
    → left_of last.held.point + steps_on events replies ≡ left_of first.held.point
