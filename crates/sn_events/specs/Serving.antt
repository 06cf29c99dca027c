-- A call that is served without a point, or that needs one.
use Rattle.std.specs.Prelude.{◌≡◌, ◌⊎◌, ℕ, ◌-◌, ◌==◌, Bool, false, true, ◌||◌, Option, None, Some, Ok, Err}
use Rattle.sn_model.specs.declared.call.Call.{Call}
use Rattle.sn_model.specs.declared.call.Event.TheVariants as event
use Rattle.sn_model.specs.declared.change.Change.{Change}
use Rattle.sn_model.specs.declared.outcome.Caller.{Caller}
use Rattle.sn_model.specs.declared.outcome.Outcome.{Outcome}
use Rattle.sn_model.specs.declared.reply.Errno.TheVariants.{Eio, Enomem}
use Rattle.sn_model.specs.declared.reply.Reply.{Reply}
use Rattle.sn_model.specs.declared.reply.Reply.TheVariants as answer
use Rattle.sn_live_world.specs.declared.fault.CallFault.{CallFault}
use Rattle.sn_live_world.specs.declared.fault.CallFault.TheVariants as lack
use Rattle.sn_block.specs.Counts.{FailsRead}
use Rattle.sn_model.specs.Machine.{State, Running, Mishap, Memory, Read, Write, Space, Age, refused}
use Rattle.sn_model.specs.Settling.{dropped, nameless_in}
use Rattle.sn_model.specs.Steps.{asks_for_point, decision, with_caller}
use Rattle.sn_limits.specs.Versions.{limits_written}
use Rattle.sn_core_decide_rules.specs.Decided.{MayLack}
use Rattle.sn_model.specs.World.{World}
use Rattle.sn_model.specs.Worlds.{IsCall}
use Rattle.sn_caller.specs.Numbering.{gives_kept, has_closed}
use Rattle.sn_held.specs.Rooms.{dropping}
use Rattle.sn_held.specs.Held.{Held, RunsReady}
use Rattle.sn_cp_progress.specs.Meaning.{Means}
use Rattle.sn_log.specs.Positions.{HasRoom}
use Rattle.sn_sound.specs.Logs.{HasAgeLeft}
use Rattle.sn_events.specs.Answers.{AnswersFrom, DoesNotFit, IsCutAsked, IsTried, LacksFirst, is_fitting}
pub use Rattle.sn_events.specs.Dropping.{DropsFiles}

-- what a call without an outcome is answered
abbrev pub reply_to : CallFault → Reply
reply_to (lack.Refused r) = answer.Refused r
reply_to lack.Memory = refused Enomem
reply_to lack.Read = refused Eio

-- without a point a call encounters a lack of memory, a read that fails, or its append was cut off
abbrev pub ServesTo : Option Mishap → Held → ℕ → Call → Held → Type 0
ServesTo None h session c new = Unit {0}
ServesTo (Some Memory) h session c new = Unit {0}
ServesTo (Some Read) h session c new = FailsRead h.status new.status
ServesTo (Some Write) h session c new = IsTried h session c new.disk new.status
ServesTo (Some Space) h session c new = ⊥
ServesTo (Some Age) h session c new = ⊥

-- It is answered from this state, and no point came first.
pub record ServesFrom (s : State) (session : ℕ) (c : Call) (reply : Reply) (old new : Held) (has_stopped : Bool) : Type 0 where
  pub answers : AnswersFrom s (event.Call session c) reply old new has_stopped
  pub at_once : (answers.fin ≡ old) × (answers.mid ≡ old)
  pub met : ServesTo answers.met old session c new

-- A call is answered at once, from each state that is meant; or it results in a change that lacks something, and nothing
-- has changed; its numbers are those of a call.
abbrev pub Serves : Option Reply → Held → ℕ → Call → Held → Bool → Type 0
Serves (Some reply) old session c new has_stopped = (s : State) → Means old false s → ServesFrom s session c reply old new has_stopped
Serves None old session c new has_stopped = LacksFirst old session c × (new ≡ old) × IsCall c

-- What a change may lack, where it fits or doesn't.
abbrev pub LacksSome : Held → Change → Bool → Type 0
LacksSome h change enough = (HasRoom h.at change → ⊥) ⊎ (enough ≡ false) ⊎ (gives_kept change h.kept ≡ true) ⊎ (HasAgeLeft h.base.root → ⊥)

-- It lacks nothing.
pub record LacksNothing (h : Held) (change : Change) (enough : Bool) : Type 0 where
  pub room : HasRoom h.at change
  pub fits : enough ≡ true
  pub number : gives_kept change h.kept ≡ false
  pub age : HasAgeLeft h.base.root

abbrev pub TellsLack : Bool → Held → Change → Bool → Type 0
TellsLack true h change enough = LacksSome h change enough
TellsLack false h change enough = LacksNothing h change enough

-- What becomes of a caller was set, and the files that were dropped with it were taken out of what changed, and counted.
pub record Turns (session : ℕ) (caller : Caller) (parked : ℕ) (old new : Held) : Type 0 where
  pub is : new ≡ record old { world = dropped (with_caller old.world session caller); kept = new.kept; kept_since = new.kept_since; room = dropping (parked - nameless_in new.world.live) old.room; base = new.base }
  pub kept : (n : ℕ) → new.kept n ≡ (has_closed old.world (dropped (with_caller old.world session caller)) n || old.kept n)
  pub since : (n : ℕ) → new.kept_since n ≡ (has_closed old.world (dropped (with_caller old.world session caller)) n || old.kept_since n)
  pub base : DropsFiles old.base old.world.live new.base new.world.live

-- Why a call has no outcome: it is refused, or memory was refused or a read failed once session and arguments had passed. Nothing has changed but what the device counts.
abbrev pub IsUndecided : CallFault → Held → ℕ → Call → Held → Type 0
IsUndecided (lack.Refused r) h session c new = (decision limits_written h.world session c ≡ Err r) × (new ≡ h)
IsUndecided lack.Memory h session c new = MayLack h.world session c × (new ≡ h)
IsUndecided lack.Read h session c new = MayLack h.world session c × (new ≡ record h { status = new.status }) × FailsRead h.status new.status

-- ---- a call that asks for a point

-- what cut a call off that made no room and finished nothing
abbrev pub CutsTo : Option Mishap → Held → ℕ → Call → Held → Type 0
CutsTo (Some Write) h session c new = IsTried h session c new.disk new.status ⊎ IsCutAsked session c h new.disk new.status
CutsTo met h session c new = Unit {0}

-- It is answered from this world, and no point came first but its own.
pub record AsksFrom (w : World) (session : ℕ) (c : Call) (reply : Reply) (old new : Held) (has_stopped : Bool) : Type 0 where
  pub answers : AnswersFrom (Running w) (event.Call session c) reply old new has_stopped
  pub at_once : (answers.fin ≡ old) × (answers.mid ≡ old)
  pub cuts : CutsTo answers.met old session c new

-- of what runs, where no point is in progress
abbrev pub ServesAsked : Reply → Held → ℕ → Call → Held → Bool → Type 0
ServesAsked reply old session c new has_stopped = RunsReady old old.world old.base → AsksFrom old.world session c reply old new has_stopped

-- The tests of a call that asks for a point have passed, and it fits.
pub record IsToAsk (h : Held) (session : ℕ) (c : Call) (o : Outcome) : Type 0 where
  pub decided : decision limits_written h.world session c ≡ Ok o
  pub fits : DoesNotFit h session c → ⊥

-- whether one with this outcome fits: what is charged for nothing does
abbrev pub has_room_of : Held → Outcome → Bool
has_room_of h o = (o.charge == 0) || is_fitting h o

-- It is one that asks for a point, in some session.
pub record IsAsked (h : Held) (o : Outcome) : Type 0 where
  pub session : ℕ
  pub call : Call
  pub asks : asks_for_point call ≡ true
  pub to : IsToAsk h session call o
