-- What was done is part of a run, and its calls are those of the acts.
use Rattle.std.specs.List.{AllByRecursion}
use Rattle.std.specs.Prelude.{◌≡◌, ℕ, Bool, true, false, List, [], ◌∷◌, Err, IsTrue}
use Rattle.sn_device.specs.Status.{has_ended}
use Rattle.sn_model.specs.declared.call.Call.{Call}
use Rattle.sn_model.specs.declared.call.Event.{Event}
use Rattle.sn_model.specs.declared.call.Event.TheVariants as event
use Rattle.sn_model.specs.declared.reply.Reply.{Reply}
use Rattle.sn_plan.specs.Acts.{Act, Called, Counted, Found, Seen}
use Rattle.sn_plan.specs.declared.errors.LookFault.TheVariants.{Read}
use Rattle.sn_serving.specs.Served.{Leads}
use Rattle.sn_mounted.specs.Doing.{Did}
use Rattle.sn_mounted.specs.Shown.{Shown}

-- nothing is called
abbrev pub IsLook : Act → Type 0
IsLook (Called session c reply) = ⊥
IsLook (Found path found) = Unit {0}
IsLook (Seen number seen) = Unit {0}
IsLook (Counted space) = Unit {0}

-- These events with their replies are the calls of the acts, in their order, and steps of consistency points.
pub data AreEventsOf : List Act → List Event → List Reply → Type 0 where
  none : AreEventsOf [] [] []
  call : {acts : List Act} {events : List Event} {replies : List Reply} {session : ℕ} {c : Call} {reply : Reply} → AreEventsOf acts events replies
      → AreEventsOf (Called session c reply ∷ acts) (event.Call session c ∷ events) (reply ∷ replies)
  step : {acts : List Act} {events : List Event} {replies : List Reply} {reply : Reply} → AreEventsOf acts events replies → AreEventsOf acts (event.Step ∷ events) (reply ∷ replies)
  look : {acts : List Act} {events : List Event} {replies : List Reply} {act : Act} → IsLook act → AreEventsOf acts events replies → AreEventsOf (act ∷ acts) events replies

pub record IsPartOfRun (told : Bool) (first now : Shown) (acts : List Act) : Type 0 where
  pub events : List Event
  pub replies : List Reply
  pub are : AreEventsOf acts events replies
  pub leads : IsTrue told → Leads events replies first.served now.served

abbrev pub DidIsRun : Type 0
DidIsRun = (told : Bool) (first now : Shown) (acts : List Act) → Did told first now acts → IsPartOfRun told first now acts

-- a look that didn't fail to read
abbrev pub HasRead : Act → Type 0
HasRead (Found path (Err Read)) = ⊥
HasRead (Seen number (Err Read)) = ⊥
HasRead act = Unit {0}

-- Where the device counted no failure in what was done, and hasn't ended, it has not stopped, and no look failed to read: none is invented.
abbrev pub NoMissIsInvented : Type 0
NoMissIsInvented = (first now : Shown) (acts : List Act) → Did true first now acts → first.served.has_stopped ≡ false → now.served.status.failures ≡ first.served.status.failures → has_ended now.served.status ≡ false
    → (now.served.has_stopped ≡ false) × AllByRecursion HasRead acts
