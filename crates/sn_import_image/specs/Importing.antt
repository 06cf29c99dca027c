-- What was done from one moment of an import to another.
use Rattle.std.specs.Prelude.{◌≡◌, ◌||◌, Bool, true, false, List, [], ◌∷◌, ◌++◌, length, replicate, IsTrue}
use Rattle.sn_model.specs.declared.call.Event.{Event}
use Rattle.sn_model.specs.declared.call.Event.TheVariants as event
use Rattle.sn_model.specs.declared.reply.Reply.{Reply}
use Rattle.sn_import_calls.specs.Acts.{Act, Called, Told}
use Rattle.sn_serving.specs.Served.{Leads, Served}

-- These events are the calls of the acts, made in session 0, each with steps of consistency points after it, and these are the replies.
abbrev pub AreEventsOf : List Act → List Event → List Reply → Type 0
AreEventsOf [] events replies = (events ≡ []) × (replies ≡ [])
AreEventsOf (Called c told ∷ acts) events replies =
    (steps : List Reply) × (more : List Event) × (others : List Reply)
    × (events ≡ event.Call 0 c ∷ (replicate (length steps) event.Step ++ more)) × (replies ≡ told ∷ (steps ++ others)) × AreEventsOf acts more others
AreEventsOf (Told entry name why ∷ acts) events replies = AreEventsOf acts events replies

-- whether anything was reported
abbrev pub has_report : List Act → Bool
has_report [] = false
has_report (Called c told ∷ acts) = has_report acts
has_report (Told entry name why ∷ acts) = true

-- what is served, the output of reports, and whether there were any
abbrev pub Seen : Type 0 → Type 0
Seen E = Served × E × Bool

-- The calls lead from the one to the other, where the device tells its bytes. Without a report the output is untouched.
pub record Did {E : Type 0} (told : Bool) (new first : Seen E) (acts : List Act) : Type 0 where
  pub events : List Event
  pub replies : List Reply
  pub are : AreEventsOf acts events replies
  pub leads : IsTrue told → Leads events replies first.0 new.0
  pub reported : new.2 ≡ first.2 || has_report acts
  pub quiet : has_report acts ≡ false → new.1 ≡ first.1
