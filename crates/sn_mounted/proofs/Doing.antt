-- What was done, act by act, is part of a run.
use Rattle.std.proofs.Common.{◌≡◌, Bool, List, [], ◌∷◌, ◌++◌, Result, Ok, Err, length, replicate, sym, subst}
use Rattle.std.proofs.lemmas.List.{append-nil}
use Rattle.std.specs.Prelude.{IsTrue}
use Rattle.sn_model.specs.declared.call.Event.{Event}
use Rattle.sn_model.specs.declared.call.Event.TheVariants as event
use Rattle.sn_model.specs.declared.reply.Reply.{Reply}
use Rattle.sn_plan.specs.Acts.{Act, Called, Counted, Found, Seen, Grows}
use Rattle.sn_serving.specs.Served.{Leads, Served}
use Rattle.sn_serving.proofs.ServedLemmas.{leads_missed, leads_more, leads_none}
use Rattle.sn_plan.specs.declared.errors.LookFault.{LookFault}
use Rattle.sn_mounted.specs.Doing.{Did, DidFrom, Does, LooksAt, begins, calls, cause_of, counts, does, finds, sees, steps}
use Rattle.sn_mounted.specs.Runs.{AreEventsOf, DidIsRun, IsLook, IsPartOfRun, call, look, none, step}
use Rattle.sn_mounted.specs.Shown.{Shown}

pub grows_by : (told : Bool) (act : Act) (old new : Shown) → Does told act old new → Grows (DidFrom told old) (DidFrom told new) (act ∷ [])
grows_by told act old new h = record { grows = λ first before d. does d h }

pub grows_by_steps : (told : Bool) (replies : List Reply) (old new : Shown) → (IsTrue told → Leads (replicate (length replies) event.Step) replies old.served new.served) → new.places ≡ old.places
    → Grows (DidFrom told old) (DidFrom told new) []
grows_by_steps told replies old new leads same =
    record { grows = λ first before d. subst (λ (done : List Act). Did told first new done) (sym (append-nil before)) (steps {replies = replies} d leads same) }

-- ---- events

events_more : {a b : List Act} {e f : List Event} {r s : List Reply} → AreEventsOf a e r → AreEventsOf b f s → AreEventsOf (a ++ b) (e ++ f) (r ++ s)
events_more none more = more
events_more (call are) more = call (events_more are more)
events_more (step are) more = step (events_more are more)
events_more (look is are) more = look is (events_more are more)

events_of_steps : (replies : List Reply) → AreEventsOf [] (replicate (length replies) event.Step) replies
events_of_steps [] = none
events_of_steps (reply ∷ replies) = step (events_of_steps replies)

-- what one act does is part of a run
looks_on : (told : Bool) (act : Act) (old new : Shown) → IsLook act → (IsTrue told → Leads [] [] old.served new.served) → IsPartOfRun told old new (act ∷ [])
looks_on told act old new is leads = record { events = []; replies = []; are = look is none; leads = leads }

pub looked : {T : Type 0} (result : Result T LookFault) (old new : Served) → LooksAt result old new → Leads [] [] old new
looked (Ok it) old new same = subst (λ (s : Served). Leads [] [] old s) (sym same) (leads_none old)
looked (Err fault) old new missed = leads_missed (cause_of fault) old new missed

act_runs : (told : Bool) (act : Act) (old new : Shown) → Does told act old new → IsPartOfRun told old new (act ∷ [])
act_runs told (Called session c reply) old new (calls leads places) = record { events = event.Call session c ∷ []; replies = reply ∷ []; are = call none; leads = leads }
act_runs told (Found path found) old new (finds same is) = looks_on told (Found path found) old new tt (λ known. looked found old.served new.served (same known))
act_runs told (Seen number seen) old new (sees same places is) = looks_on told (Seen number seen) old new tt (λ known. looked seen old.served new.served (same known))
act_runs told (Counted space) old new (counts left) = looks_on told (Counted space) old old tt (λ known. leads_none old.served)

runs_more : (told : Bool) (a b : List Act) (first old new : Shown) → IsPartOfRun told first old a → IsPartOfRun told old new b → IsPartOfRun told first new (a ++ b)
runs_more told a b first old new h more = record {
  events = h.events ++ more.events;
  replies = h.replies ++ more.replies;
  are = events_more h.are more.are;
  leads = λ is. leads_more h.events more.events h.replies more.replies first.served old.served new.served (h.leads is) (more.leads is);
}

pub did_runs : DidIsRun
did_runs told first now acts begins = record { events = []; replies = []; are = none; leads = λ is. leads_none first.served }
did_runs told first now acts (does {old} {new} {acts = before} {act} d h) = runs_more told before (act ∷ []) first old new (did_runs told first old before d) (act_runs told act old new h)
did_runs told first now acts (steps {old} {new} {acts = before} {replies} d leads same) =
    subst (λ (done : List Act). IsPartOfRun told first new done) (append-nil before) (runs_more told before [] first old new (did_runs told first old before d) (record {
      events = replicate (length replies) event.Step;
      replies = replies;
      are = events_of_steps replies;
      leads = leads;
    }))
