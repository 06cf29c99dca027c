-- What points leave of a run, and of their steps.
use Rattle.std.proofs.Common.{◌≡◌, ◌⊎◌, inl, inr, ℕ, ◌+◌, Bool, false, true, List, [], ◌∷◌, Option, None, Some, Result, Ok, Err, refl, sym, ap, subst, ◌∙◌, arith}
use Rattle.std.proofs.lemmas.Bool.{true≢false}
use Rattle.sn_device.specs.Disk.{Always}
use Rattle.sn_limits.specs.Versions.{limits_written}
use Rattle.sn_model.specs.declared.call.Call.{Call}
use Rattle.sn_model.specs.declared.call.Event.{Event}
use Rattle.sn_model.specs.declared.call.Event.TheVariants as event
use Rattle.sn_model.specs.declared.outcome.Outcome.{Outcome}
use Rattle.sn_model.specs.declared.reply.Errno.{Errno}
use Rattle.sn_model.specs.declared.reply.Errno.TheVariants.{Eio, Elimit, Enomem, Enospc, Estopped}
use Rattle.sn_model.specs.declared.reply.Refusal.{Refusal}
use Rattle.sn_model.specs.declared.reply.Reply.{Reply}
use Rattle.sn_model.specs.declared.reply.Reply.TheVariants as answer
use Rattle.sn_model.specs.Machine.{State, Running, Stopped, Mishap, Memory, Read, Write, Space, Age, EventStep, RunBy, refused}
use Rattle.sn_model.specs.Settling.{nameless_in, settle}
use Rattle.sn_model.specs.Steps.{AsksForPoint, Becomes, decision}
use Rattle.sn_model.specs.World.{World}
use Rattle.sn_held.specs.Rooms.{done, fits}
use Rattle.sn_held.specs.Held.{Going, Held, RunsReady}
use Rattle.sn_cp_progress.specs.Meaning.{Means, RunsWith, progress_over}
use Rattle.sn_cp_progress.proofs.CallLemmas.{fits_on_next}
use Rattle.sn_cp_progress.proofs.MeaningLemmas.{runs_with}
use Rattle.sn_events.specs.Answers.{AnswersFrom, AsksFirst, HasLogged, HasPointed, HasTold, IsBehindFinish, IsBehindPoint, Leaves, is_fitting, left_of}
use Rattle.sn_events.specs.Durable.{IsInItsRoot}
use Rattle.sn_events.proofs.CountedLemmas.{counts_event}
use Rattle.sn_events.proofs.DurableLemmas.{in_its_root}
use Rattle.sn_run.specs.Laws.{GoesUnder, steps_on}
use Rattle.sn_run.specs.Runs.{Goes, Standing}

-- ---- a call that asks for a point

done_is_refused : (errno : Errno) → answer.Done ≡ refused errno → ⊥
done_is_refused errno e = cc

done_so : (w : World) (session : ℕ) (d : Result Outcome Refusal) (next : World) → Becomes limits_written w session d answer.Done next → (o : Outcome) × (d ≡ Ok o)
done_so w session (Ok o) next b = (o, refl)
done_so w session (Err r) next b = let never : answer.Done ≡ answer.Refused r = b.0 in absurd cc

module _ (old new : Held) (had has : Bool) (session : ℕ) (c : Call) (asks : AsksForPoint c) where
  abbrev e : Event
  e = event.Call session c

  -- the point in progress makes no difference to the world
  world_there : (w : World) (fin : Held) → IsBehindFinish (Running w) e old fin → RunsWith old.point old w → fin.world ≡ w
  world_there w fin (inl same) r = ap (λ (h : Held). h.world) same ∙ (runs_with old w old.point r).is
  world_there w fin (inr f) r = f.2.world ∙ (runs_with old w old.point r).is

  -- nor does one that makes room
  world_behind : (w : World) (fin mid : Held) → IsBehindPoint (Running w) e fin mid → mid.world ≡ fin.world
  world_behind w fin mid (inl same) = ap (λ (h : Held). h.world) same
  world_behind w fin mid (inr made) = made.1.is

  leaves_all : (s : State) (met : Option Mishap) (state : State) (fin mid : Held) → IsBehindFinish s e old fin → IsBehindPoint s e fin mid → EventStep limits_written s e met answer.Done state → Means old had s → Means new has state → Leaves s e met answer.Done state fin mid new → Always new.disk (IsInItsRoot new.world.live (settle new.world))
  leaves_all (Stopped before after) None state fin mid f p step m n l = absurd (done_is_refused Estopped step.0)
  leaves_all (Stopped before after) (Some met) state fin mid f p step m n l = absurd step
  leaves_all (Running w) None state fin mid f p step m n l = told l
    where
      d : (o : Outcome) × (decision limits_written w session c ≡ Ok o)
      d = done_so w session (decision limits_written w session c) step.0 step.1

      asked : AsksFirst mid session c
      asked = record { asks = asks; outcome = d.0; decided = subst (λ (x : World). decision limits_written x session c ≡ Ok d.0) (sym (world_behind w fin mid p ∙ world_there w fin f m.1)) d.1 }

      told : HasPointed session c mid new ⊎ ((AsksFirst mid session c → ⊥) × (HasTold session c mid new ⊎ HasLogged session c mid new)) → Always new.disk (IsInItsRoot new.world.live (settle new.world))
      told (inl pointed) =
          let fresh = pointed.made.fresh in
          let runs : Means new has (Running step.0) = subst (Means new has) step.2 n in
          let ready : RunsReady new step.0 new.base = subst (λ (p : Option Going). RunsWith p new step.0) fresh.between runs.1 in
          subst (λ (x : World). Always new.disk (IsInItsRoot x.live (settle x))) (sym ready.runs.is) (in_its_root new step.0 ready fresh)
      told (inr served) = absurd (served.0 asked)
  leaves_all (Running w) (Some Memory) state fin mid f p step m n l = absurd (done_is_refused Enomem step.1.told)
  leaves_all (Running w) (Some Read) state fin mid f p step m n l = absurd (done_is_refused Eio step.1.told)
  leaves_all (Running w) (Some Write) state fin mid f p step m n l = absurd (done_is_refused Eio step.stops.told)
  leaves_all (Running w) (Some Space) state fin mid f p step m n l = absurd (done_is_refused Enospc step.1.told)
  leaves_all (Running w) (Some Age) state fin mid f p step m n l = absurd (done_is_refused Elimit step.1.told)

pub syncs_leave_all : (old new : Standing) (session : ℕ) (c : Call) → AsksForPoint c → Means old.held old.has_stopped old.state → Goes old (event.Call session c) answer.Done new → Always new.held.disk (IsInItsRoot new.held.world.live (settle new.held.world))
syncs_leave_all old new session c asks means goes = let a = goes.answers in leaves_all old.held new.held old.has_stopped new.has_stopped session c asks old.state a.met a.next a.fin a.mid a.finish a.point a.step means a.means a.leaves

-- ---- a call that fits

pub fits_on_both : (s : Standing) (going : Going) (o : Outcome) → s.held.point ≡ Some going → Means s.held false s.state → is_fitting s.held o ≡ true → fits limits_written (done going.free s.held.room) (nameless_in s.held.world.live) o ≡ true
fits_on_both s going o is means it_fits = told s.state means
  where
    told : (state : State) → Means s.held false state → fits limits_written (done going.free s.held.room) (nameless_in s.held.world.live) o ≡ true
    told (Running w) m =
        let on = subst (λ (point : Option Going). RunsWith point s.held w) is m.1 in
        fits_on_next s.held w (progress_over going (record { live = on.0; frozen = w.frozen })) (nameless_in s.held.world.live) o on.1 it_fits
    told (Stopped before after) m = absurd (true≢false (sym m.0))

-- ---- steps, one after the other, with what comes between

pub steps_spent : (first last : Standing) (events : List Event) (replies : List Reply) (going : Going) → first.held.point ≡ Some going → Means first.held false first.state → RunBy GoesUnder first events replies last → left_of last.held.point + steps_on events replies ≡ left_of first.held.point
steps_spent first last [] [] going is means run = omega (arith, ap (λ (x : Standing). left_of x.held.point) run)
steps_spent first last [] (reply ∷ replies) going is means run = absurd run
steps_spent first last (e ∷ events) [] going is means run = absurd run
steps_spent first last (e ∷ events) (reply ∷ replies) going is means run =
    let mid = run.0 in
    let under = run.1 in
    let a = under.goes.answers in
    let one = counts_event first.state e reply first.held mid.held going under.going is under.is means (subst (λ (b : Bool). AnswersFrom first.state e reply first.held mid.held b) under.runs a) in
    let there : Means mid.held false mid.state = subst (λ (b : Bool). Means mid.held b mid.state) under.runs (subst (Means mid.held mid.has_stopped) (sym under.goes.next) a.means) in
    let rest = steps_spent mid last events replies under.going under.is there run.2 in
    omega (arith, one, rest)
