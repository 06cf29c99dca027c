-- What an event answers after the point in progress, once that is finished, or where it is cut off.
use Rattle.std.proofs.Common.{◌≡◌, ◌⊎◌, inl, inr, ℕ, Bool, false, Option, Some, None, Err, Ok, refl, sym, ap, subst, ◌∙◌}
use Rattle.sn_limits.specs.Versions.{limits_written}
use Rattle.sn_model.specs.declared.call.Call.{Call}
use Rattle.sn_model.specs.declared.call.Event.{Event}
use Rattle.sn_model.specs.declared.call.Event.TheVariants as event
use Rattle.sn_model.specs.declared.reply.Reply.{Reply}
use Rattle.sn_model.specs.Machine.{Running, refused, State}
use Rattle.sn_model.specs.Settling.{settle}
use Rattle.sn_model.specs.World.{World}
use Rattle.sn_model.specs.Worlds.{IsWorld}
use Rattle.sn_block.specs.Counts.{IsLater}
use Rattle.sn_block.proofs.CountLemmas.{later-is, later-join, later-same}
use Rattle.sn_device.specs.Crash.{LeavesOnly}
use Rattle.sn_device.specs.declared.status.Status.{Status}
use Rattle.sn_device.proofs.CrashLemmas.{LeavesOnly-join, LeavesOnly-start, LeavesOnly-weaker}
use Rattle.sn_held.specs.Held.{Going, Held, RunsReady}
use Rattle.sn_held.specs.Images.{IsImage}
use Rattle.sn_held.specs.Moments.{ShowsState}
use Rattle.sn_held.proofs.EventLemmas.{runs_show}
use Rattle.sn_cp_progress.specs.Meaning.{RunsWith}
use Rattle.sn_cp_whole.specs.declared.fault.PointFault.{PointFault}
use Rattle.sn_overlay.specs.Layers.{Layer}
use Rattle.sn_model.specs.declared.outcome.AskedPoint.TheVariants.{Plain}
use Rattle.sn_events.specs.Answers.{Answers, AnswersFrom, BuildsFor, BuildsLast, IsBehindFinish, NeedsPoint, MayPoint}
use Rattle.sn_events.specs.Pointing.{Finishes, FinishesSo, errno_of_point, stops_for}
use Rattle.sn_events.specs.Serving.{Serves}
use Rattle.sn_events.specs.Unmounting.{IsRefusedFor}
use Rattle.sn_events.proofs.PointLemmas.{PointEvent, call_point, in_any_world, is_cut, running_between, unmount_point, unpointed_restart}

-- It is finished, where there was one: what runs is ready for another, and each crash has left the settled world.
pub record IsFin (old fin : Held) : Type 0 where
  pub ready : RunsReady fin fin.world fin.base
  pub world : fin.world ≡ old.world
  pub between : fin.point ≡ None
  pub moments : LeavesOnly old.disk fin.disk (λ c. IsImage c (settle old.world))
  pub finish : (s : State) (e : Event) → MayPoint s e → NeedsPoint old e → IsBehindFinish s e old fin
  pub later : IsLater old.status fin.status
  pub failures : fin.status.failures ≡ old.status.failures

pub is_fin : (old fin : Held) → FinishesSo (Ok (tt {0})) old.point old fin → RunsWith old.point old old.world → IsFin old fin
is_fin old fin so runs = told old.point refl so runs
  where
    told : (point : Option Going) → old.point ≡ point → FinishesSo (Ok (tt {0})) point old fin → RunsWith point old old.world → IsFin old fin
    told None between same ready = subst (λ (h : Held). IsFin old h) (sym same) (record {
      ready = ready;
      world = refl;
      between = between;
      moments = LeavesOnly-start old.disk (λ c. IsImage c (settle old.world)) (runs_show old old.world ready.runs);
      finish = λ s e may needed. inl refl;
      later = later-same old.status old.status refl;
      failures = refl;
    })
    told (Some going) is done on = let f = done.finished in record {
      ready = subst (λ (w : World). RunsReady fin w fin.base) (sym f.world) done.runs;
      world = f.world;
      between = f.point;
      moments = done.moments;
      finish = λ s e may needed. inr (may, needed, f);
      later = later-is _ _ old.status fin.status f.costs;
      failures = ap (λ (s : Status). s.failures) f.costs;
    }

none_is_none : {A : Type 0} (point : Option Going) (going : Going) → point ≡ None → point ≡ Some going → A
none_is_none point going none some = let never : None ≡ Some going = sym none ∙ some in absurd cc

-- where none is in progress nothing is done
pub none_finishes : (old new : Held) → old.point ≡ None → new ≡ old → Finishes (Ok (tt {0})) old new
none_finishes old new between same r = subst (λ (p : Option Going). FinishesSo (Ok (tt {0})) p old new) (sym between) same

-- what is finished after it is so at once
pub one_finish : (s : State) (e : Event) (old fin last : Held) → IsFin old fin → MayPoint s e → NeedsPoint old e → IsBehindFinish s e fin last → IsBehindFinish s e old last
one_finish s e old fin last f may needed (inl same) = subst (λ (h : Held). IsBehindFinish s e old h) (sym same) (f.finish s e may needed)
one_finish s e old fin last f may needed (inr again) = none_is_none fin.point again.2.going f.between again.2.is

-- what is answered after it
module _ (e : Event) (old fin new : Held) (f : IsFin old fin) (may_point : MayPoint (Running fin.world) e) (needed : NeedsPoint old e) where
  pub behind_finish : (reply : Reply) (has_stopped : Bool) → AnswersFrom (Running fin.world) e reply fin new has_stopped → AnswersFrom (Running old.world) e reply old new has_stopped
  behind_finish reply has_stopped a = subst (λ (w : World). AnswersFrom (Running w) e reply old new has_stopped) f.world (record {
    met = a.met;
    fin = a.fin;
    finish = one_finish (Running fin.world) e old fin a.fin f may_point needed a.finish;
    mid = a.mid;
    point = a.point;
    may = a.may;
    next = a.next;
    step = a.step;
    means = a.means;
    lasts = record {
      moments = LeavesOnly-join old.disk fin.disk new.disk (λ d. ShowsState (Running fin.world) d ⊎ ShowsState a.next d)
          (LeavesOnly-weaker old.disk fin.disk (λ d. IsImage d (settle old.world)) (λ d. ShowsState (Running fin.world) d ⊎ ShowsState a.next d)
          (λ d im. inl (subst (λ (w : World). IsImage d (settle w)) (sym f.world) im)) f.moments) a.lasts.moments;
      answered = a.lasts.answered;
    };
    later = later-join old.status fin.status new.status f.later a.later;
    leaves = a.leaves;
  })

  -- from each state that is meant
  pub answers_behind : (reply : Reply) (has_stopped : Bool) → Answers e reply fin false new has_stopped → AnswersFrom (Running old.world) e reply old new has_stopped
  answers_behind reply has_stopped answers =
      behind_finish reply has_stopped (answers (Running fin.world) (refl, running_between fin fin.world f.between f.ready))

-- it was cut off
pub cut_finish : (e : Event) (Builds : Layer → Type 0) (old : Held) (x : PointEvent e Builds old old.world) (new : Held) (fault : PointFault) → FinishesSo (Err fault) old.point old new → AnswersFrom (Running old.world) e (refused (errno_of_point fault)) old new (stops_for fault)
cut_finish e Builds old x new fault so = told old.point so
  where
    told : (at : Option Going) → FinishesSo (Err fault) at old new → AnswersFrom (Running old.world) e (refused (errno_of_point fault)) old new (stops_for fault)
    told None never = absurd never
    told (Some going) (is, cut) = subst (λ (f : PointFault). AnswersFrom (Running old.world) e (refused (errno_of_point f)) old new (stops_for f)) (sym is)
        (is_cut e Builds old x new (LeavesOnly-weaker old.disk new.disk (λ d. IsImage d (settle old.world)) (λ d. IsImage d (settle old.world) ⊎ IsImage d x.after) (λ d im. inl im) cut.moments) cut.failed cut.later
        (x.cut_finish new (record { needed = x.needed; touched = cut.touched; going = cut.going; is = cut.is; costs = cut.costs })))

-- ---- a call that lacked something

pub call_after_finish : (old asked fin new : Held) (session : ℕ) (c : Call) (reply : Reply) (has_stopped : Bool) → Serves None old session c asked false → Finishes (Ok (tt {0})) asked fin → Answers (event.Call session c) reply fin false new has_stopped → Answers (event.Call session c) reply old false new has_stopped
call_after_finish old asked fin new session c reply has_stopped lacks finishes answers =
    in_any_world (event.Call session c) old new reply has_stopped (λ r.
    let f = is_fin old fin (subst (λ (h : Held). Finishes (Ok (tt {0})) h fin) lacks.1 finishes r) r in
    answers_behind (event.Call session c) old fin new f tt (inl lacks.0) reply has_stopped answers)

pub call_cut : (old asked new : Held) (session : ℕ) (c : Call) (fault : PointFault) → IsWorld limits_written old.world → Serves None old session c asked false → Finishes (Err fault) asked new → Answers (event.Call session c) (refused (errno_of_point fault)) old false new (stops_for fault)
call_cut old asked new session c fault whole lacks finishes =
    in_any_world (event.Call session c) old new (refused (errno_of_point fault)) (stops_for fault) (λ r.
    cut_finish (event.Call session c) (BuildsFor Plain old) old (call_point old session c lacks.2 whole lacks.0) new fault (subst (λ (h : Held). Finishes (Err fault) h new) lacks.1 finishes r))

-- ---- a restart

pub restart_refused : (old new : Held) (fault : PointFault) → (RunsWith old.point old old.world → IsRefusedFor fault old new) → Answers event.Restart (refused (errno_of_point fault)) old false new (stops_for fault)
restart_refused old new fault refuses = in_any_world event.Restart old new (refused (errno_of_point fault)) (stops_for fault) (λ r. told r (refuses r))
  where
    told : RunsWith old.point old old.world → IsRefusedFor fault old new → AnswersFrom (Running old.world) event.Restart (refused (errno_of_point fault)) old new (stops_for fault)
    told r (inl cut) = cut_finish event.Restart (BuildsLast old) old (unmount_point old) new fault cut
    told r (inr (fin, so, unpointed)) =
        let f = is_fin old fin so r in
        behind_finish event.Restart old fin new f tt tt (refused (errno_of_point fault)) (stops_for fault)
        (unpointed_restart fin new fault f.between f.ready unpointed)
