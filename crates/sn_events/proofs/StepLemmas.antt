-- What a step answers.
use Rattle.std.proofs.Common.{◌≡◌, ◌⊎◌, inl, inr, ℕ, false, true, Some, None, Err, Ok, refl, sym, ap, subst}
use Rattle.std.proofs.lemmas.Bool.{true≢false}
use Rattle.sn_limits.specs.Versions.{limits_written}
use Rattle.sn_model.specs.declared.call.Event.TheVariants as event
use Rattle.sn_model.specs.declared.reply.Errno.TheVariants.{Eio, Elimit, Enomem, Estopped}
use Rattle.sn_model.specs.declared.reply.Progress.{Progress}
use Rattle.sn_model.specs.declared.reply.Progress.TheVariants as progress
use Rattle.sn_model.specs.declared.reply.Reply.TheVariants as answer
use Rattle.sn_model.specs.Machine.{Mishap, Running, Stopped, Memory, Read, Write, Age, EventStep, errno_of, refused}
use Rattle.sn_model.specs.Settling.{settle}
use Rattle.sn_block.proofs.CountLemmas.{later-is, later-same}
use Rattle.sn_device.specs.Crash.{LeavesOnly, Touches}
use Rattle.sn_device.specs.declared.status.Status.{Status}
use Rattle.sn_device.proofs.CrashLemmas.{LeavesOnly-now, LeavesOnly-weaker}
use Rattle.sn_held.specs.Held.{Held}
use Rattle.sn_held.specs.Images.{IsImage}
use Rattle.sn_held.specs.Moments.{LastsOver, ShowsState}
use Rattle.sn_held.proofs.EventLemmas.{runs_show}
use Rattle.sn_cp.specs.declared.stage.Stage.TheVariants.{Bodied}
use Rattle.sn_cp_progress.specs.Meaning.{RunsWith}
use Rattle.sn_cp_progress.proofs.MeaningLemmas.{counted_with, runs_with, stays_lasts}
use Rattle.sn_cp_whole.specs.declared.fault.PointFault.{PointFault}
use Rattle.sn_cp_whole.specs.declared.fault.PointFault.TheVariants as point
use Rattle.sn_block.specs.Counts.{FailsRead, called}
use Rattle.sn_events.specs.Answers.{Answers, AnswersFrom, HasBegun, HasGoneOn, IsBesideRoot, MayMeet, LeavesStep}
use Rattle.sn_events.specs.Pointing.{Advances, IsAdvancedTo, IsBegunTo, IsCutStep, IsFinishedTo, IsUnbegun, errno_of_point, stops_for}
use Rattle.sn_events.proofs.ReadLemmas.{fails_read}
use Rattle.sn_events.proofs.PointLemmas.{in_any_world, running_between}

pub stopped_step : (h : Held) → Answers event.Step (refused Estopped) h true h true
stopped_step h (Running w) m = absurd (true≢false m.0)
stopped_step h (Stopped before after) m = record {
  met = None;
  fin = h;
  finish = inl refl;
  mid = h;
  point = inl refl;
  may = refl;
  next = Stopped before after;
  step = (refl, refl);
  means = m;
  lasts = stays_lasts h true (Stopped before after) m;
  later = later-same h.status h.status refl;
  leaves = refl;
}

-- a crash leaves the settled world on the way, and so it does after it
goes_on_lasting : (old new : Held) → LeavesOnly old.disk new.disk (λ c. IsImage c (settle old.world)) → RunsWith new.point new old.world → LastsOver (Running old.world) (Running old.world) old.disk new.disk
goes_on_lasting old new moments runs = record {
  moments = LeavesOnly-weaker old.disk new.disk (λ d. IsImage d (settle old.world)) (λ d. ShowsState (Running old.world) d ⊎ ShowsState (Running old.world) d) (λ d im. inl im) moments;
  answered = runs_show new old.world (runs_with new old.world new.point runs);
}

-- it has begun a point, or continued one
more_step : (writes syncs : ℕ) (old new : Held) → HasBegun old new ⊎ HasGoneOn old new → new.status ≡ called writes syncs old.status → LeavesOnly old.disk new.disk (λ c. IsImage c (settle old.world)) → Touches (IsBesideRoot old) old.disk new.disk → RunsWith new.point new old.world
    → AnswersFrom (Running old.world) event.Step (answer.Progress progress.More) old new false
more_step writes syncs old new made costs moments touched runs = record {
  met = None;
  fin = old;
  finish = inl refl;
  mid = old;
  point = inl refl;
  may = ap (λ (s : Status). s.failures) costs;
  next = Running old.world;
  step = (inl refl, refl);
  means = (refl, runs);
  lasts = goes_on_lasting old new moments runs;
  later = later-is writes syncs old.status new.status costs;
  leaves = record { touched = touched; told = inl (refl, made) };
}

begun_step : (old new : Held) → IsBegunTo old new → AnswersFrom (Running old.world) event.Step (answer.Progress progress.More) old new false
begun_step old new b = more_step 1 1 old new (inl b.begun) b.begun.costs b.moments b.touched b.runs

advanced_step : (old new : Held) → IsAdvancedTo old new → AnswersFrom (Running old.world) event.Step (answer.Progress progress.More) old new false
advanced_step old new a = more_step _ _ old new (inr a.gone) a.gone.costs a.moments a.touched a.runs

-- it has finished one
ended_step : (old new : Held) (f : IsFinishedTo old new) → f.finished.going.stage ≡ Bodied → AnswersFrom (Running old.world) event.Step (answer.Progress progress.Done) old new false
ended_step old new f last =
    let runs = running_between new old.world f.finished.point f.runs in
    record {
      met = None;
      fin = old;
      finish = inl refl;
      mid = old;
      point = inl refl;
      may = ap (λ (s : Status). s.failures) f.finished.costs;
      next = Running old.world;
      step = (inr refl, refl);
      means = (refl, runs);
      lasts = goes_on_lasting old new f.moments runs;
      later = later-is _ _ old.status new.status f.finished.costs;
      leaves = record { touched = f.finished.touched; told = inr (refl, (f.finished, last)) };
    }

-- it was refused, and nothing has changed
refused_step : (old : Held) (m : Mishap) → RunsWith old.point old old.world → MayMeet old old event.Step (Some m) old.status → EventStep limits_written (Running old.world) event.Step (Some m) (refused (errno_of m)) (Running old.world)
    → LeavesStep old (Some m) (refused (errno_of m)) old → AnswersFrom (Running old.world) event.Step (refused (errno_of m)) old old false
refused_step old m runs may step leaves = record {
  met = Some m;
  fin = old;
  finish = inl refl;
  mid = old;
  point = inl refl;
  may = may;
  next = Running old.world;
  step = step;
  means = (refl, runs);
  lasts = stays_lasts old false (Running old.world) (refl, runs);
  later = later-same old.status old.status refl;
  leaves = leaves;
}

-- but what the device counts
unread_step : (old new : Held) → RunsWith old.point old old.world → new ≡ record old { status = new.status } → FailsRead old.status new.status → AnswersFrom (Running old.world) event.Step (refused Eio) old new false
unread_step old new runs is fails =
    let told = fails_read old.status new.status fails in
    subst (λ (h : Held). AnswersFrom (Running old.world) event.Step (refused Eio) old h false) (sym is) (record {
      met = Some Read;
      fin = old;
      finish = inl refl;
      mid = old;
      point = inl refl;
      may = told.0;
      next = Running old.world;
      step = record { told = refl; same = refl };
      means = (refl, counted_with old.point old old.world new.status runs);
      lasts = stays_lasts old false (Running old.world) (refl, runs);
      later = told.1;
      leaves = (refl, fails);
    })

-- it was cut off
cut_step : (old new : Held) → IsCutStep old new → AnswersFrom (Running old.world) event.Step (refused Eio) old new true
cut_step old new cut =
    let either : LeavesOnly old.disk new.disk (λ d. IsImage d (settle old.world) ⊎ IsImage d (settle old.world)) =
    LeavesOnly-weaker old.disk new.disk (λ d. IsImage d (settle old.world)) (λ d. IsImage d (settle old.world) ⊎ IsImage d (settle old.world)) (λ d im. inl im) cut.moments in
    let now = LeavesOnly-now old.disk new.disk (λ d. IsImage d (settle old.world) ⊎ IsImage d (settle old.world)) either in
    record {
      met = Some Write;
      fin = old;
      finish = inl refl;
      mid = old;
      point = inl refl;
      may = cut.failed;
      next = Stopped (settle old.world) (settle old.world);
      step = record { told = refl; left = refl };
      means = (refl, now);
      lasts = record {
        moments = LeavesOnly-weaker old.disk new.disk (λ d. IsImage d (settle old.world) ⊎ IsImage d (settle old.world))
            (λ d. ShowsState (Running old.world) d ⊎ ShowsState (Stopped (settle old.world) (settle old.world)) d) (λ d h. inr h) either;
        answered = now;
      };
      later = cut.later;
      leaves = (cut.touched, cut.costs);
    }

unmade_step : (old new : Held) (fault : PointFault) → RunsWith old.point old old.world → IsUnbegun fault old new → AnswersFrom (Running old.world) event.Step (refused (errno_of_point fault)) old new (stops_for fault)
unmade_step old new point.Memory runs is =
    subst (λ (h : Held). AnswersFrom (Running old.world) event.Step (refused Enomem) old h false) (sym is) (refused_step old Memory runs refl (record { told = refl; same = refl }) refl)
unmade_step old new point.Age runs is =
    subst (λ (h : Held). AnswersFrom (Running old.world) event.Step (refused Elimit) old h false) (sym is.0) (refused_step old Age runs (is.1, refl) (record { told = refl; same = refl }) refl)
unmade_step old new point.Read runs is = unread_step old new runs is.0 is.1
unmade_step old new point.Damaged runs is = absurd is
unmade_step old new point.Device runs is = cut_step old new is

made_step : (old new : Held) (p : Progress) → RunsWith old.point old old.world → Advances (Ok p) old new → AnswersFrom (Running old.world) event.Step (answer.Progress p) old new false
made_step old new progress.More runs made = either (made runs)
  where
    either : IsBegunTo old new ⊎ IsAdvancedTo old new → AnswersFrom (Running old.world) event.Step (answer.Progress progress.More) old new false
    either (inl b) = begun_step old new b
    either (inr a) = advanced_step old new a
made_step old new progress.Done runs made = let ends = made runs in ended_step old new ends.0 ends.1

pub step_answers : (old new : Held) (p : Progress) → Advances (Ok p) old new → Answers event.Step (answer.Progress p) old false new false
step_answers old new p made = in_any_world event.Step old new (answer.Progress p) false (λ r. made_step old new p r made)

pub step_refused : (old new : Held) (fault : PointFault) → Advances (Err fault) old new → Answers event.Step (refused (errno_of_point fault)) old false new (stops_for fault)
step_refused old new fault unmade = in_any_world event.Step old new (refused (errno_of_point fault)) (stops_for fault) (λ r. unmade_step old new fault r (unmade r))
