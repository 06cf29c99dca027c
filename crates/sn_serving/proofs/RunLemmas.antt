-- What was served is a run.
use Rattle.std.proofs.Common.{◌≡◌, ◌∙◌, inl, inr, false, Option, None, Some, List, [], ◌∷◌, refl, sym, ap, subst, subst₂, arith, true≢false}
use Rattle.std.specs.List.{AllByRecursion}
use Rattle.sn_block.specs.Counts.{IsLater}
use Rattle.sn_block.proofs.CountLemmas.{later-ended, later-join, later-same}
use Rattle.sn_device.specs.Disk.{Disk}
use Rattle.sn_device.specs.Status.{has_ended}
use Rattle.sn_device.specs.declared.status.Status.{Status}
use Rattle.sn_events.specs.Answers.{AnswersFrom}
use Rattle.sn_events.proofs.ReadLemmas.{fails_read}
use Rattle.sn_held.specs.Moments.{LastsOver, ShowsState}
use Rattle.sn_device.specs.Crash.{LeavesOnly}
use Rattle.sn_limits.specs.Versions.{limits_written}
use Rattle.sn_model.specs.declared.call.Event.{Event}
use Rattle.sn_model.specs.declared.call.Event.TheVariants as event
use Rattle.sn_model.specs.declared.end.End.{End}
use Rattle.sn_model.specs.declared.reply.Reply.{Reply}
use Rattle.sn_live_world.specs.declared.fault.LookFault.TheVariants as look
use Rattle.sn_model.specs.Machine.{Age, EventStep, Holds, Memory, Mishap, Read, Run, RunBy, Running, Space, State, StepOf, Stopped, WholeRun, Write}
use Rattle.sn_model.specs.World.{World}
use Rattle.sn_run.specs.Ending.{IsEnded}
use Rattle.sn_run.specs.Laws.{Unfailing}
use Rattle.sn_run.specs.Places.{Moves, Place}
use Rattle.sn_run.specs.Runs.{Standing}
use Rattle.sn_run.proofs.CauseLemmas.{mount_unfailing}
use Rattle.sn_run.proofs.CutLemmas.{machine_run, run_leaves}
use Rattle.sn_run.proofs.FailureLemmas.{fin_failures, met_unfailing, never_failed, not_ended, run_unfailing}
use Rattle.sn_serving.specs.Served.{IsAnswered, IsIn, IsMountOf, Leads, Misses, MissesARead, Served, ServedIsRun, Unmounts, answers, misses, rests}
use Rattle.sn_serving.proofs.ServedLemmas.{in_it, means_it}

abbrev pub place_in : State → Served → Place
place_in state s = record { state = state; disk = s.disk }

-- ---- one event

module _ {e : Event} {reply : Reply} (old new : Served) (a : IsAnswered e reply old new) where
  -- from a state that it is in
  from_it : (state : State) → IsIn state old → AnswersFrom state e reply a.before.held a.next new.has_stopped
  from_it state is = a.answers state (means_it old a.before state is)

  now_in : (state : State) (is : IsIn state old) → IsIn (from_it state is).next new
  now_in state is = let x = from_it state is in subst (IsIn x.next) (sym a.is) (in_it a.next new.has_stopped x.next x.means)

  moves : (state : State) (is : IsIn state old) → Moves (place_in state old) e reply (place_in (from_it state is).next new)
  moves state is =
      let x = from_it state is in
      record {
        step = (x.met, tt, x.step);
        lasts = subst₂ (λ (d f : Disk). LastsOver state x.next d f) (sym (ap (λ (s : Served). s.disk) a.before.is)) (sym (ap (λ (s : Served). s.disk) a.is)) x.lasts;
      }

  -- no count of the device falls
  answer_later : IsLater old.status new.status
  answer_later =
      let x = a.answers a.before.state a.before.means in
      subst₂ IsLater (sym (ap (λ (s : Served). s.status) a.before.is)) (sym (ap (λ (s : Served). s.status) a.is)) x.later

  -- without a failure of the device none occurs
  answer_unfailing : (state : State) (is : IsIn state old) → new.status.failures ≡ old.status.failures → has_ended new.status ≡ false → StepOf Unfailing limits_written state e reply (from_it state is).next
  answer_unfailing state is same on =
      let x = from_it state is in
      let before : old.status ≡ a.before.held.status = ap (λ (s : Served). s.status) a.before.is in
      let after : new.status ≡ a.next.status = ap (λ (s : Served). s.status) a.is in
      let first : Standing = record { state = state; held = a.before.held; has_stopped = old.has_stopped } in
      let last : Standing = record { state = x.next; held = a.next; has_stopped = new.has_stopped } in
      let run = run_unfailing first last (e ∷ []) (reply ∷ []) (last, record { answers = x; next = refl }, refl)
      (sym (ap (λ (s : Status). s.failures) after) ∙ same ∙ ap (λ (s : Status). s.failures) before) (sym (ap has_ended after) ∙ on) in
      subst (λ (t : State). StepOf Unfailing limits_written state e reply t) (sym run.2) run.1

-- ---- a look that missed a read

missed_in : (old new : Served) (state : State) → MissesARead old new → IsIn state old → IsIn state new
missed_in old new (Running world) missed is = subst (IsIn (Running world)) (sym missed.same) is
missed_in old new (Stopped before after) missed is = subst (IsIn (Stopped before after)) (sym missed.same) is

missed_place : (old new : Served) (state : State) → MissesARead old new → place_in state new ≡ place_in state old
missed_place old new state missed = ap (λ (s : Served). record { state = state; disk = s.disk }) missed.same

-- ---- events, one after the other

-- what they lead to, from a state that it is in
pub record Arrives (state : State) (events : List Event) (replies : List Reply) (old new : Served) : Type 0 where
  pub next : State
  pub is_in : IsIn next new
  pub run : RunBy Moves (place_in state old) events replies (place_in next new)

pub arrives : {events : List Event} {replies : List Reply} {old new : Served} → Leads events replies old new → (state : State) → IsIn state old → Arrives state events replies old new
arrives rests state is = record { next = state; is_in = is; run = refl }
arrives (answers {old = old} {mid = mid} a more) state is =
    let go = arrives more (from_it old mid a state is).next (now_in old mid a state is) in
    record { next = go.next; is_in = go.is_in; run = (place_in (from_it old mid a state is).next mid, moves old mid a state is, go.run) }
arrives (misses {events} {replies} {old} {mid} {new} missed more) state is =
    let go = arrives more state (missed_in old mid state missed is) in
    record { next = go.next; is_in = go.is_in; run = subst (λ (p : Place). RunBy Moves p events replies (place_in go.next new)) (missed_place old mid state missed) go.run }

-- no count of the device falls
pub later : {events : List Event} {replies : List Reply} {old new : Served} → Leads events replies old new → IsLater old.status new.status
later (rests {s}) = later-same s.status s.status refl
later (answers {old = old} {mid = mid} {new = new} a more) = later-join old.status mid.status new.status (answer_later old mid a) (later more)
later (misses {old = old} {mid = mid} {new = new} missed more) = later-join old.status mid.status new.status (fails_read old.status mid.status missed.failed).1 (later more)

-- what has not ended had not ended before
pub goes_on : (old new : Status) → IsLater old new → has_ended new ≡ false → has_ended old ≡ false
goes_on old new after on = not_ended (has_ended old) (λ ended. true≢false (sym (later-ended old new after ended) ∙ on))

-- where the device counted no failure and hasn't ended, none occurred
record Unfailed (state : State) (events : List Event) (replies : List Reply) (new : Served) : Type 0 where
  next : State
  is_in : IsIn next new
  run : Run Unfailing limits_written state events replies next

unfailed : {events : List Event} {replies : List Reply} {old new : Served} → Leads events replies old new → (state : State) → IsIn state old → new.status.failures ≡ old.status.failures → has_ended new.status ≡ false
    → Unfailed state events replies new
unfailed rests state is same on = record { next = state; is_in = is; run = refl }
unfailed (answers {old = old} {mid = mid} {new = new} a more) state is same on =
    let first = (answer_later old mid a).failures in
    let last = (later more).failures in
    let go = unfailed more (from_it old mid a state is).next (now_in old mid a state is) (omega (arith, first, last, same)) on in
    record {
      next = go.next;
      is_in = go.is_in;
      run = ((from_it old mid a state is).next, answer_unfailing old mid a state is (omega (arith, first, last, same)) (goes_on mid.status new.status (later more) on), go.run);
    }
unfailed (misses {old = old} {mid = mid} {new = new} missed more) state is same on =
    let failed = fails_read old.status mid.status missed.failed in
    let first = failed.1.failures in
    let last = (later more).failures in
    absurd (never_failed old.status mid.status (omega (arith, first, last, same)) (goes_on mid.status new.status (later more) on) failed.0)

-- ---- what goes on running

-- all but a restart, of which none is among the events that are served
abbrev pub IsNoRestart : Event → Type 0
IsNoRestart event.Restart = ⊥
IsNoRestart e = Unit {0}

running_next : (world : World) (e : Event) (met : Option Mishap) (reply : Reply) (next : State) → IsNoRestart e → Unfailing met → EventStep limits_written (Running world) e met reply next → (after : World) × (next ≡ Running after)
running_next world event.Restart met reply next other unfailing step = absurd other
running_next world (event.Call session c) None reply next other unfailing step = (step.0, step.2)
running_next world (event.Call session c) (Some Memory) reply next other unfailing step = (world, step.1.same)
running_next world (event.Call session c) (Some Read) reply next other unfailing step = absurd unfailing
running_next world (event.Call session c) (Some Write) reply next other unfailing step = absurd unfailing
running_next world (event.Call session c) (Some Space) reply next other unfailing step = (world, step.1.same)
running_next world (event.Call session c) (Some Age) reply next other unfailing step = (world, step.1.same)
running_next world event.Step None reply next other unfailing step = (world, step.1)
running_next world event.Step (Some Memory) reply next other unfailing step = (world, step.same)
running_next world event.Step (Some Read) reply next other unfailing step = absurd unfailing
running_next world event.Step (Some Write) reply next other unfailing step = absurd unfailing
running_next world event.Step (Some Space) reply next other unfailing step = absurd step
running_next world event.Step (Some Age) reply next other unfailing step = (world, step.same)

still_running : {e : Event} {reply : Reply} (old new : Served) → IsAnswered e reply old new → IsNoRestart e → old.has_stopped ≡ false → new.status.failures ≡ old.status.failures → has_ended new.status ≡ false → new.has_stopped ≡ false
still_running {e} {reply} old new a other running same on =
    let is : IsIn (Running old.world) old = (running, refl) in
    let step = answer_unfailing old new a (Running old.world) is same on in
    let after = running_next old.world e step.0 reply (from_it old new a (Running old.world) is).next other step.1 step.2 in
    (subst (λ (s : State). IsIn s new) after.1 (now_in old new a (Running old.world) is)).0

-- without a failure no look misses a read of what runs
pub missed_none : (old new : Served) → Misses look.Read old new → old.has_stopped ≡ false → new.status.failures ≡ old.status.failures → has_ended new.status ≡ false → ⊥
missed_none old new (inl stopped) running same on = true≢false (sym stopped.0 ∙ running)
missed_none old new (inr missed) running same on = never_failed old.status new.status same on (fails_read old.status new.status missed.failed).0

-- nor does anything stop it
pub stays_running : {events : List Event} {replies : List Reply} {old new : Served} → Leads events replies old new → AllByRecursion IsNoRestart events → old.has_stopped ≡ false → new.status.failures ≡ old.status.failures → has_ended new.status ≡ false
    → new.has_stopped ≡ false
stays_running rests all running same on = running
stays_running (answers {old = old} {mid = mid} {new = new} a more) all running same on =
    let first = (answer_later old mid a).failures in
    let last = (later more).failures in
    let here = still_running old mid a all.0 running (omega (arith, first, last, same)) (goes_on mid.status new.status (later more) on) in
    stays_running more all.1 here (omega (arith, first, last, same)) on
stays_running (misses {old = old} {mid = mid} {new = new} missed more) all running same on =
    let first = (fails_read old.status mid.status missed.failed).1.failures in
    let last = (later more).failures in
    absurd (missed_none old mid (inr missed) running (omega (arith, first, last, same)) (goes_on mid.status new.status (later more) on))

-- ---- from a mount to the unmount

-- how it ends, from a state that it is in
pub ended_in : {end : End} {last : Disk} {last_status : Status} (s : Served) (u : Unmounts end s last last_status) (state : State) → IsIn state s → IsEnded state u.before.held end last last_status
ended_in s u state is = u.ends state (means_it s u.before state is)

module _ (world : World) (events : List Event) (replies : List Reply) (end : End) (disk : Disk) (status : Status) (last : Disk) (last_status : Status) (old new : Served)
    (mount : IsMountOf world disk status old) (leads : Leads events replies old new) (u : Unmounts end new last last_status) where
  unfailing : last_status.failures ≡ status.failures → has_ended last_status ≡ false → WholeRun Unfailing limits_written (Holds world) events replies end
  unfailing same on =
      let began : old.status.failures ≡ status.failures = mount_unfailing mount.costs.0 status old.status mount.costs.2 in
      let before : new.status ≡ u.before.held.status = ap (λ (s : Served). s.status) u.before.is in
      let count = ap (λ (s : Status). s.failures) before in
      let first = (later leads).failures in
      let ends_later : IsLater new.status last_status = subst (λ (s : Status). IsLater s last_status) (sym before) (u.ends u.before.state u.before.means).later in
      let after = ends_later.failures in
      let go = unfailed leads (Running world) mount.is_in (omega (arith, began, first, after, same)) (goes_on new.status last_status ends_later on) in
      let ended = ended_in new u go.next go.is_in in
      let finished = fin_failures go.next event.Restart u.before.held ended.fin ended.finish in
      inr (inr (go.next, go.run, ended.met, met_unfailing ended.fin ended.mid event.Restart ended.met last_status ended.may (omega (arith, began, first, after, same, finished, count)) on, ended.ends))

pub served_is_run : ServedIsRun
served_is_run world events replies end disk status last last_status old new mount leads u =
    let a = arrives leads (Running world) mount.is_in in
    let ended = ended_in new u a.next a.is_in in
    let first = place_in (Running world) old in
    record {
      mounted = old;
      mounts = mount;
      served = new;
      leads = leads;
      unmounts = u;
      run = record {
        run = inr (inr (a.next, machine_run first (place_in a.next new) events replies a.run, ended.met, tt, ended.ends));
        crash = inr (record {
          mounted = old.disk;
          mounts = mount.leaves;
          moments = run_leaves first first (place_in a.next new) [] events [] replies last tt refl a.run
              (subst (λ (d : Disk). LeavesOnly d last (ShowsState a.next)) (sym (ap (λ (s : Served). s.disk) u.before.is)) ended.lasts);
        });
      };
      unfailing = unfailing world events replies end disk status last last_status old new mount leads u;
    }
