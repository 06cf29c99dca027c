-- What fails where no failure is counted.
use Rattle.std.proofs.Common.{◌≡◌, ◌⊎◌, inl, inr, ℕ, List, [], ◌∷◌, IsTrue, Option, None, Some, refl, sym, ap, subst, ◌∙◌, arith}
use Rattle.std.proofs.lemmas.List.Elements.{Contains-append_right}
use Rattle.sn_device.specs.Disk.{Disk, reads}
use Rattle.sn_device.specs.Status.{has_ended}
use Rattle.sn_device.specs.declared.status.Status.{Status}
use Rattle.sn_block.specs.Counts.{IsLater}
use Rattle.sn_block.proofs.CountLemmas.{later-ended}
use Rattle.sn_limits.specs.Versions.{limits_written}
use Rattle.sn_model.specs.declared.call.Event.{Event}
use Rattle.sn_model.specs.declared.call.Event.TheVariants as event
use Rattle.sn_model.specs.declared.end.End.{End}
use Rattle.sn_model.specs.declared.end.End.TheVariants as ending
use Rattle.sn_model.specs.declared.fault.MountFault.{MountFault}
use Rattle.sn_model.specs.declared.fault.MountFault.TheVariants as mount
use Rattle.sn_model.specs.declared.reply.Reply.{Reply}
use Rattle.sn_model.specs.declared.reply.Reply.TheVariants as answer
use Rattle.sn_model.specs.Machine.{State, Running, Stopped, Mishap, Memory, Read, Write, Space, Age, Ends, EventStep, IsUnmounted, RunBy}
use Rattle.sn_model.specs.World.{World}
use Rattle.sn_held.specs.Held.{Held}
use Rattle.sn_held.specs.Images.{IsImage}
use Rattle.sn_examine.specs.Failing.{HasFailed, IsSoOf}
use Rattle.sn_mount.specs.Costs.{CostsMount}
use Rattle.sn_events.specs.Answers.{MayMeet}
use Rattle.sn_run.specs.Causes.{FailsAtItsEnd, GoesOrEnds, HasCauses, HasNoMemory, IsFailure, ServedToItsEnd}
use Rattle.sn_run.specs.Runs.{Goes, RunsTo, Served, Standing, start}
use Rattle.sn_run.proofs.FailureLemmas.{fin_failures, runs_later}

-- ---- events

uncounted_end : (old new : Status) → new.failures ≡ old.failures → HasFailed old new → IsTrue (has_ended new)
uncounted_end old new same (inl rose) = absurd (omega (arith, same, rose))
uncounted_end old new same (inr ended) = ended

met_end : (h mid : Held) (e : Event) (met : Option Mishap) (new : Status) → MayMeet h mid e met new → new.failures ≡ h.status.failures → IsFailure met → IsTrue (has_ended new)
met_end h mid e None new may same failed = absurd failed
met_end h mid e (Some Memory) new may same failed = absurd failed
met_end h mid e (Some Read) new may same failed = uncounted_end h.status new same may
met_end h mid e (Some Write) new may same failed = uncounted_end h.status new same may
met_end h mid e (Some Space) new may same failed = absurd failed
met_end h mid e (Some Age) new may same failed = absurd failed

pub run_ends : (first last : Standing) (events : List Event) (replies : List Reply) → RunBy Goes first events replies last → last.held.status.failures ≡ first.held.status.failures → RunBy GoesOrEnds first events replies last
run_ends first last [] [] run same = run
run_ends first last [] (reply ∷ replies) run same = absurd run
run_ends first last (e ∷ events) [] run same = absurd run
run_ends first last (e ∷ events) (reply ∷ replies) run same =
    let mid = run.0 in
    let a = run.1.answers in
    let rest = runs_later mid last events replies run.2 in
    let here : mid.held.status.failures ≡ first.held.status.failures = omega (arith, a.later.failures, rest.failures, same) in
    let there : last.held.status.failures ≡ mid.held.status.failures = omega (arith, here, same) in
    (mid, record { goes = run.1; ended = met_end a.fin a.mid e a.met mid.held.status a.may (here ∙ sym (fin_failures first.state e first.held a.fin a.finish)) }, run_ends mid last events replies run.2 there)

-- ---- stops

-- a machine that has stopped
abbrev HasStopped : State → Type 0
HasStopped (Running world) = ⊥
HasStopped (Stopped before after) = Unit {0}

-- what an event stops for: a failure, or memory for a mount; or it had stopped before
abbrev Stops : State → Option Mishap → Reply → Type 0
Stops s met reply = IsFailure met ⊎ ((reply ≡ answer.Unmounted mount.Memory) ⊎ HasStopped s)

never_stops : (world : World) (new : State) → new ≡ Running world → HasStopped new → ⊥
never_stops world new runs stopped = subst HasStopped runs stopped

unmounted_for : (s : State) (before after : World) (m : Mishap) (reply : Reply) (new : State) → IsUnmounted before after m reply new → Stops s (Some m) reply
unmounted_for s before after Memory reply new h = let is : mount.Memory ≡ h.0 = cc h.1 in inr (inl (h.2 ∙ ap answer.Unmounted (sym is)))
unmounted_for s before after Read reply new h = inl tt
unmounted_for s before after Write reply new h = inl tt
unmounted_for s before after Space reply new h = absurd (cc h.1)
unmounted_for s before after Age reply new h = absurd (cc h.1)

stops_for : (s : State) (e : Event) (met : Option Mishap) (reply : Reply) (new : State) → EventStep limits_written s e met reply new → HasStopped new → Stops s met reply
stops_for (Stopped before after) e met reply new step stopped = inr (inr tt)
stops_for (Running old) (event.Call session c) None reply new step stopped = absurd (never_stops step.0 new step.2 stopped)
stops_for (Running old) (event.Call session c) (Some Memory) reply new step stopped = absurd (never_stops old new step.1.same stopped)
stops_for (Running old) (event.Call session c) (Some Read) reply new step stopped = inl tt
stops_for (Running old) (event.Call session c) (Some Write) reply new step stopped = inl tt
stops_for (Running old) (event.Call session c) (Some Space) reply new step stopped = absurd (never_stops old new step.1.same stopped)
stops_for (Running old) (event.Call session c) (Some Age) reply new step stopped = absurd (never_stops old new step.1.same stopped)
stops_for (Running old) event.Step None reply new step stopped = absurd (never_stops old new step.1 stopped)
stops_for (Running old) event.Step (Some Memory) reply new step stopped = absurd (never_stops old new step.same stopped)
stops_for (Running old) event.Step (Some Read) reply new step stopped = inl tt
stops_for (Running old) event.Step (Some Write) reply new step stopped = inl tt
stops_for (Running old) event.Step (Some Space) reply new step stopped = absurd step
stops_for (Running old) event.Step (Some Age) reply new step stopped = absurd (never_stops old new step.same stopped)
stops_for (Running old) event.Restart None reply new step stopped = absurd (never_stops _ new step.1 stopped)
stops_for (Running old) event.Restart (Some Memory) reply new (inl h) stopped = absurd (never_stops old new h.same stopped)
stops_for (Running old) event.Restart (Some Read) reply new step stopped = inl tt
stops_for (Running old) event.Restart (Some Write) reply new step stopped = inl tt
stops_for (Running old) event.Restart (Some Space) reply new (inl h) stopped = absurd h
stops_for (Running old) event.Restart (Some Age) reply new (inl h) stopped = absurd (never_stops old new h.same stopped)
stops_for (Running old) event.Restart (Some Memory) reply new (inr h) stopped = unmounted_for (Running old) _ _ Memory reply new h
stops_for (Running old) event.Restart (Some Space) reply new (inr h) stopped = unmounted_for (Running old) _ _ Space reply new h
stops_for (Running old) event.Restart (Some Age) reply new (inr h) stopped = unmounted_for (Running old) _ _ Age reply new h

has_no_memory : (reply : Reply) (replies : List Reply) → HasNoMemory replies → HasNoMemory (reply ∷ replies)
has_no_memory reply replies h = Contains-append_right (reply ∷ []) replies (answer.Unmounted mount.Memory) h

found_none : (reply : Reply) (replies : List Reply) → reply ≡ answer.Unmounted mount.Memory → HasNoMemory (reply ∷ replies)
found_none reply replies is = (0, omega arith, is)

-- what stopped a machine in an event shows after it, or it had stopped before
module _ (old new : Standing) (e : Event) (reply : Reply) (goes : GoesOrEnds old e reply new) where
  one_cause : (Before : Type 0) → (HasStopped old.state → IsTrue (has_ended old.held.status) ⊎ Before) → HasStopped new.state → IsTrue (has_ended new.held.status) ⊎ (Before ⊎ (reply ≡ answer.Unmounted mount.Memory))
  one_cause Before had stopped =
      from (stops_for old.state e goes.goes.answers.met reply goes.goes.answers.next goes.goes.answers.step (subst HasStopped goes.goes.next stopped))
    where
      before : IsTrue (has_ended old.held.status) ⊎ Before → IsTrue (has_ended new.held.status) ⊎ (Before ⊎ (reply ≡ answer.Unmounted mount.Memory))
      before (inl ended) = inl (later-ended old.held.status new.held.status goes.goes.answers.later ended)
      before (inr was) = inr (inl was)

      from : Stops old.state goes.goes.answers.met reply → IsTrue (has_ended new.held.status) ⊎ (Before ⊎ (reply ≡ answer.Unmounted mount.Memory))
      from (inl failed) = inl (goes.ended failed)
      from (inr (inl is)) = inr (inr is)
      from (inr (inr stopped_before)) = before (had stopped_before)

joined : (Ended Before : Type 0) (reply : Reply) (replies : List Reply) → Ended ⊎ ((Before ⊎ (reply ≡ answer.Unmounted mount.Memory)) ⊎ HasNoMemory replies) → Ended ⊎ (Before ⊎ HasNoMemory (reply ∷ replies))
joined Ended Before reply replies (inl ended) = inl ended
joined Ended Before reply replies (inr (inl (inl was))) = inr (inl was)
joined Ended Before reply replies (inr (inl (inr is))) = inr (inr (found_none reply replies is))
joined Ended Before reply replies (inr (inr none)) = inr (inr (has_no_memory reply replies none))

stop_cause : (Before : Type 0) (first last : Standing) (events : List Event) (replies : List Reply) → RunBy GoesOrEnds first events replies last → (HasStopped first.state → IsTrue (has_ended first.held.status) ⊎ Before) → HasStopped last.state
    → IsTrue (has_ended last.held.status) ⊎ (Before ⊎ HasNoMemory replies)
stop_cause Before first last [] [] run had stopped = from (had (subst (λ (x : Standing). HasStopped x.state) run stopped))
  where
    from : IsTrue (has_ended first.held.status) ⊎ Before → IsTrue (has_ended last.held.status) ⊎ (Before ⊎ HasNoMemory [])
    from (inl ended) = inl (subst (λ (x : Standing). IsTrue (has_ended x.held.status)) (sym run) ended)
    from (inr was) = inr (inl was)
stop_cause Before first last [] (reply ∷ replies) run had stopped = absurd run
stop_cause Before first last (e ∷ events) [] run had stopped = absurd run
stop_cause Before first last (e ∷ events) (reply ∷ replies) run had stopped =
    joined (IsTrue (has_ended last.held.status)) Before reply replies
    (stop_cause (Before ⊎ (reply ≡ answer.Unmounted mount.Memory)) run.0 last events replies run.2 (one_cause first run.0 e reply run.1 Before had) stopped)

-- a mount that succeeds counts no failure
pub mount_unfailing : (n : ℕ) (old new : Status) → CostsMount n old new → new.failures ≡ old.failures
mount_unfailing n old new (inl is) = ap (λ (x : Status). x.failures) is
mount_unfailing n old new (inr (count, few, gate, is)) = ap (λ (x : Status). x.failures) is

-- ---- runs

module _ (events : List Event) (replies : List Reply) (disk last_disk : Disk) (status last_status : Status) (same : last_status.failures ≡ status.failures) where
  served_ends : (end : End) (s : Served events replies end disk status last_disk last_status) → ServedToItsEnd end events replies disk status last_disk last_status s
  served_ends end s world image =
      let it = s.served world image in
      let began : s.mounted.status.failures ≡ status.failures = mount_unfailing s.costs.0 status s.mounted.status s.costs.2 in
      let rest = runs_later (start world s.mounted) it.last events replies it.run in
      let ended : it.last.held.status.failures ≡ s.mounted.status.failures = omega (arith, rest.failures, it.ended.later.failures, same, began) in
      run_ends (start world s.mounted) it.last events replies it.run ended

  -- why it ends so
  cause_of : (s : State) (h fin mid : Held) (met : Option Mishap) → Ends s met ending.Stopped → MayMeet fin mid event.Restart met last_status → last_status.failures ≡ fin.status.failures → IsLater h.status last_status
      → (HasStopped s → IsTrue (has_ended h.status) ⊎ (⊥ ⊎ HasNoMemory replies)) → IsTrue (has_ended last_status) ⊎ HasNoMemory replies ⊎ (met ≡ Some Age)
  cause_of (Stopped before after) h fin mid met ends may failed later stops = from (stops tt)
    where
      from : IsTrue (has_ended h.status) ⊎ (⊥ ⊎ HasNoMemory replies) → IsTrue (has_ended last_status) ⊎ HasNoMemory replies ⊎ (met ≡ Some Age)
      from (inl ended) = inl (later-ended h.status last_status later ended)
      from (inr (inl never)) = absurd never
      from (inr (inr none)) = inr (inl none)
  cause_of (Running w) h fin mid None ends may failed later stops = absurd (ends.2.0 ends.1)
  cause_of (Running w) h fin mid (Some Memory) ends may failed later stops = absurd (ends.2.1 ends.1)
  cause_of (Running w) h fin mid (Some Read) ends may failed later stops = inl (uncounted_end fin.status last_status failed may)
  cause_of (Running w) h fin mid (Some Write) ends may failed later stops = inl (uncounted_end fin.status last_status failed may)
  cause_of (Running w) h fin mid (Some Space) ends may failed later stops = absurd ends.1
  cause_of (Running w) h fin mid (Some Age) ends may failed later stops = inr (inr refl)

  served_cause : (s : Served events replies ending.Stopped disk status last_disk last_status) (world : World) (image : IsImage (reads disk) world) → IsTrue (has_ended last_status) ⊎ HasNoMemory replies ⊎ ((s.served world image).ended.met ≡ Some Age)
  served_cause s world image =
      let it = s.served world image in
      let e = it.ended in
      let began : s.mounted.status.failures ≡ status.failures = mount_unfailing s.costs.0 status s.mounted.status s.costs.2 in
      let rest = runs_later (start world s.mounted) it.last events replies it.run in
      let failed : last_status.failures ≡ it.last.held.status.failures = omega (arith, rest.failures, e.later.failures, same, began) in
      cause_of it.last.state it.last.held e.fin e.mid e.met e.ends e.may (failed ∙ sym (fin_failures it.last.state event.Restart it.last.held e.fin e.finish)) e.later
      (stop_cause ⊥ (start world s.mounted) it.last events replies (served_ends ending.Stopped s world image) (λ stopped. absurd stopped))

  mount_end : (fault : MountFault) → IsSoOf fault status last_status → FailsAtItsEnd fault last_status
  mount_end mount.Device failed = uncounted_end status last_status same failed
  mount_end mount.NotFormatted failed = tt
  mount_end mount.Version failed = tt
  mount_end mount.NoRoot failed = tt
  mount_end (mount.Damaged damage block) failed = tt
  mount_end mount.Memory failed = tt

  pub causes : (end : End) (runs : RunsTo end events replies disk status last_disk last_status) → HasCauses end events replies disk status last_disk last_status runs
  causes ending.Clean s = served_ends ending.Clean s
  causes ending.Stopped s = (served_ends ending.Stopped s, served_cause s)
  causes ending.Memory either = λ s. served_ends ending.Memory s
  causes (ending.Mount fault) unmounted = mount_end fault unmounted.failed
