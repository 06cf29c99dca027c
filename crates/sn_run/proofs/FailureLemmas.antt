-- Failures that a run reports are the device's.
use Rattle.std.proofs.Common.{◌≡◌, inl, inr, Bool, true, false, List, [], ◌∷◌, Option, None, Some, sym, ap, subst, ◌∙◌, refl, arith}
use Rattle.std.proofs.lemmas.Bool.{true≢false}
use Rattle.sn_device.specs.Status.{has_ended}
use Rattle.sn_device.specs.declared.status.Status.{Status}
use Rattle.sn_block.specs.Counts.{IsLater}
use Rattle.sn_block.proofs.CountLemmas.{later-ended, later-join, later-same}
use Rattle.sn_limits.specs.Versions.{limits_written}
use Rattle.sn_model.specs.declared.call.Event.{Event}
use Rattle.sn_model.specs.declared.reply.Reply.{Reply}
use Rattle.sn_model.specs.Machine.{State, Mishap, Memory, Read, Write, Space, Age, EventStep, Run, RunBy}
use Rattle.sn_held.specs.Held.{Held}
use Rattle.sn_examine.specs.Failing.{HasFailed}
use Rattle.sn_events.specs.Answers.{IsBehindFinish, MayMeet}
use Rattle.sn_run.specs.Laws.{Unfailing}
use Rattle.sn_run.specs.Runs.{Goes, Standing}

pub not_ended : (b : Bool) → (b ≡ true → ⊥) → b ≡ false
not_ended true never = absurd (never refl)
not_ended false never = refl

pub never_failed : (old new : Status) → new.failures ≡ old.failures → has_ended new ≡ false → HasFailed old new → ⊥
never_failed old new same goes_on (inl rose) = omega (arith, same, rose)
never_failed old new same goes_on (inr ended) = true≢false (sym ended ∙ goes_on)

-- what an event encounters where the device counts no failure
pub met_unfailing : (h mid : Held) (e : Event) (met : Option Mishap) (new : Status) → MayMeet h mid e met new → new.failures ≡ h.status.failures → has_ended new ≡ false → Unfailing met
met_unfailing h mid e None new may same goes_on = tt
met_unfailing h mid e (Some Memory) new may same goes_on = tt
met_unfailing h mid e (Some Read) new may same goes_on = never_failed h.status new same goes_on may
met_unfailing h mid e (Some Write) new may same goes_on = never_failed h.status new same goes_on may
met_unfailing h mid e (Some Space) new may same goes_on = tt
met_unfailing h mid e (Some Age) new may same goes_on = tt

-- a point in progress that is finished counts no failure
pub fin_failures : (s : State) (e : Event) (old fin : Held) → IsBehindFinish s e old fin → fin.status.failures ≡ old.status.failures
fin_failures s e old fin (inl same) = ap (λ (h : Held). h.status.failures) same
fin_failures s e old fin (inr (may, needed, finished)) = ap (λ (s : Status). s.failures) finished.costs

-- over a run no count falls
pub runs_later : (first last : Standing) (events : List Event) (replies : List Reply) → RunBy Goes first events replies last → IsLater first.held.status last.held.status
runs_later first last [] [] run = later-same first.held.status last.held.status (ap (λ (x : Standing). x.held.status) run)
runs_later first last [] (reply ∷ replies) run = absurd run
runs_later first last (e ∷ events) [] run = absurd run
runs_later first last (e ∷ events) (reply ∷ replies) run = later-join first.held.status run.0.held.status last.held.status run.1.answers.later (runs_later run.0 last events replies run.2)

pub run_unfailing : (first last : Standing) (events : List Event) (replies : List Reply) → RunBy Goes first events replies last
    → last.held.status.failures ≡ first.held.status.failures → has_ended last.held.status ≡ false
    → Run Unfailing limits_written first.state events replies last.state
run_unfailing first last [] [] run same goes_on = ap (λ (x : Standing). x.state) run
run_unfailing first last [] (reply ∷ replies) run same goes_on = absurd run
run_unfailing first last (e ∷ events) [] run same goes_on = absurd run
run_unfailing first last (e ∷ events) (reply ∷ replies) run same goes_on =
    let mid = run.0 in
    let a = run.1.answers in
    let rest = runs_later mid last events replies run.2 in
    let here : mid.held.status.failures ≡ first.held.status.failures = omega (arith, a.later.failures, rest.failures, same) in
    let there : last.held.status.failures ≡ mid.held.status.failures = omega (arith, here, same) in
    let on : has_ended mid.held.status ≡ false = not_ended (has_ended mid.held.status) (λ ended. true≢false (sym (later-ended mid.held.status last.held.status rest ended) ∙ goes_on)) in (
      mid.state,
      (a.met, met_unfailing a.fin a.mid e a.met mid.held.status a.may (here ∙ sym (fin_failures first.state e first.held a.fin a.finish)) on, subst (λ (s : State). EventStep limits_written first.state e a.met reply s) (sym run.1.next) a.step),
      run_unfailing mid last events replies run.2 there goes_on,
    )
