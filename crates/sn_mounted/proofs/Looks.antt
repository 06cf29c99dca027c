-- Looks that fail to read.
use Rattle.std.proofs.Common.{◌≡◌, ◌∙◌, ℕ, zero, suc, true, false, List, [], ◌∷◌, ◌++◌, Result, Ok, Err, length, replicate, refl, ap, arith}
use Rattle.std.specs.List.{AllByRecursion}
use Rattle.std.specs.Prelude.{Option}
use Rattle.sn_walk.specs.declared.view.Attributes.{Attributes}
use Rattle.sn_block.specs.Counts.{IsLater}
use Rattle.sn_block.proofs.CountLemmas.{later-join, later-same}
use Rattle.sn_device.specs.Status.{has_ended}
use Rattle.sn_model.specs.declared.call.Event.TheVariants as event
use Rattle.sn_plan.specs.Acts.{Act, Found, Seen}
use Rattle.sn_plan.specs.declared.errors.LookFault.{LookFault}
use Rattle.sn_plan.specs.declared.errors.LookFault.TheVariants.{Memory, Read}
use Rattle.sn_serving.specs.Served.{Served}
use Rattle.sn_serving.proofs.RunLemmas.{IsNoRestart, goes_on, later, missed_none, stays_running}
use Rattle.sn_mounted.specs.Doing.{Did, Does, LooksAt, begins, calls, counts, does, finds, sees, steps}
use Rattle.sn_mounted.specs.Runs.{HasRead, NoMissIsInvented}
use Rattle.sn_mounted.specs.Shown.{Shown}
use Rattle.sn_mounted.proofs.Doing.{looked}

all_steps : (count : ℕ) → AllByRecursion IsNoRestart (replicate count event.Step)
all_steps zero = tt
all_steps (suc count) = (tt, all_steps count)

-- each look is one that has read, and it goes on running
abbrev RunsOn : Shown → List Act → Type 0
RunsOn now acts = (now.served.has_stopped ≡ false) × AllByRecursion HasRead acts

and_act : (acts : List Act) (act : Act) → AllByRecursion HasRead acts → HasRead act → AllByRecursion HasRead (acts ++ act ∷ [])
and_act [] act all has = (has, tt)
and_act (first ∷ acts) act all has = (all.0, and_act acts act all.1 has)

-- what events lead to, and a look
abbrev Before : Served → Served → Type 0
Before old new = IsLater old.status new.status

looked_later : {T : Type 0} (result : Result T LookFault) (old new : Served) → LooksAt result old new → Before old new
looked_later result old new is = later (looked result old new is)

-- where the device counted no failure, a look finds, or lacks memory
looked_on : {T : Type 0} (result : Result T LookFault) (old new : Served) → LooksAt result old new → old.has_stopped ≡ false → new.status.failures ≡ old.status.failures → has_ended new.status ≡ false
    → (new.has_stopped ≡ false) × (result ≡ Err Read → ⊥)
looked_on (Ok it) old new is running same on = (ap (λ (s : Served). s.has_stopped) is ∙ running, λ failed. cc failed)
looked_on (Err Memory) old new is running same on = (ap (λ (s : Served). s.has_stopped) is ∙ running, λ failed. cc failed)
looked_on (Err Read) old new is running same on = absurd (missed_none old new is running same on)

found_read : (path : List ℕ) (result : Result (Option ℕ) LookFault) → (result ≡ Err Read → ⊥) → HasRead (Found path result)
found_read path (Ok it) never = tt
found_read path (Err Memory) never = tt
found_read path (Err Read) never = never refl

seen_read : (number : ℕ) (result : Result (Option Attributes) LookFault) → (result ≡ Err Read → ⊥) → HasRead (Seen number result)
seen_read number (Ok it) never = tt
seen_read number (Err Memory) never = tt
seen_read number (Err Read) never = never refl

-- ---- acts

act_later : {act : Act} {old new : Shown} → Does true act old new → Before old.served new.served
act_later (calls leads places) = later (leads refl)
act_later (finds {found = found} {old = old} {new = new} looks is) = looked_later found old.served new.served (looks refl)
act_later (sees {seen = seen} {old = old} {new = new} looks places is) = looked_later seen old.served new.served (looks refl)
act_later (counts {old = old} left) = later-same old.served.status old.served.status refl

act_on : {act : Act} {old new : Shown} → Does true act old new → old.served.has_stopped ≡ false → new.served.status.failures ≡ old.served.status.failures → has_ended new.served.status ≡ false → (new.served.has_stopped ≡ false) × HasRead act
act_on (calls leads places) running same on = (stays_running (leads refl) (tt, tt) running same on, tt)
act_on (finds {path = path} {found = found} {old = old} {new = new} looks is) running same on =
    let l = looked_on found old.served new.served (looks refl) running same on in
    (l.0, found_read path found l.1)
act_on (sees {number = number} {seen = seen} {old = old} {new = new} looks places is) running same on =
    let l = looked_on seen old.served new.served (looks refl) running same on in
    (l.0, seen_read number seen l.1)
act_on (counts left) running same on = (running, tt)

did_later : {first now : Shown} {acts : List Act} → Did true first now acts → Before first.served now.served
did_later {first = first} begins = later-same first.served.status first.served.status refl
did_later {first = first} (does {old = old} {new = new} d h) = later-join first.served.status old.served.status new.served.status (did_later d) (act_later h)
did_later {first = first} (steps {old = old} {new = new} d leads places) = later-join first.served.status old.served.status new.served.status (did_later d) (later (leads refl))

pub none_missed : NoMissIsInvented
none_missed first now acts begins running same on = (running, tt)
none_missed first now acts (does {old = old} {new = new} {acts = before} {act = act} d h) running same on =
    let front = (did_later d).failures in
    let after = act_later h in
    let last = after.failures in
    let so_far = none_missed first old before d running (omega (arith, front, last, same)) (goes_on old.served.status new.served.status after on) in
    let now = act_on h so_far.0 (omega (arith, front, last, same)) on in
    (now.0, and_act before act so_far.1 now.1)
none_missed first now acts (steps {old = old} {new = new} {acts = before} {replies = replies} d leads places) running same on =
    let front = (did_later d).failures in
    let after = later (leads refl) in
    let last = after.failures in
    let so_far = none_missed first old before d running (omega (arith, front, last, same)) (goes_on old.served.status new.served.status after on) in
    (stays_running (leads refl) (all_steps (length replies)) so_far.0 (omega (arith, front, last, same)) on, so_far.1)
