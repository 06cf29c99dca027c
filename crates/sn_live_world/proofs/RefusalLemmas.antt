-- What follows from the fault of a call that is refused at once: that all its tests passed.
use Rattle.std.proofs.Common.{◌≡◌, Result, Ok, Err, true, refl}
use Rattle.std.specs.Prelude.{IfErr, IsOk}
use Rattle.sn_core_decide_rules.specs.declared.fault.CallError.{CallError}
use Rattle.sn_core_decide_rules.specs.declared.fault.CallError.TheVariants.{Refused}
use Rattle.sn_model.specs.declared.outcome.Outcome.{Outcome}
use Rattle.sn_model.specs.declared.reply.Refusal.{Refusal}

pub passed : {F : Type 0} (result : Result Outcome (CallError F)) (decision : Result Outcome Refusal) → ((r : Refusal) → result ≡ Err (Refused r) → ⊥) → IfErr decision (λ r. result ≡ Err (Refused r)) → IsOk decision
passed result (Ok o) never h = refl {a = true}
passed result (Err r) never h = absurd (never r h)

pub if_passed : (P : Refusal → Type 0) (decision : Result Outcome Refusal) → IsOk decision → IfErr decision P
if_passed P (Ok o) ok = tt
if_passed P (Err r) ok = cc
