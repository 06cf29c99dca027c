-- Why a call has no outcome, from why a decision or a look-up has none, and what holds of a fault of the view.
use Rattle.std.specs.Prelude.{Result, Ok, Err}
use Rattle.sn_walk.specs.declared.fault.Failure.{Failure}
use Rattle.sn_walk.specs.declared.fault.Failure.TheVariants as failure
use Rattle.sn_model.specs.declared.reply.Refusal.{Refusal}
use Rattle.sn_core_decide_rules.specs.declared.fault.CallError.{CallError}
use Rattle.sn_core_decide_rules.specs.declared.fault.CallError.TheVariants.{Refused, Memory, View}
use Rattle.sn_core_decide_rules.specs.declared.fault.FileFault.{FileFault}
use Rattle.sn_core_decide_rules.specs.declared.fault.FileFault.TheVariants as fault

-- what a decision failed with
abbrev pub as_error : {F : Type 0} → Failure Refusal F → CallError F
as_error (failure.Refused r) = Refused r
as_error (failure.Fault f) = View f

abbrev pub answer_of : {X F : Type 0} → Result X (Failure Refusal F) → Result X (CallError F)
answer_of (Ok x) = Ok x
answer_of (Err e) = Err (as_error e)

-- what a look-up that takes memory failed with
abbrev pub error_of : {F : Type 0} → FileFault F → CallError F
error_of fault.Memory = Memory
error_of (fault.View f) = View f

-- what holds of the view's own fault, where a look-up found one
abbrev pub OfLookUp : {F : Type 0} → FileFault F → (F → Type 0) → Type 0
OfLookUp fault.Memory P = Unit {0}
OfLookUp (fault.View f) P = P f

abbrev pub IfLookUp : {X F : Type 0} → Result X (FileFault F) → (F → Type 0) → Type 0
IfLookUp (Ok x) P = Unit {0}
IfLookUp (Err e) P = OfLookUp e P

-- and where a call has no outcome for it
abbrev pub OfView : {F : Type 0} → CallError F → (F → Type 0) → Type 0
OfView (Refused r) P = Unit {0}
OfView Memory P = Unit {0}
OfView (View f) P = P f

abbrev pub IfView : {X F : Type 0} → Result X (CallError F) → (F → Type 0) → Type 0
IfView (Ok x) P = Unit {0}
IfView (Err e) P = OfView e P
