-- What was decided over a view, as the outcome of a call over a world that it shows.
use Rattle.std.proofs.Common.{◌≡◌, ℕ, List, Result, Ok, Err, IfOk}
use Rattle.sn_walk.specs.declared.fault.Failure.{Failure}
use Rattle.sn_walk.specs.declared.fault.Failure.TheVariants as failure
use Rattle.sn_walk.specs.declared.object.Home.{Home}
use Rattle.sn_walk.specs.Gives.{Fails, Gives, IfFault, OfFault}
use Rattle.sn_walk.specs.Views.{ViewedTrees}
use Rattle.sn_limits.specs.Versions.{limits_written}
use Rattle.sn_model.specs.declared.call.Call.{Call}
use Rattle.sn_model.specs.declared.outcome.Outcome.{Outcome}
use Rattle.sn_model.specs.declared.reply.Refusal.{Refusal}
use Rattle.sn_model.specs.Calls.{seen}
use Rattle.sn_model.specs.Seen.{SeenNames}
use Rattle.sn_model.specs.Steps.{decision}
use Rattle.sn_model.specs.World.{World}
use Rattle.sn_desc.specs.InUse.{InUse, in_world}
use Rattle.sn_core_decide_rules.specs.Views.{seen_by}
use Rattle.sn_core_decide_rules.specs.declared.fault.CallError.{CallError}
use Rattle.sn_core_decide_rules.specs.declared.fault.CallError.TheVariants.{Refused, Memory, View}
use Rattle.sn_core_decide_rules.specs.declared.fault.FileFault.{FileFault}
use Rattle.sn_core_decide_rules.specs.declared.fault.FileFault.TheVariants as fault
use Rattle.sn_core_decide_rules.specs.Decided.{Decides, HasNone, MayLack}
use Rattle.sn_core_decide_rules.specs.Faults.{IfView, OfLookUp, OfView, answer_of, as_error, error_of}
use Rattle.sn_core_decide_rules.specs.Shown.{Shows}

-- ---- what sessions and a view show

module _ {world : World} {used : InUse} {trees : ViewedTrees} {room : ℕ → Result (Unit {0}) Refusal} {names : SeenNames} {bytes : Home → ℕ → List ℕ} (shows : Shows world used trees room names bytes) where
  -- the sessions and descriptors are the world's
  pub shown_world : in_world used world ≡ world
  shown_world = λ i. record { live = world.live; frozen = world.frozen; sessions = shows.sessions_are i; descriptors = shows.descriptors_are i }

  -- and what decisions are made over is what is seen of it
  pub shown_seen : seen_by trees room names ≡ seen limits_written (in_world used world)
  shown_seen = λ i. record { trees = shows.trees_are i; room = shows.room_is i; names = shows.names_are i }

-- ---- what decisions and look-ups failed with

module _ {F : Type 0} (world : World) (session : ℕ) (c : Call) (may : MayLack world session c) where
  pub failed : (e : Failure Refusal F) → Fails e (decision limits_written world session c) → HasNone (as_error e) world session c
  failed (failure.Refused r) fails = fails
  failed (failure.Fault f) fails = may

  pub gives_decided : (given : Result Outcome (Failure Refusal F)) → Gives (λ o. o) given (decision limits_written world session c) → Decides world session c (answer_of given)
  gives_decided (Ok o) gives = gives
  gives_decided (Err e) gives = failed e gives

  pub lacking : (e : FileFault F) → HasNone (error_of e) world session c
  lacking fault.Memory = may
  lacking (fault.View f) = may

pub view_of : {F : Type 0} (e : Failure Refusal F) (P : F → Type 0) → OfFault e P → OfView (as_error e) P
view_of (failure.Refused r) P h = tt
view_of (failure.Fault f) P h = h

pub view_if : {X F : Type 0} (P : F → Type 0) (given : Result X (Failure Refusal F)) → IfFault given P → IfView (answer_of given) P
view_if P (Ok o) h = tt
view_if P (Err e) h = view_of e P h

pub view_looked_up : {F : Type 0} (e : FileFault F) (P : F → Type 0) → OfLookUp e P → OfView (error_of e) P
view_looked_up fault.Memory P h = tt
view_looked_up (fault.View f) P h = h

-- the same of a look-up after others, whose causes are causes
pub view_later : {F : Type 0} (e : FileFault F) (P Q : F → Type 0) → ((f : F) → P f → Q f) → OfLookUp e P → OfView (error_of e) Q
view_later fault.Memory P Q so h = tt
view_later (fault.View f) P Q so h = so f h

-- no fault of the view is one of any kind
pub if_never : {X F : Type 0} (P : F → Type 0) (r : Result X (CallError F)) → IfView r (λ f. ⊥) → IfView r P
if_never P (Ok x) h = tt
if_never P (Err (Refused r)) h = tt
if_never P (Err Memory) h = tt
if_never P (Err (View f)) h = absurd h

-- ---- a call whose numbers are any

pub if_any : {X E : Type 0} (r : Result X E) → IfOk r (λ x. Unit {0})
if_any (Ok x) = tt
if_any (Err e) = tt
