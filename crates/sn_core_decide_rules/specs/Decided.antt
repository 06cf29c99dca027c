-- The outcome of a call, or why it has none.
use Rattle.std.specs.Prelude.{◌≡◌, ℕ, List, Result, Ok, Err, IfErr, IsOk}
use Rattle.sn_walk.specs.declared.object.Home.{Home}
use Rattle.sn_walk.specs.Views.{ViewedTrees}
use Rattle.sn_limits.specs.Versions.{limits_written}
use Rattle.sn_model.specs.declared.call.Call.{Call}
use Rattle.sn_model.specs.declared.call.Call.TheVariants.{SnapDelete, SnapRestore}
use Rattle.sn_model.specs.declared.outcome.Outcome.{Outcome}
use Rattle.sn_model.specs.declared.reply.Refusal.{Refusal}
use Rattle.sn_model.specs.Calls.{ready}
use Rattle.sn_model.specs.Seen.{SeenNames}
use Rattle.sn_model.specs.Steps.{TakesMemory, decision}
use Rattle.sn_model.specs.World.{World, trees_of, viewed_trees}
use Rattle.sn_desc.specs.InUse.{InUse, in_world}
use Rattle.sn_core_decide_rules.specs.declared.fault.CallError.{CallError}
use Rattle.sn_core_decide_rules.specs.declared.fault.CallError.TheVariants.{Refused, Memory, View}
use Rattle.sn_core_decide_rules.specs.Shown.{Shows}

-- a call may find no memory, and its session and arguments have passed
abbrev pub MayLack : World → ℕ → Call → Type 0
MayLack world session c = TakesMemory c × IsOk (ready world session c)

-- why a call has no outcome: it is refused, or it lacks memory or what the view failed to give
abbrev pub HasNone : {F : Type 0} → CallError F → World → ℕ → Call → Type 0
HasNone (Refused r) world session c = decision limits_written world session c ≡ Err r
HasNone Memory world session c = MayLack world session c
HasNone (View f) world session c = MayLack world session c

-- the outcome of a call
abbrev pub Decides : {F : Type 0} → World → ℕ → Call → Result Outcome (CallError F) → Type 0
Decides world session c (Ok o) = decision limits_written world session c ≡ Ok o
Decides world session c (Err e) = HasNone e world session c

-- the same over all that sessions and a view show, the sessions put into the world
abbrev pub DecidesShown : {F : Type 0} → InUse → ViewedTrees → (ℕ → Result (Unit {0}) Refusal) → SeenNames → (Home → ℕ → List ℕ) → ℕ → Call → Result Outcome (CallError F) → Type 0
DecidesShown used trees room names bytes session c result = (world : World) → Shows world used trees room names bytes → Decides (in_world used world) session c result

-- the calls of which each refusal is known without a look-up: their tests ask who is logged in, what is open and which snapshots there are
abbrev pub IsRefusedAtOnce : Call → Type 0
IsRefusedAtOnce (SnapDelete name) = Unit {0}
IsRefusedAtOnce (SnapRestore name) = Unit {0}
IsRefusedAtOnce c = ⊥

-- no fault hides a refusal of theirs: what the model refuses is refused so, whatever memory and the view do
abbrev pub HidesNoRefusal : {F : Type 0} → World → ℕ → Call → Result Outcome (CallError F) → Type 0
HidesNoRefusal world session c result = IsRefusedAtOnce c → IfErr (decision limits_written world session c) (λ r. result ≡ Err (Refused r))

-- the same over all that sessions and a view show
abbrev pub HidesNoRefusalShown : {F : Type 0} → InUse → ViewedTrees → ℕ → Call → Result Outcome (CallError F) → Type 0
HidesNoRefusalShown used trees session c result = (world : World) → trees ≡ viewed_trees (trees_of world) → HidesNoRefusal (in_world used world) session c result
