-- What a caller leaves, and how a call continues.
use Rattle.std.specs.Prelude.{◌≡◌, ℕ, Bool, List, Option, None, Some, Result, Ok, Err, IfErr}
use Rattle.sn_changed.specs.Dropped.{LeadsOn, TellsGone}
use Rattle.sn_changed.specs.declared.dropped.DroppedFile.{DroppedFile}
use Rattle.sn_caller.specs.Called.{CanTurn}
use Rattle.sn_core_decide_rules.specs.Decided.{IsRefusedAtOnce, MayLack}
use Rattle.sn_limits.specs.Versions.{limits_written}
use Rattle.sn_live_world.specs.World.{IsOver, changes_of, descriptors_of, room_of, tree_over, world_over}
use Rattle.sn_live_world.specs.declared.choosing.Picked.{Picked}
use Rattle.sn_live_world.specs.declared.fault.CallFault.{CallFault}
use Rattle.sn_live_world.specs.declared.fault.CallFault.TheVariants.{Memory, Read, Refused}
use Rattle.sn_live_world.specs.declared.world.LiveWorld.{LiveWorld}
use Rattle.sn_model.specs.Settling.{OnlyLost}
use Rattle.sn_model.specs.Steps.{decision, filled}
use Rattle.sn_model.specs.Tree.{Tree}
use Rattle.sn_model.specs.World.{World}
use Rattle.sn_model.specs.declared.call.Call.{Call}
use Rattle.sn_model.specs.declared.change.Change.TheVariants.{Make}
use Rattle.sn_model.specs.declared.outcome.Caller.{Caller}
use Rattle.sn_model.specs.declared.outcome.Outcome.{Outcome}
use Rattle.sn_model.specs.declared.outcome.Pending.{Pending}
use Rattle.sn_model.specs.declared.outcome.Pending.TheVariants.{Nothing, Makes, Does}
use Rattle.sn_number_table.specs.Numbers.{next_number}

-- why a call has no outcome
abbrev pub HasNone : CallFault → World → ℕ → Call → Type 0
HasNone (Refused r) world session c = decision limits_written world session c ≡ Err r
HasNone Memory world session c = MayLack world session c
HasNone Read world session c = MayLack world session c

-- the outcome of a call
abbrev pub Decides : World → ℕ → Call → Result Outcome CallFault → Type 0
Decides world session c (Ok o) = decision limits_written world session c ≡ Ok o
Decides world session c (Err e) = HasNone e world session c

-- no fault hides a refusal of a call that is refused at once: what the model refuses is refused so, whatever memory and the device do
abbrev pub HidesNoRefusal : World → ℕ → Call → Result Outcome CallFault → Type 0
HidesNoRefusal world session c result = IsRefusedAtOnce c → IfErr (decision limits_written world session c) (λ r. result ≡ Err (Refused r))

-- what is pending, where a new node has the next number
abbrev pub Picks : Tree → (ℕ → Bool) → Pending → Caller → Picked → Type 0
Picks tree kept Nothing caller picked = picked ≡ record { change = None; caller = caller }
Picks tree kept (Makes directory name kind o) caller picked = (number : ℕ) × (next_number limits_written tree kept ≡ Some number) × (picked ≡ record { change = Some (Make directory name number kind o); caller = filled number caller })
Picks tree kept (Does c) caller picked = picked ≡ record { change = Some c; caller = caller }

-- The state belongs to a tree below, a caller can turn there, and no live file is abandoned but one that lost its name.
pub record Turns (w : LiveWorld) (below : Tree) (session : ℕ) (caller : Caller) (lost : Option ℕ) : Type 0 where
  pub over : IsOver w below
  pub can : CanTurn (descriptors_of w) (room_of w) session caller
  pub only : OnlyLost (world_over w below) lost

-- Files were dropped, and what changed is merged with their drops.
pub record DropsTo (old new : LiveWorld) (below : Tree) : Type 0 where
  pub files : List DroppedFile
  pub told : TellsGone (tree_over old below) (tree_over new below) files
  pub leads : LeadsOn (changes_of old) files (changes_of new)
