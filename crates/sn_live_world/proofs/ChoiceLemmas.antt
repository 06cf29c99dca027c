-- What was picked is what is chosen over the tree in memory.
use Rattle.std.proofs.Common.{◌≡◌, ℕ, Bool, None, refl, ap}
use Rattle.sn_caller.specs.Choosing.{Chooses}
use Rattle.sn_caller.specs.declared.chosen.Chosen.{Chosen}
use Rattle.sn_live_world.specs.Turned.{Picks}
use Rattle.sn_live_world.specs.declared.choosing.Picked.{Picked}
use Rattle.sn_model.specs.Settling.{loses}
use Rattle.sn_model.specs.Tree.{Tree}
use Rattle.sn_model.specs.declared.outcome.Caller.{Caller}
use Rattle.sn_model.specs.declared.outcome.Pending.{Pending}
use Rattle.sn_model.specs.declared.outcome.Pending.TheVariants.{Nothing, Makes, Does}

-- the same change and caller were chosen
pub record IsChosen (tree : Tree) (kept : ℕ → Bool) (pending : Pending) (caller : Caller) (picked : Picked) : Type 0 where
  pub chosen : Chosen
  pub change : chosen.change ≡ picked.change
  pub turns : chosen.caller ≡ picked.caller
  pub chooses : Chooses tree kept pending caller chosen

pub picks_chooses : (tree : Tree) (kept : ℕ → Bool) (pending : Pending) (caller : Caller) (picked : Picked) → Picks tree kept pending caller picked → IsChosen tree kept pending caller picked
picks_chooses tree kept Nothing caller picked is = record { chosen = record { change = picked.change; caller = picked.caller; lost = None }; change = refl; turns = refl; chooses = ap (λ (p : Picked). record { change = p.change; caller = p.caller; lost = None }) is }
picks_chooses tree kept (Makes directory name kind o) caller picked is = record { chosen = record { change = picked.change; caller = picked.caller; lost = None }; change = refl; turns = refl; chooses = (is.0, is.1, ap (λ (p : Picked). record { change = p.change; caller = p.caller; lost = None }) is.2) }
picks_chooses tree kept (Does c) caller picked is = record { chosen = record { change = picked.change; caller = picked.caller; lost = loses c tree }; change = refl; turns = refl; chooses = ap (λ (p : Picked). record { change = p.change; caller = p.caller; lost = loses c tree }) is }
