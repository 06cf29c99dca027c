-- The outcome of a call, where a new node has its number.
use Rattle.std.specs.Prelude.{◌≡◌, ◌≢◌, ℕ, Bool, None, Some}
use Rattle.sn_limits.specs.Versions.{limits_written}
use Rattle.sn_model.specs.declared.change.Change.TheVariants.{Make}
use Rattle.sn_model.specs.declared.outcome.Caller.{Caller}
use Rattle.sn_model.specs.declared.outcome.Pending.{Pending}
use Rattle.sn_model.specs.declared.outcome.Pending.TheVariants.{Nothing, Makes, Does}
use Rattle.sn_model.specs.Settling.{loses}
use Rattle.sn_model.specs.Steps.{filled}
use Rattle.sn_model.specs.Tree.{Tree, least_unused}
use Rattle.sn_number_table.specs.Numbers.{next_number}
use Rattle.sn_caller.specs.declared.chosen.Chosen.{Chosen}

-- a number is left for a node that is to be made
abbrev pub HasNumber : Tree → Pending → Type 0
HasNumber tree Nothing = Unit {0}
HasNumber tree (Makes directory name kind o) = least_unused limits_written tree ≢ None
HasNumber tree (Does c) = Unit {0}

-- what is pending, where a new node has the next number
abbrev pub Chooses : Tree → (ℕ → Bool) → Pending → Caller → Chosen → Type 0
Chooses tree kept Nothing caller chosen = chosen ≡ record { change = None; caller = caller; lost = None }
Chooses tree kept (Makes directory name kind o) caller chosen = (number : ℕ) × (next_number limits_written tree kept ≡ Some number) × (chosen ≡ record { change = Some (Make directory name number kind o); caller = filled number caller; lost = None })
Chooses tree kept (Does c) caller chosen = chosen ≡ record { change = Some c; caller = caller; lost = loses c tree }
