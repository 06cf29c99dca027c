-- Files without names that a caller abandons, as they are reported.
use Rattle.std.specs.Prelude.{ℕ, Bool, false, List, [], ◌∷◌, ◌++◌, Option, None, Some, if◌then◌else◌}
use Rattle.sn_changed.specs.declared.dropped.DroppedFile.{DroppedFile}
use Rattle.sn_model.specs.Settling.{dropped_if, is_abandoned}
use Rattle.sn_model.specs.World.{World}

-- one that is dropped is reported after the others
abbrev pub told_if : World → ℕ → Bool → List DroppedFile → List DroppedFile
told_if world number by_close files = if is_abandoned world number then files ++ (record { number = number; by_close = by_close }) ∷ [] else files

-- the same of one that lost a name, if one did
abbrev pub dropped_lost : World → Option ℕ → World
dropped_lost world None = world
dropped_lost world (Some number) = dropped_if world number

abbrev pub told_lost : World → Option ℕ → List DroppedFile → List DroppedFile
told_lost world None files = files
told_lost world (Some number) files = told_if world number false files
