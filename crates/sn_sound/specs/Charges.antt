-- What the calls of a log were charged.
use Rattle.std.specs.Prelude.{ℕ, ◌+◌, ◌*◌, ◌≤◌, List, [], ◌∷◌}
use Rattle.std.specs.Option.{option_map_or}
use Rattle.sn_limits.specs.declared.limits.Limits.{Limits}
use Rattle.sn_model.specs.declared.change.Change.{Change}
use Rattle.sn_model.specs.Changes.{apply}
use Rattle.sn_model.specs.Tree.{Tree}
use Rattle.sn_model.specs.Charges.{charge_for}
use Rattle.sn_model.specs.Settling.{nameless_in}

-- The charges of changes that are made one after the other. What a remove is charged depends on what has the name.
unfoldable pub charges_from : Limits → List Change → Tree → ℕ
charges_from limits [] tree = 0
charges_from limits (c ∷ cs) tree = charge_for limits tree c + option_map_or (charges_from limits cs) (apply limits c tree) 0

-- What was logged on top of a root fits: its charges, with one for each file without names in the root's image, are no more than the free blocks.
abbrev pub Fits : Limits → List Change → Tree → ℕ → Type 0
Fits limits changes image free = charges_from limits changes image + limits.inode_charge * nameless_in image ≤ free
