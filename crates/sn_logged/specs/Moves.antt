-- What a change does to the names of directories.
use Rattle.std.specs.Prelude.{ℕ, ◌==◌, false, true, Option, None, Some, if◌then◌else◌}
use Rattle.std.specs.FinMap as map
use Rattle.sn_logged.specs.declared.moving.NameMoves.{NameMoves}
use Rattle.sn_logged.specs.declared.moving.NameMoves.TheVariants.{Stay, Gain, Lose, Move}
use Rattle.sn_model.specs.declared.change.Change.{Change}
use Rattle.sn_model.specs.declared.change.Change.TheVariants.{Make, AddLink, Remove, Rename}
use Rattle.sn_model.specs.declared.link.Link.{Link}
use Rattle.sn_model.specs.Tree.{Tree, link_to}

-- The number of the old name and that of the new one decide: where both are names of one object, nothing moves.
abbrev pub moving : Option ℕ → Option ℕ → ℕ → ℕ → NameMoves
moving None target from to = Stay
moving (Some number) None from to = Move from to number false
moving (Some number) (Some other) from to = if other == number then Stay else Move from to number true

abbrev pub renaming : Tree → Link → Link → NameMoves
renaming tree old new = moving (map.get tree.links old) (map.get tree.links new) old.directory new.directory

abbrev pub moves_of : Tree → Change → NameMoves
moves_of tree (Make directory name number kind o) = Gain directory number
moves_of tree (AddLink directory name number) = Gain directory number
moves_of tree (Remove directory name) = Lose directory
moves_of tree (Rename old_directory old_name new_directory new_name) = renaming tree (link_to old_directory old_name) (link_to new_directory new_name)
moves_of tree change = Stay
