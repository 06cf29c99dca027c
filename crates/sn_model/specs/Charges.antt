-- What a call is charged for: the blocks that a consistency point may take for its change, or for the files without names of a snapshot that it brings back.
use Rattle.std.specs.Prelude.{◌≡◌, ℕ, ◌+◌, ◌*◌, length, if◌then◌else◌}
use Rattle.std.specs.Option.{option_map_or}
use Rattle.std.specs.FinMap as map
use Rattle.sn_limits.specs.declared.limits.Limits.{Limits}
use Rattle.sn_model.specs.declared.change.Change.{Change}
use Rattle.sn_model.specs.declared.change.Change.TheVariants.{Make, AddLink, Remove, Rename, Write, SetSize, SetAttributes}
use Rattle.sn_model.specs.declared.link.Link.{Link}
use Rattle.sn_model.specs.Changes.{is_file}
use Rattle.sn_model.specs.FileCalls.{blocks_spanned}
use Rattle.sn_model.specs.Outcomes.{AskedPoint, Restores, Pending, Nothing, Makes, Does, Outcome}
use Rattle.sn_model.specs.Settling.{nameless_if}
use Rattle.sn_model.specs.Tree.{Tree, link_to}
use Rattle.sn_model.specs.World.{World}

-- a file that is found under a name, as a number
abbrev pub file_under : Tree → Link → ℕ
file_under tree link = option_map_or (λ number. option_map_or (λ node. if is_file node.kind then 1 else 0) (map.get tree.nodes number) 0) (map.get tree.links link) 0

-- A change is charged for each inode that it may touch, one more where a file may stay without names, and for each directory or data block.
abbrev pub charge_for : Limits → Tree → Change → ℕ
charge_for limits tree (Make directory name number kind o) = 2 * limits.inode_charge + limits.block_charge
charge_for limits tree (AddLink directory name number) = 2 * limits.inode_charge + limits.block_charge
charge_for limits tree (Remove directory name) = (2 + file_under tree (link_to directory name)) * limits.inode_charge + limits.block_charge
charge_for limits tree (Rename old_directory old_name new_directory new_name) = 5 * limits.inode_charge + 2 * limits.block_charge
charge_for limits tree (Write number offset bytes) = limits.inode_charge + limits.block_charge * blocks_spanned offset (length bytes)
charge_for limits tree (SetSize number size) = limits.inode_charge + limits.block_charge
charge_for limits tree (SetAttributes number o) = limits.inode_charge

-- a node that is made is charged alike whatever its number
abbrev pub charge_of : Limits → Tree → Pending → ℕ
charge_of limits tree Nothing = 0
charge_of limits tree (Makes directory name kind o) = charge_for limits tree (Make directory name 0 kind o)
charge_of limits tree (Does change) = charge_for limits tree change

-- of the points that are asked for, one that restores a snapshot is charged for each file without names of its tree, the others for nothing
abbrev pub point_charge : Limits → World → AskedPoint → ℕ
point_charge limits world (Restores name) = limits.inode_charge * nameless_if (map.get world.frozen name)
point_charge limits world asked = 0

-- an outcome is charged for its change in the live tree, and for its point
abbrev pub IsPaidFor : Limits → World → Outcome → Type 0
IsPaidFor limits world o = o.charge ≡ charge_of limits world.live o.change + point_charge limits world o.point
