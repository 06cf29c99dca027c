-- The blocks that a consistency point takes for a layer, at most.
use Rattle.std.specs.Prelude.{◌≡◌, ℕ, ◌+◌, ◌*◌, ◌≤◌, ◌==◌, length, if◌then◌else◌}
use Rattle.std.specs.FinMap as map
use Rattle.sn_limits.specs.declared.limits.Limits.{Limits}
use Rattle.sn_model.specs.declared.change.Change.{Change}
use Rattle.sn_model.specs.declared.change.Change.TheVariants.{Make, AddLink, Remove, Rename, Write, SetSize, SetAttributes}
use Rattle.sn_model.specs.Tree.{Tree, link_to}
use Rattle.sn_model.specs.Charges.{file_under}
use Rattle.sn_model.specs.FileCalls.{blocks_spanned}
use Rattle.sn_overlay.specs.Layers.{Layer}
use Rattle.sn_overlay.specs.Overlays.{Counts}

-- the levels of the largest files: indirect blocks and the data below
abbrev pub levels : Limits → ℕ
levels limits = limits.indirect_levels + 1

-- For each node its block of the inode file with the blocks above, its ACL and the path where it is cut; for each name and each data block one block and those above it; and the path where the inode file grows.
abbrev pub need_of : Limits → Counts → ℕ
need_of limits counts = (3 + levels limits) * counts.nodes + levels limits * (counts.names + counts.blocks) + (if counts.nodes == 0 then 0 else 2)

abbrev pub counts_of : Layer → Counts
counts_of layer = record { nodes = map.len layer.nodes; names = map.len layer.names; blocks = map.len layer.blocks }

abbrev pub need : Limits → Layer → ℕ
need limits layer = need_of limits (counts_of layer)

abbrev pub counts : ℕ → ℕ → ℕ → Counts
counts nodes names blocks = record { nodes = nodes; names = names; blocks = blocks }

-- what the layer of one change has, at most: the directories, what has the name, what loses it, the names, and the blocks written
abbrev pub counts_for : Change → Counts
counts_for (Make directory name number kind o) = counts 2 1 0
counts_for (AddLink directory name number) = counts 2 1 0
counts_for (Remove directory name) = counts 2 1 0
counts_for (Rename old_directory old_name new_directory new_name) = counts 3 2 0
counts_for (Write number offset bytes) = counts 1 0 (blocks_spanned offset (length bytes))
counts_for (SetSize number size) = counts 1 0 1
counts_for (SetAttributes number o) = counts 1 0 0

-- how many more files a change may leave without names
abbrev pub left_nameless : Tree → Change → ℕ
left_nameless tree (Remove directory name) = file_under tree (link_to directory name)
left_nameless tree (Rename old_directory old_name new_directory new_name) = 1
left_nameless tree change = 0

-- The figures of a version pay for what changes need.
pub record AreCharged (limits : Limits) : Type 0 where
  pub inodes : levels limits + 5 ≤ limits.inode_charge
  pub blocks : limits.block_charge ≡ levels limits

-- What a layer needs, and a charge for each file without names that is seen through it, is at most what was charged for it, and a charge for each file without names below.
abbrev pub IsPaid : Limits → Layer → ℕ → ℕ → ℕ → Type 0
IsPaid limits layer nameless_below nameless charged = need limits layer + limits.inode_charge * nameless ≤ charged + limits.inode_charge * nameless_below
