-- What is seen of the live tree and the frozen ones, and the table of the live one's numbers.
use Rattle.sn_desc.specs.InUse.{InUse}
use Rattle.sn_live_files.specs.Frozen.{FrozenTrees}
use Rattle.sn_limits.specs.Versions.{limits_written}
use Rattle.sn_model.specs.NameTree.{IsTree}
use Rattle.sn_model.specs.Tree.{Tree}
use Rattle.sn_model.specs.World.{Trees, World}
use Rattle.sn_number_table.specs.Table.{TellsNumbers}
use Rattle.sn_number_table.specs.declared.table.NumberTable.{NumberTable}

-- a live tree, with frozen trees beside it
abbrev pub live_trees : Tree → FrozenTrees → Trees
live_trees tree frozen = record { live = tree; frozen = frozen }

-- What is seen is a name tree, and the table describes its numbers.
pub record IsNumbered (tree : Tree) (numbers : NumberTable) : Type 0 where
  pub whole : IsTree limits_written tree
  pub tells : TellsNumbers tree numbers

-- trees with who is logged in and what is open
abbrev pub world_of : InUse → Trees → World
world_of used trees = record { live = trees.live; frozen = trees.frozen; sessions = used.sessions; descriptors = used.descriptors }
