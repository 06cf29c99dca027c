-- What reading results in where the blocks of a tree are on the device.
use Rattle.std.specs.Prelude.{◌≡◌, ℕ, true}
use Rattle.sn_layout.specs.declared.tree.BlockTree.{BlockTree}
use Rattle.sn_model.specs.declared.fault.Damage.TheVariants.{Misspelt}
use Rattle.sn_ondisk.specs.Trees.{Store}
use Rattle.sn_tree_read.specs.Paths.{block_lies_on}
use Rattle.sn_tree_read.specs.declared.fault.TreeFault.{TreeFault}
use Rattle.sn_tree_read.specs.declared.fault.TreeFault.TheVariants as tree
use Rattle.sn_marks.specs.declared.fault.CheckFault.{CheckFault}
use Rattle.sn_marks.specs.declared.fault.CheckFault.TheVariants as check

-- Each data block of a tree is on a device of so many sectors, as each block on the way to it is.
abbrev pub TreeLies : ℕ → Store → BlockTree → Type 0
TreeLies sectors s tree = (i : ℕ) → block_lies_on sectors s tree i ≡ true

-- the fault of a reader, reported at a block
abbrev pub fault_at : ℕ → TreeFault → CheckFault
fault_at block (tree.Read fault) = check.Read fault
fault_at block (tree.Damaged found) = check.Damaged Misspelt block
