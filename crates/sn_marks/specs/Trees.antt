-- What is wrong with a block tree.
use Rattle.std.specs.Prelude.{ℕ, List}
use Rattle.sn_layout.specs.declared.tree.BlockTree.{BlockTree}
use Rattle.sn_model.specs.declared.fault.Damage.{Damage}
use Rattle.sn_model.specs.declared.fault.Damage.TheVariants.{Misspelt}
use Rattle.sn_ondisk.specs.Trees.{Store, tree_reach}
use Rattle.sn_sound.specs.Faults.{IsTreeFault}
use Rattle.sn_marks.specs.Marks.{IsAstray}

-- The blocks of a tree can't all be gone through, or it doesn't end at its size. `top` is the block of its sixteen pointers.
pub data StandsInTree (n k : ℕ) (s : Store) (tree : BlockTree) (top : ℕ) (old : List ℕ) : Damage → ℕ → Type 0 where
  astray : (damage : Damage) (block : ℕ) → IsAstray n k (tree_reach s tree) old damage block → StandsInTree n k s tree top old damage block
  misspelt : (block : ℕ) → IsTreeFault s tree top block → StandsInTree n k s tree top old Misspelt block
