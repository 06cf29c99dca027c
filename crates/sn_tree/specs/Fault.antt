-- The text of a fault.
use Rattle.std.specs.Prelude.{ℕ, List, codes}
use Rattle.sn_tree_read.specs.Fault.{text_of as text_of_tree}
use Rattle.sn_tree.specs.declared.fault.PlanFault.{PlanFault}
use Rattle.sn_tree.specs.declared.fault.PlanFault.TheVariants.{Tree, Memory, Full}

abbrev pub text_of : PlanFault → List ℕ
text_of (Tree fault) = text_of_tree fault
text_of Memory = codes "out of memory"
text_of Full = codes "no block is left"
