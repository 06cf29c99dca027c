-- The text of a fault.
use Rattle.std.specs.Prelude.{ℕ, List, ◌++◌, Some, None, codes, decimal}
use Rattle.sn_block.specs.Fault.{text_of as text_of_read}
use Rattle.sn_tree_read.specs.declared.fault.TreeFault.{TreeFault}
use Rattle.sn_tree_read.specs.declared.fault.TreeFault.TheVariants.{Read, Damaged}

abbrev pub text_of : TreeFault → List ℕ
text_of (Read fault) = text_of_read fault
text_of (Damaged (Some block)) = codes "the image is damaged at block " ++ decimal block
text_of (Damaged None) = codes "the image is damaged"
