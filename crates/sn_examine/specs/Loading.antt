-- What a mount makes of a tree that can't be read.
use Rattle.std.specs.Prelude.{ℕ}
use Rattle.std.specs.Option.{unwrap_or}
use Rattle.sn_model.specs.declared.fault.Damage.TheVariants.{Misspelt}
use Rattle.sn_model.specs.declared.fault.MountFault.{MountFault}
use Rattle.sn_model.specs.declared.fault.MountFault.TheVariants as fault
use Rattle.sn_tree_read.specs.declared.fault.TreeFault.{TreeFault}
use Rattle.sn_tree_read.specs.declared.fault.TreeFault.TheVariants.{Read, Damaged}
use Rattle.sn_examine.specs.Failing.{read_fault}

-- the fault: a misspelt block, and where there is none that of the root's body
abbrev pub fault_of_tree : TreeFault → ℕ → MountFault
fault_of_tree (Read failed) body = read_fault failed
fault_of_tree (Damaged block) body = fault.Damaged Misspelt (unwrap_or block body)
