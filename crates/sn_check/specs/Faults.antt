-- What faults of the parts make of a check.
use Rattle.std.specs.Prelude.{ℕ}
use Rattle.sn_examine.specs.Failing.{read_fault}
use Rattle.sn_marks.specs.declared.fault.CheckFault.{CheckFault}
use Rattle.sn_marks.specs.declared.fault.CheckFault.TheVariants as of_check
use Rattle.sn_model.specs.declared.fault.Damage.{Damage}
use Rattle.sn_model.specs.declared.fault.MountFault.{MountFault}
use Rattle.sn_model.specs.declared.fault.MountFault.TheVariants.{NotFormatted, Version, NoRoot, Damaged, Memory, Device}

abbrev pub fault_of_check : CheckFault → MountFault
fault_of_check (of_check.Damaged damage block) = Damaged damage block
fault_of_check (of_check.Read fault) = read_fault fault

-- A damage that is reported holds of its block. Else memory was refused, or the device failed.
abbrev pub IsDamageOf : (Damage → ℕ → Type 0) → MountFault → Type 0
IsDamageOf P (Damaged damage block) = P damage block
IsDamageOf P NotFormatted = ⊥
IsDamageOf P Version = ⊥
IsDamageOf P NoRoot = ⊥
IsDamageOf P Memory = Unit {0}
IsDamageOf P Device = Unit {0}
