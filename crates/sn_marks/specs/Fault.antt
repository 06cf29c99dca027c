-- What a fault says, and what going through a root does to the counts of a device.
use Rattle.std.specs.Prelude.{◌≡◌, ℕ, Result, Err, OnOk}
use Rattle.sn_device.specs.declared.status.Status.{Status}
use Rattle.sn_block.specs.Counts.{FailsRead}
use Rattle.sn_block.specs.declared.fault.ReadFault.TheVariants.{Device, Memory}
use Rattle.sn_model.specs.declared.fault.Damage.{Damage}
use Rattle.sn_marks.specs.declared.fault.CheckFault.{CheckFault}
use Rattle.sn_marks.specs.declared.fault.CheckFault.TheVariants.{Damaged, Read}

-- What is reported of a damage and its block is so. A block that isn't read says nothing.
abbrev pub Tells : CheckFault → (Damage → ℕ → Type 0) → Type 0
Tells (Damaged damage block) P = P damage block
Tells (Read fault) P = Unit {0}

-- Nothing is counted but the failure of the device, and that where it isn't at its end.
pub record CountsCheck {T : Type 0} (result : Result T CheckFault) (old new : Status) : Type 0 where
  pub done : OnOk result (new ≡ old)
  pub sectors : new.sectors ≡ old.sectors
  pub damaged : (damage : Damage) (block : ℕ) → result ≡ Err (Damaged damage block) → new ≡ old
  pub memory : result ≡ Err (Read Memory) → new ≡ old
  pub device : result ≡ Err (Read Device) → FailsRead old new
