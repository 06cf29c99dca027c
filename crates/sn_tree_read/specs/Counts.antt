-- What reading a tree does to the counts of a device.
use Rattle.std.specs.Prelude.{◌≡◌, ℕ, Option, Result, Err, OnOk}
use Rattle.sn_block.specs.Counts.{FailsRead}
use Rattle.sn_block.specs.declared.fault.ReadFault.TheVariants.{Device, Memory}
use Rattle.sn_device.specs.declared.status.Status.{Status}
use Rattle.sn_tree_read.specs.declared.fault.TreeFault.{TreeFault}
use Rattle.sn_tree_read.specs.declared.fault.TreeFault.TheVariants.{Read, Damaged}

-- Nothing is counted but the failure of the device, and that where it isn't at its end.
pub record CountsTree {T : Type 0} (result : Result T TreeFault) (old new : Status) : Type 0 where
  pub done : OnOk result (new ≡ old)
  pub sectors : new.sectors ≡ old.sectors
  pub memory : result ≡ Err (Read Memory) → new ≡ old
  pub damaged : (block : Option ℕ) → result ≡ Err (Damaged block) → new ≡ old
  pub device : result ≡ Err (Read Device) → FailsRead old new
