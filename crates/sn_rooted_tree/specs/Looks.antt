-- What look-ups in the tree of a root do to a device, and how a fault stays.
use Rattle.std.specs.Prelude.{◌≡◌, Bool, IsTrue, Option, None, Some, Result, Ok, Err}
use Rattle.sn_block.specs.Counts.{FailsRead}
use Rattle.sn_block.specs.declared.fault.ReadFault.TheVariants.{Device, Memory}
use Rattle.sn_device.specs.Disk.{Disk}
use Rattle.sn_device.specs.declared.status.Status.{Status}
use Rattle.sn_layout.specs.declared.root.RootBody.{RootBody}
use Rattle.sn_tree_read.specs.declared.fault.TreeFault.{TreeFault}
use Rattle.sn_tree_read.specs.declared.fault.TreeFault.TheVariants.{Read, Damaged}

-- What a look-up that failed so did to the device. Where that tells its bytes, they aren't the cause.
abbrev pub FailsSo : Bool → Status → Status → TreeFault → Type 0
FailsSo told old new (Read Device) = FailsRead old new
FailsSo told old new (Read Memory) = new ≡ old
FailsSo told old new (Damaged block) = (new ≡ old) × (IsTrue told → ⊥)

-- No look-up has failed, and nothing is counted; or the fault of the first that did remains.
abbrev pub Stands : Bool → Status → Status → Option TreeFault → Option TreeFault → Type 0
Stands told old new None None = new ≡ old
Stands told old new None (Some fault) = FailsSo told old new fault
Stands told old new (Some fault) later = (later ≡ Some fault) × (new ≡ old)

-- Of one root, look-ups were made, and where the device tells its bytes it has those that it had.
pub record Looks (told : Bool) (old new : Status) (before now : Disk) (begun later : RootBody) (stood standing : Option TreeFault) : Type 0 where
  pub same : IsTrue told → now ≡ before
  pub root : later ≡ begun
  pub stands : Stands told old new stood standing

-- the fault of an answer
abbrev pub fault_of : {T : Type 0} → Result T TreeFault → Option TreeFault
fault_of (Ok x) = None
fault_of (Err fault) = Some fault
