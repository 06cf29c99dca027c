-- How a device shows that it failed, and what a mount costs it.
use Rattle.std.specs.Prelude.{◌≡◌, ◌⊎◌, ℕ, ◌+◌, ◌<◌, ◌≤◌, Result, IfErr, IsTrue}
use Rattle.sn_device.specs.declared.status.Status.{Status}
use Rattle.sn_device.specs.Status.{has_ended}
use Rattle.sn_model.specs.declared.fault.MountFault.{MountFault}
use Rattle.sn_model.specs.declared.fault.MountFault.TheVariants.{NotFormatted, Version, NoRoot, Damaged, Memory, Device}
use Rattle.sn_block.specs.Counts.{IsLater}
use Rattle.sn_block.specs.declared.fault.ReadFault.{ReadFault}
use Rattle.sn_block.specs.declared.fault.ReadFault.TheVariants as read

-- the device has failed, or has reached its end
abbrev pub HasFailed : Status → Status → Type 0
HasFailed old new = (old.failures < new.failures) ⊎ IsTrue (has_ended new)

-- no call of the device failed
abbrev pub HasNotFailed : Status → Status → Type 0
HasNotFailed old new = new.failures ≡ old.failures

-- at most this many writes and syncs, failed or not
pub record CostsAtMost (w y : ℕ) (old new : Status) : Type 0 where
  pub writes : new.writes ≤ old.writes + w
  pub syncs : new.syncs ≤ old.syncs + y

-- nothing was written or synced
pub record WritesNothing (old new : Status) : Type 0 where
  pub later : IsLater old new
  pub writes : new.writes ≡ old.writes
  pub syncs : new.syncs ≡ old.syncs

-- what a read that fails makes of a mount
abbrev pub read_fault : ReadFault → MountFault
read_fault read.Device = Device
read_fault read.Memory = Memory

-- the device is reported to have failed where it has, or has reached its end, and nowhere else
abbrev pub IsSoOf : MountFault → Status → Status → Type 0
IsSoOf Device old new = HasFailed old new
IsSoOf cause old new = HasNotFailed old new

abbrev pub FailsAs : {T : Type 0} → Result T MountFault → Status → Status → Type 0
FailsAs result old new = IfErr result (λ fault. IsSoOf fault old new)
