-- What calls do to the counts of a device.
use Rattle.std.specs.Prelude.{◌≡◌, ◌+◌, ◌≤◌, ℕ, IsTrue, Result, Err, OnOk, MatchBool}
use Rattle.sn_device.specs.Status.{has_ended, one_failure, HasCause}
use Rattle.sn_device.specs.declared.status.Status.{Status}
use Rattle.sn_block.specs.declared.fault.ReadFault.{ReadFault}
use Rattle.sn_block.specs.declared.fault.ReadFault.TheVariants.{Device, Memory}

-- the status after so many writes and syncs that succeeded
abbrev pub called : ℕ → ℕ → Status → Status
called w y s = record s { writes = s.writes + w; syncs = s.syncs + y }

-- A later status of the same device: no count falls, the sectors stay, and what has ended stays so.
pub record IsLater (old new : Status) : Type 0 where
  pub sectors : new.sectors ≡ old.sectors
  pub failures : old.failures ≤ new.failures
  pub writes : old.writes ≤ new.writes
  pub syncs : old.syncs ≤ new.syncs
  pub spent : IsTrue old.is_spent → IsTrue new.is_spent

-- At `Ok` so many writes and syncs were made, none of which failed. Before a fault there were at most as many, and it has a cause.
pub record CountsCalls {T E : Type 0} (w y : ℕ) (result : Result T E) (old new : Status) : Type 0 where
  pub done : OnOk result (new ≡ called w y old)
  pub sectors : new.sectors ≡ old.sectors
  pub writes : (old.writes ≤ new.writes) × (new.writes ≤ old.writes + w)
  pub syncs : (old.syncs ≤ new.syncs) × (new.syncs ≤ old.syncs + y)
  pub failures : old.failures ≤ new.failures
  pub spent : IsTrue old.is_spent → IsTrue new.is_spent
  pub cause : HasCause result old new

-- a read that fails counts its failure, or finds the device at its end
abbrev pub FailsRead : Status → Status → Type 0
FailsRead old new = MatchBool (has_ended old) (new ≡ old) (new ≡ one_failure old)

-- A read of a block counts nothing but the failure of the device, and that where it isn't at its end.
pub record CountsRead {T : Type 0} (result : Result T ReadFault) (old new : Status) : Type 0 where
  pub done : OnOk result (new ≡ old)
  pub sectors : new.sectors ≡ old.sectors
  pub memory : result ≡ Err Memory → new ≡ old
  pub device : result ≡ Err Device → FailsRead old new
