-- What the calls of a device that tells its bytes do to its disk.
use Rattle.std.specs.Prelude.{◌≡◌, ◌⊎◌, ℕ, List, IsTrue, Result, OnOk, OnErr}
use Rattle.sn_device.specs.Disk.{Disk, next, written, synced, TriedWrite}
use Rattle.sn_device.specs.Status.{has_ended}
use Rattle.sn_device.specs.declared.status.Status.{Status}

-- At a fault of a device at its end nothing was done.
abbrev pub EndsAt : Disk → Disk → Status → Type 0
EndsAt old new status = (new ≡ old) × IsTrue (has_ended status)

-- a write of these bytes
pub record Writes {T E : Type 0} (at : ℕ) (bytes : List ℕ) (result : Result T E) (old new : Disk) (status : Status) : Type 0 where
  pub done : OnOk result (new ≡ next old (written at bytes old.present))
  pub failed : OnErr result (TriedWrite at old new ⊎ EndsAt old new status)

-- A sync that fails syncs nothing.
pub record Syncs {T E : Type 0} (result : Result T E) (old new : Disk) (status : Status) : Type 0 where
  pub done : OnOk result (new ≡ next old (synced old.present))
  pub failed : OnErr result ((new ≡ next old old.present) ⊎ EndsAt old new status)
