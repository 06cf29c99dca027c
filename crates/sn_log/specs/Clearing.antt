-- What clearing a place does to a disk.
use Rattle.std.specs.Prelude.{◌≡◌, ◌⊎◌, ℕ, ◌+◌, ◌<◌, ◌≤◌, List, IsTrue, Result, Err, OnOk}
use Rattle.sn_device.specs.Disk.{Disk, Always, IsSynced, reads}
use Rattle.sn_device.specs.Crash.{LeavesOnly}
use Rattle.sn_device.specs.Status.{has_ended}
use Rattle.sn_device.specs.declared.status.Status.{Status}
use Rattle.sn_block.specs.Counts.{IsLater, called}
use Rattle.sn_block.specs.Effects.{WritesSynced}
use Rattle.sn_block.specs.declared.fault.ReadFault.{ReadFault}
use Rattle.sn_block.specs.declared.fault.ReadFault.TheVariants.{Device, Memory}
use Rattle.sn_layout.specs.Bytes.{zeros}
use Rattle.sn_ondisk.specs.Gates.{IsClosed}
use Rattle.sn_ondisk.specs.LogHalf.{ReplaysTo, HasNoLater, cleared_sector}

-- A place of the half from `base` on is cleared: zeros are written over its gate if that is open or no record has room there, and else over the sector after it. Whatever the answer, where nothing was unsynced before, a crash at any moment leaves the records that end there as they were, and adds no later one at the first place. At `Ok` the gate is closed after each crash, and nothing is unsynced.
pub record Clears {T E : Type 0} (base place : ℕ) (result : Result T E) (old new : Disk) : Type 0 where
  pub written : WritesSynced (cleared_sector (reads old) base place) (zeros 512) result old new
  pub keeps : (epoch : ℕ) (payloads : List (List ℕ)) → IsSynced old → ReplaysTo (reads old) base epoch payloads place → LeavesOnly old new (λ c. ReplaysTo c base epoch payloads place)
  pub adds : (epoch : ℕ) → place ≡ 0 → IsSynced old → HasNoLater (reads old) base epoch → LeavesOnly old new (λ c. HasNoLater c base epoch)
  pub closed : OnOk result (Always new (λ c. IsClosed c (base + place)))

-- At `Ok` one write and one sync were made. Want of memory comes before them. Before a failure of the device there were at most as many, and it has a cause.
pub record CountsClearing {T : Type 0} (result : Result T ReadFault) (old new : Status) : Type 0 where
  pub done : OnOk result (new ≡ called 1 1 old)
  pub later : IsLater old new
  pub writes : new.writes ≤ old.writes + 1
  pub syncs : new.syncs ≤ old.syncs + 1
  pub memory : result ≡ Err Memory → new ≡ old
  pub device : result ≡ Err Device → (old.failures < new.failures) ⊎ IsTrue (has_ended new)
