-- What an append does to a disk.
use Rattle.std.specs.Prelude.{◌≡◌, ◌⊎◌, ℕ, ◌+◌, List, [], ◌∷◌, ◌++◌, Result, OnOk}
use Rattle.sn_device.specs.Sectors.{Stretch, sector_at}
use Rattle.sn_device.specs.Disk.{Disk, Always, IsSynced, reads}
use Rattle.sn_device.specs.Crash.{Touches, LeavesOnly}
use Rattle.sn_layout.specs.Gate.{gate_bytes}
use Rattle.sn_layout.specs.declared.gate.Gate.TheVariants.{Open, Closed}
use Rattle.sn_model.specs.declared.change.Change.{Change}
use Rattle.sn_ondisk.specs.Blocks.{bytes_at}
use Rattle.sn_ondisk.specs.LogHalf.{InHalf}
use Rattle.sn_log.specs.Positions.{LogPosition, base_at, behind, IsReadyAt}

-- The record of a change is appended at a position. Whatever the answer, no sector of another half was touched, and where each crash left these changes, one at any moment leaves them, or them with the new one. At `Ok` each crash leaves the new one too, nothing is unsynced, and its gate and the next one are whole sectors, with zeros after the first byte.
pub record Appends {T E : Type 0} (at : LogPosition) (change : Change) (result : Result T E) (old new : Disk) : Type 0 where
  pub touched : Touches (InHalf (base_at at)) old new
  pub any_moment : (changes : List Change) → Always old (IsReadyAt at changes)
      → LeavesOnly old new (λ c. IsReadyAt at changes c ⊎ IsReadyAt (behind at change) (changes ++ change ∷ []) c)
  pub acknowledged : (changes : List Change) → Always old (IsReadyAt at changes)
      → OnOk result (Always new (IsReadyAt (behind at change) (changes ++ change ∷ [])))
  pub synced : OnOk result (IsSynced new)
  pub gate : OnOk result (sector_at (reads new) (base_at at + at.place) ≡ gate_bytes Open)
  pub next_gate : OnOk result (sector_at (reads new) (base_at at + (behind at change).place) ≡ gate_bytes Closed)

-- A body of n sectors is written after the gate in the sector `at`, and the gate after the body closed. Only these sectors were touched. At `Ok` reads give them so, and nothing is unsynced.
pub record WritesBehind {T E : Type 0} (at n : ℕ) (bytes : List ℕ) (result : Result T E) (old new : Disk) : Type 0 where
  pub touched : Touches (Stretch (at + 1) (n + 1)) old new
  pub body : OnOk result (bytes_at (reads new) (at + 1) n ≡ bytes)
  pub shut : OnOk result (sector_at (reads new) (at + 1 + n) ≡ gate_bytes Closed)
  pub synced : OnOk result (IsSynced new)
