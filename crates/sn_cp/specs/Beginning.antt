-- What the beginning of a point does.
use Rattle.std.specs.Prelude.{◌≡◌, ℕ, ◌+◌, List, [], Result, OnOk}
use Rattle.sn_device.specs.Disk.{Disk, Always, IsSynced}
use Rattle.sn_device.specs.Crash.{LeavesOnly, Touches}
use Rattle.sn_layout.specs.declared.geometry.Slot.{Slot}
use Rattle.sn_layout.specs.declared.root.RootBody.{RootBody}
use Rattle.sn_model.specs.declared.change.Change.{Change}
use Rattle.sn_ondisk.specs.LogHalf.{HasNoLater, InHalf, base_of}
use Rattle.sn_ondisk.specs.Trees.{Store}
use Rattle.sn_log.specs.Positions.{IsReadyAt, LogPosition, first_of}
use Rattle.sn_opening.specs.Opens.{LieInData, Shows}
use Rattle.sn_opening.specs.Worlds.{all_reach}

-- A point begins where the log continues at this position. Whatever the answer, only the half of the next epoch was written, and where nothing was unsynced, a crash at any moment leaves the root with its records, none of them newer, and no later record at the first place of that half. At `Ok` the next epoch can be appended to from its first place on, whatever a crash leaves, and nothing is unsynced.
pub record Begins {T E : Type 0} (at : LogPosition) (result : Result T E) (old new : Disk) : Type 0 where
  pub touched : Touches (InHalf (base_of at.blocks (at.epoch + 1))) old new
  pub shown : (s : Store) (slot : Slot) (root : RootBody) (older : List Change) → IsSynced old → root.epoch ≡ at.epoch → LieInData at.blocks (all_reach s root)
      → Always old (Shows at.blocks s slot root older []) → LeavesOnly old new (Shows at.blocks s slot root older [])
  pub none_later : (epoch : ℕ) → IsSynced old → Always old (λ c. HasNoLater c (base_of at.blocks (at.epoch + 1)) epoch)
      → LeavesOnly old new (λ c. HasNoLater c (base_of at.blocks (at.epoch + 1)) epoch)
  pub ready : OnOk result (Always new (IsReadyAt (first_of at.blocks (at.epoch + 1)) []))
  pub synced : OnOk result (IsSynced new)
