-- What a write to the log leaves of what a disk opens to. Touched is one half; the root, the other half and the blocks that the root reaches stay.
use Rattle.std.specs.Prelude.{◌≡◌, ◌⊎◌, ℕ, ◌+◌, ◌^◌, ◌<◌, List, [], ◌∷◌, ◌++◌}
use Rattle.sn_device.specs.Sectors.{Contents, AreSectors}
use Rattle.sn_device.specs.Disk.{Disk, Always, reads}
use Rattle.sn_device.specs.Crash.{LeavesOnly, Touches}
use Rattle.sn_layout.specs.declared.geometry.Slot.{Slot}
use Rattle.sn_layout.specs.declared.root.RootBody.{RootBody}
use Rattle.sn_model.specs.declared.change.Change.{Change}
use Rattle.sn_model.specs.World.{World}
use Rattle.sn_record.specs.Payload.{IsSpelled}
use Rattle.sn_log.specs.Positions.{LogPosition, IsReadyAt, base_at, behind}
use Rattle.sn_ondisk.specs.LogHalf.{ReplaysTo, HasNoLater, InHalf, base_of}
use Rattle.sn_ondisk.specs.Trees.{Store}
use Rattle.sn_opening.specs.Spelled.{AreSpelled}
use Rattle.sn_opening.specs.Worlds.{StandsFor, all_reach}
use Rattle.sn_opening.specs.Opens.{LieInData, Opens, Shows}

-- the records are those of these changes, or of one more
abbrev pub IsReadyOrOneMore : LogPosition → List Change → Change → Contents → Type 0
IsReadyOrOneMore at changes change c = IsReadyAt at changes c ⊎ IsReadyAt (behind at change) (changes ++ change ∷ []) c

-- Where no point is in progress a call is logged under the root's own epoch. A crash on the way leaves the world from before it or the one after it.
abbrev pub OlderAppendOpensEither : Type 0
OlderAppendOpensEither = (n : ℕ) (s : Store) (slot : Slot) (root : RootBody) (older : List Change) (change : Change) (at : LogPosition) (world after : World) (old new : Disk)
    → AreSectors (reads old) → at.blocks ≡ n → at.epoch ≡ root.epoch → LieInData n (all_reach s root)
    → AreSpelled older → IsSpelled change
    → StandsFor s root older world → StandsFor s root (older ++ change ∷ []) after
    → Always old (Shows n s slot root older []) → Touches (InHalf (base_at at)) old new
    → LeavesOnly old new (IsReadyOrOneMore at older change)
    → LeavesOnly old new (λ c. Opens n c world ⊎ Opens n c after)

-- Between two steps of a point it is logged under the next epoch, and it is the same.
abbrev pub NewerAppendOpensEither : Type 0
NewerAppendOpensEither = (n : ℕ) (s : Store) (slot : Slot) (root : RootBody) (older newer : List Change) (change : Change) (at : LogPosition) (world after : World) (old new : Disk)
    → AreSectors (reads old) → at.blocks ≡ n → at.epoch ≡ root.epoch + 1 → LieInData n (all_reach s root)
    → AreSpelled older → AreSpelled newer → IsSpelled change
    → StandsFor s root (older ++ newer) world → StandsFor s root ((older ++ newer) ++ change ∷ []) after
    → Always old (Shows n s slot root older newer) → Touches (InHalf (base_at at)) old new
    → LeavesOnly old new (IsReadyOrOneMore at newer change)
    → LeavesOnly old new (λ c. Opens n c world ⊎ Opens n c after)

-- Records of the root's epoch that an append can follow, whatever a crash leaves, are shown.
abbrev pub OlderRecordsShow : Type 0
OlderRecordsShow = (n : ℕ) (s : Store) (slot : Slot) (root : RootBody) (older newer changes : List Change) (at : LogPosition) (old new : Disk)
    → AreSectors (reads old) → at.blocks ≡ n → at.epoch ≡ root.epoch → LieInData n (all_reach s root)
    → Always old (Shows n s slot root older newer) → Touches (InHalf (base_at at)) old new
    → Always new (IsReadyAt at changes)
    → Always new (Shows n s slot root changes newer)

-- And so those of the next epoch.
abbrev pub NewerRecordsShow : Type 0
NewerRecordsShow = (n : ℕ) (s : Store) (slot : Slot) (root : RootBody) (older newer changes : List Change) (at : LogPosition) (old new : Disk)
    → AreSectors (reads old) → at.blocks ≡ n → at.epoch ≡ root.epoch + 1 → LieInData n (all_reach s root)
    → Always old (Shows n s slot root older newer) → Touches (InHalf (base_at at)) old new
    → Always new (IsReadyAt at changes)
    → Always new (Shows n s slot root older changes)

-- Last in a mount the first place of the half of the root's epoch is cleared, in which replay found nothing. At each moment the disk shows the root alone.
abbrev pub ClearingShows : Type 0
ClearingShows = (n : ℕ) (s : Store) (slot : Slot) (root : RootBody) (old new : Disk) → AreSectors (reads old) → LieInData n (all_reach s root)
    → Always old (Shows n s slot root [] []) → Touches (InHalf (base_of n root.epoch)) old new
    → LeavesOnly old new (λ c. ReplaysTo c (base_of n root.epoch) root.epoch [] 0)
    → LeavesOnly old new (Shows n s slot root [] [])

-- Two epochs on the records are in the same half again, and where its first place has none later than the first epoch, replay finds nothing there: so the next root begins with an empty list.
abbrev pub NothingTwoOn : Type 0
NothingTwoOn = (n epoch : ℕ) (c : Contents) → epoch + 2 < 256 ^ 8 → HasNoLater c (base_of n epoch) epoch → ReplaysTo c (base_of n (epoch + 2)) (epoch + 2) [] 0
