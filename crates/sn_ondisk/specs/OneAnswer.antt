-- Each reading of a disk has one answer.
use Rattle.std.specs.Prelude.{◌≡◌, ℕ, ◌+◌, ◌^◌, ◌<◌, ◌≤◌, List, [], length}
use Rattle.sn_device.specs.Sectors.{Contents, AreSectors}
use Rattle.sn_layout.specs.declared.geometry.Slot.{Slot}
use Rattle.sn_layout.specs.declared.root.RootBody.{RootBody}
use Rattle.sn_ondisk.specs.LogHalf.{HasRecord, IsReady, ReplaysTo, HasNoLater, epoch_at, base_of}
use Rattle.sn_ondisk.specs.Roots.{HasRoot, IsNewest}
use Rattle.sn_ondisk.specs.Shown.{Shown}

-- At a place is one record at most, whatever the epoch and the number that it is read with.
abbrev pub RecordIsOne : Type 0
RecordIsOne = (c : Contents) (base place epoch age sequence number : ℕ) (payload other : List ℕ)
    → HasRecord c base epoch place sequence payload → HasRecord c base age place number other → payload ≡ other

-- Where an append can continue, replay finds the same records, and ends there.
abbrev pub ReadyIsReplayed : Type 0
ReadyIsReplayed = (c : Contents) (base epoch place : ℕ) (payloads : List (List ℕ)) → IsReady c base epoch payloads place → ReplaysTo c base epoch payloads place

-- A half that is on the disk. In sectors of another length a record's first bytes needn't be in its first sector, where replay looks for its epoch.
pub record IsOnDisk (c : Contents) (base : ℕ) : Type 0 where
  pub whole : AreSectors c
  pub within : base + 256 ≤ length c

-- Replay of an epoch finds one list of records, and ends at one place.
abbrev pub ReplayIsOne : Type 0
ReplayIsOne = (c : Contents) (base epoch end stop : ℕ) (payloads others : List (List ℕ)) → IsOnDisk c base
    → ReplaysTo c base epoch payloads end → ReplaysTo c base epoch others stop → (payloads ≡ others) × (end ≡ stop)

-- A record has its epoch at its place, if the epoch fits its eight bytes: greater ones are spelled like lesser.
abbrev pub RecordHasItsEpoch : Type 0
RecordHasItsEpoch = (c : Contents) (base epoch place sequence : ℕ) (payload : List ℕ) → IsOnDisk c base → epoch < 256 ^ 8
    → HasRecord c base epoch place sequence payload → epoch_at c base place ≡ epoch

-- Where the first place has no later record, replay of a later epoch finds nothing. Of the same epoch it may find one.
abbrev pub LaterReplaysNothing : Type 0
LaterReplaysNothing = (c : Contents) (base epoch later : ℕ) → HasNoLater c base epoch → epoch < later → later < 256 ^ 8 → ReplaysTo c base later [] 0

-- A slot has one root body.
abbrev pub RootIsOne : Type 0
RootIsOne = (c : Contents) (slot : Slot) (root other : RootBody) → HasRoot c slot root → HasRoot c slot other → root ≡ other

-- A disk has one newest root.
abbrev pub NewestIsOne : Type 0
NewestIsOne = (c : Contents) (slot place : Slot) (root other : RootBody) → IsNewest c slot root → IsNewest c place other → (slot ≡ place) × (root ≡ other)

-- These are the same root, in the same slot, with the same records on top of it.
pub record AreOne (slot place : Slot) (root other : RootBody) (older newer first second : List (List ℕ)) : Type 0 where
  pub slots : slot ≡ place
  pub roots : root ≡ other
  pub olders : older ≡ first
  pub newers : newer ≡ second

-- A disk that has both log halves shows one root with one list of records.
abbrev pub ShownIsOne : Type 0
ShownIsOne = (n : ℕ) (c : Contents) (slot place : Slot) (root other : RootBody) (older newer first second : List (List ℕ)) → IsOnDisk c (base_of n root.epoch) → IsOnDisk c (base_of n (root.epoch + 1))
    → Shown n c slot root older newer → Shown n c place other first second → AreOne slot place root other older newer first second
