-- What a disk shows after the write of one gate, as laws on two contents that agree outside that sector: they hold of a write that a crash tore as of one that was done.
use Rattle.std.specs.Prelude.{◌⊎◌, ℕ, ◌+◌, List, [], ◌∷◌, ◌++◌, length}
use Rattle.sn_device.specs.Sectors.{Contents, AreSectors, AgreesOutside, Single, Stretch}
use Rattle.sn_device.specs.Disk.{Disk, Always, reads}
use Rattle.sn_device.specs.Crash.{Touches, LeavesOnly}
use Rattle.sn_layout.specs.declared.geometry.Slot.{Slot}
use Rattle.sn_layout.specs.declared.root.RootBody.{RootBody}
use Rattle.sn_layout.specs.Geometry.{gate_sector, other_slot}
use Rattle.sn_ondisk.specs.Blocks.{InBlock}
use Rattle.sn_ondisk.specs.Gates.{IsOpen, IsClosed}
use Rattle.sn_ondisk.specs.Roots.{body_block, IsNewest, HasNext}
use Rattle.sn_ondisk.specs.LogHalf.{HasRecord, IsReady, HasPending, Stops, ReplaysTo, Replays, HasNoLater, place_after, body_sectors, base_of, cleared_sector}
use Rattle.sn_ondisk.specs.Shown.{Shown}

-- With any bytes in the gate of a record that is written but doesn't count, the record is there as a whole or not at all.
abbrev pub GateAddsOneOrNone : Type 0
GateAddsOneOrNone = (c d : Contents) (base epoch place : ℕ) (payloads : List (List ℕ)) (payload : List ℕ)
    → HasPending c base epoch payloads place payload
    → AgreesOutside (Single (base + place)) c d
    → IsReady d base epoch payloads place ⊎ IsReady d base epoch (payloads ++ payload ∷ []) (place_after place payload)

-- Where that gate is then open, the record is there.
abbrev pub OpenGateAddsOne : Type 0
OpenGateAddsOne = (c d : Contents) (base epoch place : ℕ) (payloads : List (List ℕ)) (payload : List ℕ)
    → HasPending c base epoch payloads place payload
    → AgreesOutside (Single (base + place)) c d
    → IsOpen d (base + place)
    → IsReady d base epoch (payloads ++ payload ∷ []) (place_after place payload)

-- A record is appended: its body and the next gate, closed, are written after the closed gate and synced, and then the gate alone is written. A crash at any moment leaves the records as they were, or with the new one after them.
abbrev pub AppendAddsOneOrNone : Type 0
AppendAddsOneOrNone = (base epoch place : ℕ) (payloads : List (List ℕ)) (payload : List ℕ) (old mid new : Disk)
    → AreSectors (reads old)
    → AreSectors (reads mid)
    → Always old (λ c. IsReady c base epoch payloads place)
    → Touches (Stretch (base + place + 1) (body_sectors payload + 1)) old mid
    → Always mid (λ c. HasRecord c base epoch place (length payloads) payload × IsClosed c (base + place_after place payload))
    → Touches (Single (base + place)) mid new
    → LeavesOnly old new (λ c. IsReady c base epoch payloads place ⊎ IsReady c base epoch (payloads ++ payload ∷ []) (place_after place payload))

-- An epoch that stops at a place stops there with any bytes in the sector that is written to clear it.
abbrev pub ClearingStops : Type 0
ClearingStops = (c d : Contents) (base epoch place : ℕ)
    → Stops c base epoch place
    → AgreesOutside (Single (cleared_sector c base place)) c d
    → Stops d base epoch place

-- So clearing the place after the last record leaves the records.
abbrev pub ClearingKeepsTheRecords : Type 0
ClearingKeepsTheRecords = (c d : Contents) (base epoch place : ℕ) (payloads : List (List ℕ))
    → ReplaysTo c base epoch payloads place
    → AgreesOutside (Single (cleared_sector c base place)) c d
    → ReplaysTo d base epoch payloads place

-- And clearing the first place adds no later record there.
abbrev pub ClearingAddsNoLater : Type 0
ClearingAddsNoLater = (c d : Contents) (base epoch : ℕ)
    → HasNoLater c base epoch
    → AgreesOutside (Single (cleared_sector c base 0)) c d
    → HasNoLater d base epoch

-- With any bytes in the gate of an older root that was open, the newest root stays. After a closed gate there may be a root that never counted, so that one isn't closed again.
abbrev pub ClosingKeepsTheRoot : Type 0
ClosingKeepsTheRoot = (c d : Contents) (slot : Slot) (root : RootBody)
    → IsNewest c slot root → IsOpen c (gate_sector (other_slot slot))
    → AgreesOutside (Single (gate_sector (other_slot slot))) c d
    → IsNewest d slot root

-- After a closed gate a root body may be written: with any bytes in its block, the newest root stays. After an open one a torn body would leave no newest root.
abbrev pub BodyKeepsTheRoot : Type 0
BodyKeepsTheRoot = (c d : Contents) (slot : Slot) (root : RootBody)
    → IsNewest c slot root → IsClosed c (gate_sector (other_slot slot))
    → AgreesOutside (InBlock (body_block (other_slot slot))) c d
    → IsNewest d slot root

-- With any bytes in the gate of a newer root, the newest root is the old one or the new one.
abbrev pub OpeningChangesTheRootOrNot : Type 0
OpeningChangesTheRootOrNot = (c d : Contents) (slot : Slot) (root next : RootBody)
    → HasNext c slot root next
    → AgreesOutside (Single (gate_sector (other_slot slot))) c d
    → IsNewest d slot root ⊎ IsNewest d (other_slot slot) next

-- Where that gate is then open, it is the new one.
abbrev pub OpenRootIsNewest : Type 0
OpenRootIsNewest = (c d : Contents) (slot : Slot) (root next : RootBody)
    → HasNext c slot root next
    → AgreesOutside (Single (gate_sector (other_slot slot))) c d
    → IsOpen d (gate_sector (other_slot slot))
    → IsNewest d (other_slot slot) next

-- And with the records: the disk shows the old root with its records, or the new one with the records of its own two epochs. That those are found is asked, since a misspelt record would leave the new root without a list.
abbrev pub OpeningShowsEither : Type 0
OpeningShowsEither = (n : ℕ) (c d : Contents) (slot : Slot) (root next : RootBody) (first second third fourth : List (List ℕ))
    → Shown n c slot root first second
    → HasNext c slot root next
    → Replays c (base_of n next.epoch) next.epoch third
    → Replays c (base_of n (next.epoch + 1)) (next.epoch + 1) fourth
    → AgreesOutside (Single (gate_sector (other_slot slot))) c d
    → Shown n d slot root first second ⊎ Shown n d (other_slot slot) next third fourth

-- With any bytes in the gate of an older root that was open, the disk shows the same.
abbrev pub ClosingShowsTheSame : Type 0
ClosingShowsTheSame = (n : ℕ) (c d : Contents) (slot : Slot) (root : RootBody) (older newer : List (List ℕ))
    → Shown n c slot root older newer → IsOpen c (gate_sector (other_slot slot))
    → AgreesOutside (Single (gate_sector (other_slot slot))) c d
    → Shown n d slot root older newer

-- And so it does with any bytes in the body of a closed slot.
abbrev pub BodyShowsTheSame : Type 0
BodyShowsTheSame = (n : ℕ) (c d : Contents) (slot : Slot) (root : RootBody) (older newer : List (List ℕ))
    → Shown n c slot root older newer → IsClosed c (gate_sector (other_slot slot))
    → AgreesOutside (InBlock (body_block (other_slot slot))) c d
    → Shown n d slot root older newer

-- With any bytes in the gate of a record of the root's epoch, the disk shows the records as they were, or with that one after the older ones.
abbrev pub AppendShowsOneMore : Type 0
AppendShowsOneMore = (n : ℕ) (c d : Contents) (slot : Slot) (root : RootBody) (older newer : List (List ℕ)) (place : ℕ) (payload : List ℕ)
    → Shown n c slot root older newer
    → HasPending c (base_of n root.epoch) root.epoch older place payload
    → AgreesOutside (Single (base_of n root.epoch + place)) c d
    → Shown n d slot root older newer ⊎ Shown n d slot root (older ++ payload ∷ []) newer

-- And of the next epoch, after the newer ones.
abbrev pub AppendShowsOneNewer : Type 0
AppendShowsOneNewer = (n : ℕ) (c d : Contents) (slot : Slot) (root : RootBody) (older newer : List (List ℕ)) (place : ℕ) (payload : List ℕ)
    → Shown n c slot root older newer
    → HasPending c (base_of n (root.epoch + 1)) (root.epoch + 1) newer place payload
    → AgreesOutside (Single (base_of n (root.epoch + 1) + place)) c d
    → Shown n d slot root older newer ⊎ Shown n d slot root older (newer ++ payload ∷ [])
