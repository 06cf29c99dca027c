-- What replay finds at a position.
use Rattle.std.specs.Prelude.{◌≡◌, ℕ, ◌+◌, ◌/◌, Bool, false, IsTrue, Option, Some, None, List, [], ◌∷◌, length, take, drop}
use Rattle.sn_device.specs.Sectors.{Contents}
use Rattle.sn_model.specs.declared.change.Change.{Change as TheChange}
use Rattle.sn_ondisk.specs.Gates.{IsOpen}
use Rattle.sn_ondisk.specs.LogHalf.{HasRecord, Stops}
use Rattle.sn_record.specs.Payload.{IsSpelled, payload_bytes}
use Rattle.sn_log.specs.Positions.{LogPosition, base_at, behind}
use Rattle.sn_log.specs.declared.replay.NextRecord.{NextRecord}
use Rattle.sn_log.specs.declared.replay.NextRecord.TheVariants.{Change, End, Misspelt}

-- after the gate at the position is a record with this payload, as the next of its epoch
abbrev pub HasNext : Contents → LogPosition → List ℕ → Type 0
HasNext c at payload = HasRecord c (base_at at) at.epoch at.place at.count payload

-- A change is found where its record is after an open gate, the end where replay stops, and a misspelt record where it doesn't stop and no change has its record.
abbrev pub Finds : Contents → LogPosition → NextRecord → Type 0
Finds c at (Change change) = IsOpen c (base_at at + at.place) × IsSpelled change × HasNext c at (payload_bytes change)
Finds c at End = Stops c (base_at at) at.epoch at.place
Finds c at (Misspelt block) =
    (Stops c (base_at at) at.epoch at.place → ⊥) × ((change : TheChange) → IsSpelled change → HasNext c at (payload_bytes change) → ⊥) × (block ≡ (base_at at + at.place) / 8)

-- what was found, as the changes that it adds
abbrev pub changes_in : NextRecord → List TheChange
changes_in (Change change) = change ∷ []
changes_in End = []
changes_in (Misspelt block) = []

-- the position after what was found there
abbrev pub position_after : LogPosition → NextRecord → LogPosition
position_after at (Change change) = behind at change
position_after at End = at
position_after at (Misspelt block) = at

-- Where replay stops, nothing. Else the gate is open, and the size is that of each payload that may be there.
abbrev pub Looks : Contents → LogPosition → Option ℕ → Type 0
Looks c at None = Stops c (base_at at) at.epoch at.place
Looks c at (Some size) =
    IsOpen c (base_at at + at.place) × (Stops c (base_at at) at.epoch at.place → ⊥) × ((payload : List ℕ) → HasNext c at payload → length payload ≡ size)

-- A body of this size was found, whose payload is in the room after the head. Else there is none.
pub record Fills (c : Contents) (at : LogPosition) (size : ℕ) (room : List ℕ) (is_body : Bool) : Type 0 where
  pub found : IsTrue is_body → HasNext c at (take size (drop 16 room))
  pub none : is_body ≡ false → (payload : List ℕ) → length payload ≡ size → HasNext c at payload → ⊥
