-- Where in the log reading or appending continues.
use Rattle.std.specs.Prelude.{◌≡◌, ℕ, ◌+◌, ◌*◌, ◌≤◌, List, length, map}
use Rattle.sn_device.specs.Sectors.{Contents}
use Rattle.sn_layout.specs.declared.geometry.LogHalf.{LogHalf}
use Rattle.sn_layout.specs.declared.geometry.Area.TheVariants.{Log}
use Rattle.sn_layout.specs.Geometry.{start_of}
use Rattle.sn_model.specs.declared.change.Change.{Change}
use Rattle.sn_ondisk.specs.LogHalf.{Leads, IsReady, base_of, place_after}
use Rattle.sn_record.specs.Payload.{payload_bytes}

-- On a disk of so many blocks: at this place of the half of this epoch, after so many records.
pub record LogPosition : Type 0 where
  pub blocks : ℕ
  pub epoch : ℕ
  pub place : ℕ
  pub count : ℕ

-- the first place of an epoch
abbrev pub first_of : ℕ → ℕ → LogPosition
first_of blocks epoch = record { blocks = blocks; epoch = epoch; place = 0; count = 0 }

-- the first sector of a half
abbrev pub half_base : ℕ → LogHalf → ℕ
half_base blocks half = 8 * start_of blocks (Log half)

-- the first sector of the half that the position is in
abbrev pub base_at : LogPosition → ℕ
base_at at = base_of at.blocks at.epoch

-- the payloads of changes
abbrev pub payloads_of : List Change → List (List ℕ)
payloads_of changes = map payload_bytes changes

-- there is room for the record of a change, and for the gate after it
abbrev pub HasRoom : LogPosition → Change → Type 0
HasRoom at change = place_after at.place (payload_bytes change) ≤ 255

-- the position after the record of a change
abbrev pub behind : LogPosition → Change → LogPosition
behind at change = record at { place = place_after at.place (payload_bytes change); count = at.count + 1 }

-- The records of these changes, one after the other, are those of the epoch up to the position.
pub record IsBehind (at : LogPosition) (changes : List Change) (c : Contents) : Type 0 where
  pub count : at.count ≡ length changes
  pub leads : Leads c (base_at at) at.epoch 0 0 (payloads_of changes) at.place

-- The records of these changes are those of the epoch, and the gate at the position after them is closed: what an append needs.
pub record IsReadyAt (at : LogPosition) (changes : List Change) (c : Contents) : Type 0 where
  pub count : at.count ≡ length changes
  pub ready : IsReady c (base_at at) at.epoch (payloads_of changes) at.place
