-- A half of the log, 256 sectors from `base` on, as the records of one epoch. A place is counted in sectors from there. At a place is a record's gate, after it the body, and after that the next gate.
use Rattle.std.specs.Prelude.{◌≡◌, ◌≢◌, ◌⊎◌, ℕ, ◌+◌, ◌-◌, ◌*◌, ◌/◌, ◌≤◌, ◌==◌, nat_le, ◌||◌, if◌then◌else◌, List, [], ◌∷◌, ◌++◌, length, take}
use Rattle.byteorder.specs.Endian.{little_number}
use Rattle.sn_device.specs.Sectors.{Contents, sector_at, Stretch}
use Rattle.sn_layout.specs.declared.geometry.Area.TheVariants.{Log}
use Rattle.sn_layout.specs.Bytes.{number_bytes, zeros}
use Rattle.sn_layout.specs.Geometry.{start_of, half_of_epoch}
use Rattle.sn_ondisk.specs.Blocks.{bytes_at}
use Rattle.sn_ondisk.specs.Gates.{gate_at, IsOpen, IsClosed}

-- the first sector of the half that an epoch's records are in, on a disk of n blocks
abbrev pub base_of : ℕ → ℕ → ℕ
base_of n epoch = 8 * start_of n (Log (half_of_epoch epoch))

-- the sectors of a half
abbrev pub InHalf : ℕ → ℕ → Type 0
InHalf base = Stretch base 256

-- how many sectors the body of a record takes
abbrev pub body_sectors : List ℕ → ℕ
body_sectors payload = (16 + length payload + 511) / 512

-- the place of the next gate
abbrev pub place_after : ℕ → List ℕ → ℕ
place_after place payload = place + body_sectors payload + 1

-- the spelling of a body: its epoch, how many records are before it in the half, the length of the payload, the payload, and zeros to the end of the last sector
abbrev pub body_bytes : ℕ → ℕ → List ℕ → List ℕ
body_bytes epoch sequence payload =
    number_bytes 8 epoch ++ number_bytes 4 sequence ++ number_bytes 4 (length payload) ++ payload ++ zeros (512 * body_sectors payload - (16 + length payload))

-- After the gate at a place there is room for this record, and its body is there, whether or not the gate is open.
pub record HasRecord (c : Contents) (base epoch place sequence : ℕ) (payload : List ℕ) : Type 0 where
  pub least : 1 ≤ length payload
  pub most : length payload ≤ 65547
  pub room : place_after place payload ≤ 255
  pub bytes : bytes_at c (base + place + 1) (body_sectors payload) ≡ body_bytes epoch sequence payload

-- From a place on these records follow one another, each after an open gate, and the place after the last is `end`.
abbrev pub Leads : Contents → ℕ → ℕ → ℕ → ℕ → List (List ℕ) → ℕ → Type 0
Leads c base epoch place sequence [] end = end ≡ place
Leads c base epoch place sequence (payload ∷ payloads) end =
    IsOpen c (base + place) × HasRecord c base epoch place sequence payload × Leads c base epoch (place_after place payload) (sequence + 1) payloads end

-- Replay of the epoch goes no further than this place: there is no room for a record, the gate is closed, or after it is another epoch.
abbrev pub Stops : Contents → ℕ → ℕ → ℕ → Type 0
Stops c base epoch place = (254 ≤ place) ⊎ (IsClosed c (base + place) ⊎ (take 8 (sector_at c (base + place + 1)) ≢ number_bytes 8 epoch))

-- Replay of the epoch finds these records and ends at this place.
pub record ReplaysTo (c : Contents) (base epoch : ℕ) (payloads : List (List ℕ)) (end : ℕ) : Type 0 where
  pub leads : Leads c base epoch 0 0 payloads end
  pub stops : Stops c base epoch end

-- Replay of the epoch finds these records.
abbrev pub Replays : Contents → ℕ → ℕ → List (List ℕ) → Type 0
Replays c base epoch payloads = (end : ℕ) × ReplaysTo c base epoch payloads end

-- What an append needs: the half has these records from its first place on, all of them open, and the gate at the place after them is closed.
pub record IsReady (c : Contents) (base epoch : ℕ) (payloads : List (List ℕ)) (place : ℕ) : Type 0 where
  pub leads : Leads c base epoch 0 0 payloads place
  pub closed : IsClosed c (base + place)

-- A record that is written but doesn't count: its body is after the closed gate of the place where it is next, and the gate after it is closed. Once its own gate opens, it counts.
pub record HasPending (c : Contents) (base epoch : ℕ) (payloads : List (List ℕ)) (place : ℕ) (payload : List ℕ) : Type 0 where
  pub ready : IsReady c base epoch payloads place
  pub body : HasRecord c base epoch place (length payloads) payload
  pub shut : IsClosed c (base + place_after place payload)

-- the epoch after the gate at a place
abbrev pub epoch_at : Contents → ℕ → ℕ → ℕ
epoch_at c base place = little_number 8 (sector_at c (base + place + 1))

-- At the first place of the half is no record of an epoch later than this one.
abbrev pub HasNoLater : Contents → ℕ → ℕ → Type 0
HasNoLater c base epoch = IsClosed c base ⊎ (epoch_at c base 0 ≤ epoch)

-- The sector that is written to clear a place: its gate if that is open or no record has room there, and else the first sector of the body after it, since a write that closes a closed gate may open it.
abbrev pub cleared_sector : Contents → ℕ → ℕ → ℕ
cleared_sector c base place =
    if (gate_at c (base + place) == 1) || nat_le 254 place then base + place else base + place + 1
