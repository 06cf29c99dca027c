-- What a device has on it, moment by moment, and what a crash may leave.
use Rattle.std.specs.Prelude.{◌≡◌, ◌⊎◌, ℕ, ◌-◌, List, [], ◌∷◌, length, take, slice_set, Contains}
use Rattle.sn_device.specs.Sectors.{Contents, AreSectors, IsSector, AgreesOutside}

-- what reads give at one moment, and which sectors were written or tried since the last sync that succeeded
pub record Moment : Type 0 where
  pub sectors : Contents
  pub unsynced : List ℕ

-- the present moment of a device, and those before it, of which the newest comes first
pub record Disk : Type 0 where
  pub present : Moment
  pub past : List Moment

-- each write and each sync, failed or not, advances the clock by one
abbrev pub clock : Disk → ℕ
clock d = length d.past

-- what reads give now
abbrev pub reads : Disk → Contents
reads d = d.present.sectors

-- nothing was written or tried since the last sync that succeeded
abbrev pub IsSynced : Disk → Type 0
IsSynced d = d.present.unsynced ≡ []

-- the disk after a call that leads to this moment
abbrev pub next : Disk → Moment → Disk
next d m = record { present = m; past = d.present ∷ d.past }

-- the moment after a write or a try that leaves these bytes in a sector
abbrev pub written : ℕ → List ℕ → Moment → Moment
written at bytes m = record { sectors = slice_set m.sectors at bytes; unsynced = at ∷ m.unsynced }

-- the moment after a sync that succeeds
abbrev pub synced : Moment → Moment
synced m = record { sectors = m.sectors; unsynced = [] }

-- a write that failed: the sector reads as some bytes from then on
abbrev pub TriedWrite : ℕ → Disk → Disk → Type 0
TriedWrite at old new = (bytes : List ℕ) × IsSector bytes × (new ≡ next old (written at bytes old.present))

-- What a crash at a moment may leave: any bytes in the unsynced sectors, and in the others what reads give.
pub record MayLeave (m : Moment) (c : Contents) : Type 0 where
  pub others : AgreesOutside (Contains m.unsynced) m.sectors c
  pub whole : AreSectors c

-- what a crash now may leave
abbrev pub CrashNow : Disk → Contents → Type 0
CrashNow d c = MayLeave d.present c

-- every content that a crash may leave now has P
abbrev pub Always : Disk → (Contents → Type 0) → Type 0
Always d P = (c : Contents) → CrashNow d c → P c

-- a crash at one of these moments may leave this
abbrev pub MayLeaveAtOne : List Moment → Contents → Type 0
MayLeaveAtOne [] c = ⊥
MayLeaveAtOne (m ∷ ms) c = MayLeave m c ⊎ MayLeaveAtOne ms c

-- what a crash at some moment since the clock was t might have left, or may leave now
abbrev pub CrashSince : Disk → ℕ → Contents → Type 0
CrashSince d t c = MayLeaveAtOne (d.present ∷ take (clock d - t) d.past) c
