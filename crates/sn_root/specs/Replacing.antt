-- What the three parts of replacing a root do. The slot is the one that is replaced, and the root that counts is in the other one.
use Rattle.std.specs.Prelude.{◌≡◌, ◌⊎◌, ℕ, ◌+◌, ◌<◌, List, Result, OnOk, slice_set}
use Rattle.sn_device.specs.Sectors.{Contents, Single, Union}
use Rattle.sn_device.specs.Disk.{Disk, reads, IsSynced, Always}
use Rattle.sn_device.specs.Crash.{Touches, LeavesOnly}
use Rattle.sn_layout.specs.declared.gate.Gate.{Gate}
use Rattle.sn_layout.specs.declared.gate.Gate.TheVariants.{Open, Closed}
use Rattle.sn_layout.specs.declared.geometry.Slot.{Slot}
use Rattle.sn_layout.specs.declared.root.RootBody.{RootBody}
use Rattle.sn_layout.specs.Gate.{gate_bytes}
use Rattle.sn_layout.specs.Geometry.{gate_sector, other_slot}
use Rattle.sn_block.specs.Effects.{Nowhere}
use Rattle.sn_ondisk.specs.Blocks.{InBlock}
use Rattle.sn_ondisk.specs.Gates.{IsOpen, IsClosed}
use Rattle.sn_ondisk.specs.LogHalf.{Replays, base_of}
use Rattle.sn_ondisk.specs.Roots.{body_block, HasRoot, IsNewest}
use Rattle.sn_ondisk.specs.Shown.{Shown}

-- what the writing of a gate leaves
abbrev pub with_gate : Slot → Gate → Contents → Contents
with_gate slot gate c = slice_set c (gate_sector slot) (gate_bytes gate)

-- An open gate is closed. One that is closed isn't written: a torn write of it might open it.
abbrev pub closed_from : Slot → Gate → Contents → Contents
closed_from slot Open c = with_gate slot Closed c
closed_from slot Closed c = c

-- the sectors that this writes
abbrev pub InClosing : Slot → Gate → ℕ → Type 0
InClosing slot Open = Single (gate_sector slot)
InClosing slot Closed = Nowhere

-- how many they are
abbrev pub closing_writes : Gate → ℕ
closing_writes Open = 1
closing_writes Closed = 0

-- Whatever the answer, no other sector was written. At `Ok` the gate is closed and synced.
pub record ClosesSlot {T E : Type 0} (slot : Slot) (gate : Gate) (result : Result T E) (old new : Disk) : Type 0 where
  pub touched : Touches (InClosing slot gate) old new
  pub done : OnOk result (reads new ≡ closed_from slot gate (reads old))
  pub synced : OnOk result (IsSynced new)
  pub closed : OnOk result (Always new (λ c. IsClosed c (gate_sector slot)))

-- Whatever the answer, only the body's block was written, and the gate stays closed. At `Ok` the body is there, synced.
pub record WritesBody {T E : Type 0} (slot : Slot) (next : RootBody) (result : Result T E) (old new : Disk) : Type 0 where
  pub touched : Touches (InBlock (body_block slot)) old new
  pub closed : Always new (λ c. IsClosed c (gate_sector slot))
  pub body : OnOk result (Always new (λ c. HasRoot c slot next))
  pub synced : OnOk result (IsSynced new)

-- Whatever the answer, no sector but the gate's was written. At `Ok` the gate is open and synced.
pub record OpensSlot {T E : Type 0} (slot : Slot) (result : Result T E) (old new : Disk) : Type 0 where
  pub touched : Touches (Single (gate_sector slot)) old new
  pub done : OnOk result (reads new ≡ with_gate slot Open (reads old))
  pub synced : OnOk result (IsSynced new)

-- A crash at any moment leaves the root that was newest, and the records on top of it.
pub record KeepsRoot (slot : Slot) (old new : Disk) : Type 0 where
  pub newest : (kept : Slot) (root : RootBody) → other_slot kept ≡ slot
      → Always old (λ c. IsNewest c kept root) → LeavesOnly old new (λ c. IsNewest c kept root)
  pub shown : (n : ℕ) (kept : Slot) (root : RootBody) (older newer : List (List ℕ)) → other_slot kept ≡ slot
      → Always old (λ c. Shown n c kept root older newer) → LeavesOnly old new (λ c. Shown n c kept root older newer)

-- Every crash leaves what was or what is to be, and after `Ok` every crash leaves what is to be.
pub record LeavesEither {T E : Type 0} (result : Result T E) (old new : Disk) (Was Is : Contents → Type 0) : Type 0 where
  pub any_moment : LeavesOnly old new (λ c. Was c ⊎ Is c)
  pub done : OnOk result (Always new Is)

-- A crash at any moment leaves the root that was newest with the records on top of it, or the next one with those of its own two epochs, and after `Ok` the next one.
pub record ChangesRoot {T E : Type 0} (slot : Slot) (next : RootBody) (result : Result T E) (old new : Disk) : Type 0 where
  pub newest : (kept : Slot) (root : RootBody) → other_slot kept ≡ slot → root.generation < next.generation
      → Always old (λ c. IsNewest c kept root)
      → LeavesEither result old new (λ c. IsNewest c kept root) (λ c. IsNewest c slot next)
  pub shown : (n : ℕ) (kept : Slot) (root : RootBody) (older newer third fourth : List (List ℕ)) → other_slot kept ≡ slot → root.generation < next.generation
      → Always old (λ c. Shown n c kept root older newer)
      → Always old (λ c. Replays c (base_of n next.epoch) next.epoch third)
      → Always old (λ c. Replays c (base_of n (next.epoch + 1)) (next.epoch + 1) fourth)
      → LeavesEither result old new (λ c. Shown n c kept root older newer) (λ c. Shown n c slot next third fourth)

-- the sectors of the slot's body and of its gate
abbrev pub InReplacing : Slot → ℕ → Type 0
InReplacing slot = Union (Single (gate_sector slot)) (InBlock (body_block slot))

-- Whatever the answer, no sector but those of the slot was written. At `Ok` the body is synced, after the open gate.
pub record ReplacesSlot {T E : Type 0} (slot : Slot) (next : RootBody) (result : Result T E) (old new : Disk) : Type 0 where
  pub touched : Touches (InReplacing slot) old new
  pub opened : OnOk result (IsOpen (reads new) (gate_sector slot))
  pub body : OnOk result (HasRoot (reads new) slot next)
  pub synced : OnOk result (IsSynced new)
