-- What a whole point makes of a mount.
use Rattle.std.specs.FinMap as map
use Rattle.std.specs.Prelude.{◌≡◌, ◌⊎◌, ℕ, ◌+◌, ◌*◌, ◌<◌, ◌≤◌, true, false, Result, Ok, Err, IfErr, IsTrue, OnOk}
use Rattle.sn_alloc.specs.Taking.{free_data}
use Rattle.sn_block.specs.Counts.{FailsRead, IsLater, called}
use Rattle.sn_device.specs.Disk.{Disk}
use Rattle.sn_device.specs.Crash.{LeavesOnly}
use Rattle.sn_device.specs.Status.{has_ended}
use Rattle.sn_device.specs.declared.status.Status.{Status}
use Rattle.sn_layout.specs.declared.gate.Gate.{Gate}
use Rattle.sn_layout.specs.declared.gate.Gate.TheVariants.{Open}
use Rattle.sn_layout.specs.declared.geometry.Area.TheVariants.{Data}
use Rattle.sn_layout.specs.Geometry.{map_blocks, start_of}
use Rattle.sn_log.specs.Positions.{LogPosition}
use Rattle.sn_limits.specs.Versions.{limits_written}
use Rattle.sn_model.specs.declared.outcome.AskedPoint.{AskedPoint}
use Rattle.sn_model.specs.declared.outcome.AskedPoint.TheVariants.{Unasked, Plain, Freezes, Thaws, Restores}
use Rattle.sn_model.specs.Steps.{pointed}
use Rattle.sn_model.specs.World.{World}
use Rattle.sn_overlay.specs.declared.overlay.Overlay.{Overlay}
use Rattle.sn_held.specs.Rooms.{RoomCounts, fresh}
use Rattle.sn_root.specs.Replacing.{closing_writes}
use Rattle.sn_held.specs.Held.{Held, Kept, RunsReady}
use Rattle.sn_cp.specs.Counting.{root_steps}
use Rattle.sn_cp_progress.specs.Meaning.{EitherImage}
use Rattle.sn_cp_whole.specs.declared.fault.PointFault.{PointFault}
use Rattle.sn_cp_whole.specs.declared.fault.PointFault.TheVariants.{Memory, Age, Read, Damaged, Device}

-- a mount with this log, room and disk
abbrev pub with_parts : Held → LogPosition → RoomCounts → Disk → Held
with_parts h at room disk = record h { at = at; room = room; disk = disk }

-- over this world
abbrev pub over_world : World → Held → Held
over_world world h = record h { world = world }

-- what is asked for can be made of the snapshots: the name of a new one is free, and there may be one more; the one that is deleted is
-- there. What bringing a snapshot back needs is defined separately (`CanBeRestored`).
abbrev pub CanBeAsked : AskedPoint → World → Type 0
CanBeAsked Unasked world = Unit {0}
CanBeAsked Plain world = Unit {0}
CanBeAsked (Freezes name) world = (map.contains_key world.frozen name ≡ false) × (map.len world.frozen < limits_written.snapshots)
CanBeAsked (Thaws name) world = map.contains_key world.frozen name ≡ true
CanBeAsked (Restores name) world = ⊥

-- At `Ok` the mount runs on over the next root, with the snapshots that were asked for, and a crash at any moment on the way leaves an image of the settled world from before or of the one from after; so it does where the device failed. Otherwise nothing was written. What is read can always be used, and is never too much for what is free.
abbrev pub MakesPoint : Result Overlay PointFault → AskedPoint → World → Disk → Held → Kept → Type 0
MakesPoint (Ok _) asked world old new kept = LeavesOnly old new.disk (EitherImage world (pointed asked world)) × RunsReady (over_world (pointed asked world) new) (pointed asked world) kept
MakesPoint (Err Memory) asked world old new kept = new.disk ≡ old
MakesPoint (Err Age) asked world old new kept = new.disk ≡ old
MakesPoint (Err Read) asked world old new kept = new.disk ≡ old
MakesPoint (Err Damaged) asked world old new kept = ⊥
MakesPoint (Err Device) asked world old new kept = LeavesOnly old new.disk (EitherImage world (pointed asked world))

-- the room after a point: what is free by the new map, with nothing charged and nothing dropped
abbrev pub room_over : ℕ → Kept → RoomCounts
room_over n kept = fresh (free_data kept.words (start_of n Data))

-- ---- what it costs

-- the writes of a point of this many new blocks on a disk of n blocks, into a slot whose gate is this: one that begins it, eight
-- a block of data or map, and those of the root
abbrev pub writes_of_point : ℕ → Gate → ℕ → ℕ
writes_of_point n gate count = 1 + (8 * count + 8 * map_blocks n + (closing_writes gate + 9))

-- its syncs: one that begins it, one after the map, and one each part of the root
abbrev pub syncs_of_point : Gate → ℕ
syncs_of_point gate = 2 + root_steps gate

-- the most of both, where a slot's gate is open
abbrev pub most_writes : ℕ → ℕ → ℕ
most_writes n count = writes_of_point n Open count

abbrev pub most_syncs : ℕ
most_syncs = syncs_of_point Open

-- why it isn't made: nothing was called but a read that failed, or the device failed
abbrev pub HasCauseFor : PointFault → Status → Status → Type 0
HasCauseFor Memory old new = new ≡ old
HasCauseFor Age old new = new ≡ old
HasCauseFor Read old new = FailsRead old new
HasCauseFor Damaged old new = new ≡ old
HasCauseFor Device old new = (old.failures < new.failures) ⊎ IsTrue (has_ended new)

-- What a point costs that may have this many new blocks.
pub record CostsPoint {T : Type 0} (result : Result T PointFault) (n most : ℕ) (old new : Status) : Type 0 where
  pub done : OnOk result ((count : ℕ) × (count ≤ most) × (gate : Gate) × (new ≡ called (writes_of_point n gate count) (syncs_of_point gate) old))
  pub later : IsLater old new
  pub writes : new.writes ≤ old.writes + most_writes n most
  pub syncs : new.syncs ≤ old.syncs + most_syncs
  pub cause : IfErr result (λ fault. HasCauseFor fault old new)
