-- A change that is appended to the log and then applied to the live tree.
use Rattle.std.specs.Prelude.{◌≡◌, ℕ, Bool, true, false, Option, Some, Result, Ok, Err}
use Rattle.sn_device.specs.Sectors.{AreSectors}
use Rattle.sn_device.specs.Disk.{IsSynced, reads}
use Rattle.sn_device.specs.Crash.{Touches}
use Rattle.sn_limits.specs.Versions.{limits_written}
use Rattle.sn_model.specs.declared.change.Change.{Change}
use Rattle.sn_model.specs.Changes.{apply}
use Rattle.sn_model.specs.Steps.{with_live}
use Rattle.sn_model.specs.Tree.{Tree}
use Rattle.sn_model.specs.World.{World}
use Rattle.sn_model.specs.declared.reply.Errno.{Errno}
use Rattle.sn_model.specs.declared.reply.Errno.TheVariants.{Enomem, Eio}
use Rattle.sn_live_world.specs.declared.fault.LookFault.{LookFault}
use Rattle.sn_live_world.specs.declared.fault.LookFault.TheVariants as look
use Rattle.sn_number_table.specs.Numbers.{kept_after, since_after}
use Rattle.sn_ondisk.specs.LogHalf.{InHalf}
use Rattle.sn_log.specs.Positions.{base_at, behind}
use Rattle.sn_block.specs.Counts.{FailsRead, IsLater, called}
use Rattle.sn_events.specs.Answers.{writes_of}
use Rattle.sn_held.specs.Events.{LeavesEither, LeavesMore}
use Rattle.sn_held.specs.Held.{Held, Kept}
use Rattle.sn_held.specs.Rooms.{logged}
use Rattle.sn_examine.specs.Failing.{CostsAtMost, HasFailed}
use Rattle.sn_events.specs.declared.fault.ChangeFault.{ChangeFault}
use Rattle.sn_events.specs.declared.fault.ChangeFault.TheVariants.{Memory, Read, Device}
use Rattle.sn_overlay.specs.Merges.{merge}
use Rattle.sn_overlay_change.specs.ChangeLayers.{layer_of_change}

-- the world with the change
pub record IsMade (change : Change) (old new : World) : Type 0 where
  pub tree : Tree
  pub applied : apply limits_written change old.live ≡ Some tree
  pub world : new ≡ with_live old tree

-- what changed since the root, with a change of this tree
abbrev pub with_change : Kept → Tree → Change → Kept
with_change k live change = record k { changed = merge k.changed (layer_of_change live change) }

-- it is made and charged, and its record is in the log
pub record IsLogged (change : Change) (charge : ℕ) (old new : Held) : Type 0 where
  pub made : IsMade change old.world new.world
  pub kept : (n : ℕ) → new.kept n ≡ kept_after change old.kept n
  pub since : (n : ℕ) → new.kept_since n ≡ since_after change old.kept old.kept_since n
  pub charged : new.room ≡ logged charge old.room
  pub at : new.at ≡ behind old.at change
  pub base : new.base ≡ with_change old.base old.world.live change
  pub point : new.point ≡ old.point
  pub touched : Touches (InHalf (base_at old.at)) old.disk new.disk
  pub moments : LeavesEither old.at change old.disk new.disk
  pub acknowledged : LeavesMore old.at change old.disk new.disk
  pub sectors : AreSectors (reads new.disk)
  pub synced : IsSynced new.disk
  pub costs : new.status ≡ called (writes_of change) 2 old.status

-- the device failed while its record was appended
pub record IsCut (change : Change) (old new : Held) : Type 0 where
  pub tree : Tree
  pub applied : apply limits_written change old.world.live ≡ Some tree
  pub touched : Touches (InHalf (base_at old.at)) old.disk new.disk
  pub moments : LeavesEither old.at change old.disk new.disk
  pub failed : HasFailed old.status new.status
  pub later : IsLater old.status new.status
  pub costs : CostsAtMost (writes_of change) 2 old.status new.status

abbrev pub FailsChange : ChangeFault → Change → Held → Held → Type 0
FailsChange Memory change old new = new ≡ old
FailsChange Read change old new = (new ≡ record old { status = new.status }) × FailsRead old.status new.status
FailsChange Device change old new = IsCut change old new

-- At `Ok` the change is made, logged and charged. Where the device fails while it is written, it may be logged or not. Where memory is refused, or a block can't be read, nothing has changed.
abbrev pub Changes : Result (Option ℕ) ChangeFault → Change → ℕ → Held → Held → Type 0
Changes (Ok lost) change charge old new = IsLogged change charge old new
Changes (Err e) change charge old new = FailsChange e change old new

-- why a change isn't made whose blocks couldn't be looked at
abbrev pub change_fault : LookFault → ChangeFault
change_fault look.Memory = Memory
change_fault look.Read = Read

-- what a call is refused with
abbrev pub errno_of : ChangeFault → Errno
errno_of Memory = Enomem
errno_of Read = Eio
errno_of Device = Eio

-- the failure of the device stops the mount
abbrev pub stops : ChangeFault → Bool
stops Memory = false
stops Read = false
stops Device = true
