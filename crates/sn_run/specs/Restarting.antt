-- What a mount answers to a restart.
use Rattle.std.specs.Prelude.{◌≡◌, ◌⊎◌, Bool, true, length}
use Rattle.sn_device.specs.Sectors.{AreSectors}
use Rattle.sn_device.specs.Disk.{Disk, reads}
use Rattle.sn_device.specs.declared.status.Status.{Status}
use Rattle.sn_block.specs.Counts.{IsLater}
use Rattle.sn_model.specs.declared.fault.MountFault.{MountFault}
use Rattle.sn_model.specs.declared.reply.Reply.{Reply}
use Rattle.sn_model.specs.declared.reply.Reply.TheVariants as answer
use Rattle.sn_held.specs.Held.{Held}
use Rattle.sn_examine.specs.Failing.{IsSoOf}
use Rattle.sn_mount.specs.Costs.{CostsFew}
use Rattle.sn_events.specs.Answers.{CostsMountOf}
use Rattle.sn_events.specs.Mounting.{IsLeft, Mounts}
use Rattle.sn_held.specs.Images.{IsImage}
use Rattle.sn_model.specs.World.{World}
use Rattle.sn_mount.specs.Rooting.{MountsRoot}

-- the disk of a device, with all its sectors
pub record IsWholeDisk (status : Status) (disk : Disk) : Type 0 where
  pub whole : AreSectors (reads disk)
  pub count : length (reads disk) ≡ status.sectors

-- it is mounted
pub record IsRemounted (status : Status) (disk : Disk) (new : Held) (has_stopped : Bool) : Type 0 where
  pub mounts : Mounts status.sectors disk new has_stopped
  pub root : (world : World) (im : IsImage (reads disk) world) → MountsRoot (reads disk) world im new.base status new.status
  pub costs : CostsMountOf status new.status

-- it isn't, for this fault
pub record IsNotRemounted (fault : MountFault) (status : Status) (disk : Disk) (new : Held) (has_stopped : Bool) : Type 0 where
  pub left : IsLeft fault status.sectors disk new.disk
  pub failed : IsSoOf fault status new.status
  pub later : IsLater status new.status
  pub costs : CostsFew status new.status
  pub stopped : has_stopped ≡ true

abbrev pub Remounts : Reply → Status → Disk → Held → Bool → Type 0
Remounts reply status disk new has_stopped = IsWholeDisk status disk
    × (((reply ≡ answer.Done) × IsRemounted status disk new has_stopped) ⊎ ((fault : MountFault) × (reply ≡ answer.Unmounted fault) × IsNotRemounted fault status disk new has_stopped))
