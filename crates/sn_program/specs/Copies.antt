-- A run on a copy of an image that is cut short, and what a crash then leaves of the copy.
use Rattle.std.specs.Prelude.{◌≡◌, List, Contains, EachIndex}
use Rattle.sn_device.specs.Sectors.{Contents, sector_at}
use Rattle.sn_device.specs.Disk.{Disk, CrashNow, IsSynced, reads}
use Rattle.sn_device.specs.Fill.{filling, last_synced}
use Rattle.sn_device.specs.declared.fill.Fill.{Fill}
use Rattle.sn_device.specs.declared.status.Status.{Status}
use Rattle.sn_model.specs.declared.call.Event.{Event}
use Rattle.sn_model.specs.declared.end.End.{End}
use Rattle.sn_model.specs.declared.reply.Reply.{Reply}
use Rattle.sn_model.specs.Machine.{Running}
use Rattle.sn_model.specs.World.{World}
use Rattle.sn_held.specs.Images.{IsImage}
use Rattle.sn_run.specs.Runs.{ShowsCut}
use Rattle.sn_program.specs.Answers.{IsRun}

-- Events were run on a device whose disk and counts were these, and then came a crash that left these contents, filling in this way each sector that wasn't synced. Where all of the disk was synced and an image of a world, what is left is one of a world that the machine's run leaves which is cut short after these replies.
pub record IsCutShort (copy : Disk) (status : Status) (how : Fill) (end : End) (events : List Event) (replies : List Reply) (left : Contents) : Type 0 where
  pub last : Disk
  pub last_status : Status
  pub run : IsRun end events replies copy status last last_status
  pub crash : CrashNow last left
  pub filled : EachIndex (reads last) (λ i. Contains last.present.unsynced i → sector_at left i ≡ filling how i (sector_at (last_synced last) i) (sector_at (reads last) i))
  pub kept : IsSynced copy → (world : World) → IsImage (reads copy) world → ShowsCut (Running world) events replies left
