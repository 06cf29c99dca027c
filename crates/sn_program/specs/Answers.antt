-- What the program makes of a script and of a device.
use Rattle.std.specs.Prelude.{◌≡◌, ◌≤◌, ℕ, List, None, Some, length}
use Rattle.std.specs.declared.option.Option.{Option}
use Rattle.sn_device.specs.Disk.{Disk, reads}
use Rattle.sn_device.specs.declared.status.Status.{Status}
use Rattle.sn_limits.specs.Versions.{limits_written}
use Rattle.sn_model.specs.declared.call.Event.{Event}
use Rattle.sn_model.specs.declared.end.End.{End}
use Rattle.sn_model.specs.declared.fault.MountFault.{MountFault}
use Rattle.sn_model.specs.declared.reply.Reply.{Reply}
use Rattle.sn_model.specs.Machine.{Anything, Lacks, WholeRun}
use Rattle.sn_model.specs.World.{World}
use Rattle.sn_held.specs.Images.{IsImage}
use Rattle.sn_run.specs.Causes.{HasCauses}
use Rattle.sn_run.specs.Runs.{IsRunOf, LacksRoot, RunsTo}
use Rattle.sn_script.specs.Scripts.{IsScript}

-- Events were run on a device that tells its bytes. Where its disk is an image of a world, that was a run of the machine from this world on; where it has no root, the mount was refused for that. And where it counted no failure, all that failed was its end.
pub record IsRun (end : End) (events : List Event) (replies : List Reply) (disk : Disk) (status : Status) (last_disk : Disk) (last_status : Status) : Type 0 where
  pub runs : RunsTo end events replies disk status last_disk last_status
  pub machine : (world : World) → IsImage (reads disk) world → IsRunOf world events replies end disk last_disk
  pub unfit : (fault : MountFault) → LacksRoot status.sectors (reads disk) fault → WholeRun Anything limits_written (Lacks fault) events replies end
  pub causes : last_status.failures ≡ status.failures → HasCauses end events replies disk status last_disk last_status runs

-- the script is what a reader had left, where that is known
abbrev pub IsOf : Option (List ℕ) → List ℕ → Type 0
IsOf None script = Unit {0}
IsOf (Some all) script = script ≡ all

-- the events of the script that a reader had left, which isn't too long
abbrev pub AreEventsOf : Option (List ℕ) → List Event → Type 0
AreEventsOf known events = (script : List ℕ) × IsOf known script × IsScript events script × (length script ≤ 16777216)
