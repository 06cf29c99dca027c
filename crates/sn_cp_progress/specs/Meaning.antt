-- What a mounted file system means: a state of the machine, between two points or with one in progress.
use Rattle.std.specs.Prelude.{◌≡◌, ◌⊎◌, Bool, true, false, Option, None, Some}
use Rattle.sn_device.specs.Disk.{Always}
use Rattle.sn_device.specs.Sectors.{Contents}
use Rattle.sn_model.specs.Machine.{State, Running, Stopped}
use Rattle.sn_model.specs.Settling.{settle}
use Rattle.sn_model.specs.Tree.{Tree}
use Rattle.sn_model.specs.World.{Trees, World}
use Rattle.sn_held.specs.Held.{Going, Held, RunsReady}
use Rattle.sn_held.specs.Images.{IsImage}
use Rattle.sn_held.specs.Moments.{ShowsState}
use Rattle.sn_cp_progress.specs.Progress.{Progress, RunsOn}

-- contents are an image of one settled world or of another
abbrev pub EitherImage : World → World → Contents → Type 0
EitherImage world after c = IsImage c (settle world) ⊎ IsImage c (settle after)

-- a point in progress, with the trees that it was built from
abbrev pub progress_over : Going → Trees → Progress
progress_over going trees = record { work = going.work; stage = going.stage; trees = trees; free = going.free }

-- a mount runs over this world, ready for a point, or with this one in progress, which leaves the snapshots as they are
abbrev pub RunsWith : Option Going → Held → World → Type 0
RunsWith None h world = RunsReady h world h.base
RunsWith (Some going) h world = (built : Tree) × RunsOn h world (progress_over going (record { live = built; frozen = world.frozen }))

-- One that runs does so over this world. Of one that a failure has stopped it is known only that the
-- next mount finds one of two worlds on its disk.
abbrev pub Means : Held → Bool → State → Type 0
Means h has_stopped (Running world) = (has_stopped ≡ false) × RunsWith h.point h world
Means h has_stopped (Stopped before after) = (has_stopped ≡ true) × Always h.disk (ShowsState (Stopped before after))
