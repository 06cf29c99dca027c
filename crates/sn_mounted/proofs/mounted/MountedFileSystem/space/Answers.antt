use Rattle.sn_plan.specs.Acts.{Counted}
use Rattle.sn_mounted.specs.Doing.{counts}
use Rattle.sn_mounted.proofs.Doing.{grows_by}
use Rattle.sn_mounted.proofs.mounted.MountedFileSystem.space.Goals as goal

pub returns : goal.returns
returns g c = grows_by _ (Counted c.left.result) _ _ (counts c.left.ensures)
