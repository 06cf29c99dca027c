use Rattle.sn_plan.specs.Acts.{Found}
use Rattle.sn_mounted.specs.Doing.{finds}
use Rattle.sn_mounted.proofs.Doing.{grows_by}
use Rattle.sn_mounted.proofs.mounted.MountedFileSystem.find.Goals as goal

pub returns : goal.returns
returns g c = grows_by _ (Found c.args.path.now c.look_along.result) _ _ (finds c.look_along.ensures.looks c.look_along.ensures.found)
