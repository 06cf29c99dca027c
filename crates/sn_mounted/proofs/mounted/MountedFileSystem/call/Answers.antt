use Rattle.sn_plan.specs.Acts.{Called}
use Rattle.sn_mounted.specs.Doing.{calls}
use Rattle.sn_mounted.proofs.Doing.{grows_by}
use Rattle.sn_mounted.proofs.mounted.MountedFileSystem.call.Goals as goal

pub returns : goal.returns
returns g c = grows_by _ (Called c.args.session c.args.call.now c.answer.result) _ _ (calls c.answer.ensures.leads c.answer.ensures.places)
