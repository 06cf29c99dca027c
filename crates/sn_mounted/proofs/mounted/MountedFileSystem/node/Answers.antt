use Rattle.sn_plan.specs.Acts.{Seen}
use Rattle.sn_mounted.specs.Doing.{sees}
use Rattle.sn_mounted.proofs.Doing.{grows_by}
use Rattle.sn_mounted.proofs.mounted.MountedFileSystem.node.Goals as goal

pub returns : goal.returns
returns g c = grows_by _ (Seen c.args.number c.look_at.result) _ _ (sees c.look_at.ensures.looks c.look_at.ensures.places c.look_at.ensures.seen)
