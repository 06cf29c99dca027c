use Rattle.sn_mounted.proofs.Doing.{grows_by_steps}
use Rattle.sn_mounted.proofs.mounted.MountedFileSystem.keep_pace.Goals as goal

pub returns-clause-quiet : goal.returns-clause-quiet
returns-clause-quiet g c = grows_by_steps _ c.make_steps.ensures.steps.0 _ _ c.make_steps.ensures.steps.1 c.make_steps.ensures.places
