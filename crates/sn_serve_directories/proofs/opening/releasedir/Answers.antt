use Rattle.std.proofs.Common.{◌∙◌, ap, sym}
use Rattle.sn_plan.proofs.Following.{does_same, refuses}
use Rattle.sn_serve_directories.specs.Messages.{releasedir}
use Rattle.sn_serve_directories.proofs.opening.releasedir.Goals as goal

pub returns-in-Some-clause-plan : goal.returns-in-Some-clause-plan
returns-in-Some-clause-plan g c = does_same (ap releasedir (sym c.in-Some.is ∙ c.release.ensures.node)) c.let_go.ensures

pub returns-in-None-clause-plan : goal.returns-in-None-clause-plan
returns-in-None-clause-plan g c = does_same (ap releasedir (sym c.in-None.is ∙ c.release.ensures.node)) refuses
