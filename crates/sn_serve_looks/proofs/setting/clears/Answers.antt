use Rattle.std.proofs.Common.{ap, sym}
use Rattle.sn_plan.specs.Asking.{login_by}
use Rattle.sn_plan.proofs.Following.{does_same}
use Rattle.sn_serve_looks.specs.Messages.{clears}
use Rattle.sn_serve_looks.proofs.setting.clears.Goals as goal

pub returns-in-Access : goal.returns-in-Access
returns-in-Access g c = does_same (ap (clears (login_by c.args.asker.now) c.args.path.now) (sym c.in-Access.is)) c.clears_access.ensures

pub returns-in-Default : goal.returns-in-Default
returns-in-Default g c = does_same (ap (clears (login_by c.args.asker.now) c.args.path.now) (sym c.in-Default.is)) c.clears_default.ensures
