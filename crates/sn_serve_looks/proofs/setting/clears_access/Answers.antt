use Rattle.std.proofs.Common.{ap}
use Rattle.sn_model.specs.declared.argument.AclKind.TheVariants.{Access}
use Rattle.sn_plan.specs.Asking.{login_by}
use Rattle.sn_plan.proofs.Following.{and_then, does_same, stops}
use Rattle.sn_serve_looks.specs.Messages.{clears_access, sets}
use Rattle.sn_serve_looks.proofs.setting.clears_access.Goals as goal

pub returns-in_err-status : goal.returns-in_err-status
unfolding clears_access
returns-in_err-status g c = stops _ c.from_residual.result c.from_residual.ensures.1 c.status_as.ensures c.in_err-status.was

pub returns : goal.returns
unfolding clears_access
returns g c = and_then _ c.status_as.ensures c.in_ok-status.was
    (does_same (ap (sets (login_by c.args.asker.now) c.args.path.now Access) c.from_mode-acl.ensures) c.sets.ensures)
