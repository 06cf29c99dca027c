use Rattle.std.proofs.Common.{ap}
use Rattle.sn_plan.specs.Asking.{login_by}
use Rattle.sn_plan.proofs.Following.{does_same, is_held, is_not_held, takes_it}
use Rattle.sn_serve_names.proofs.Steps.{after_snapshots}
use Rattle.sn_serve_names.specs.Messages.{does, removes}
use Rattle.sn_serve_names.proofs.removing.rmdir_child.Goals as goal

pub returns-in_err-call : goal.returns-in_err-call
unfolding removes
returns-in_err-call g c = after_snapshots c.args.parent _ c.is_snapshots.ensures
    (is_not_held c.rmdir_call.result c.from_residual.result c.rmdir_call.ensures.err c.in_err-call.was c.from_residual.ensures.1)

pub returns : goal.returns
unfolding removes
returns g c = after_snapshots c.args.parent _ c.is_snapshots.ensures
    (takes_it (does_same (ap (does (login_by c.args.asker.now)) (is_held _ c.rmdir_call.result c.in_ok-call.call c.rmdir_call.ensures.call c.in_ok-call.was)) c.does.ensures))
