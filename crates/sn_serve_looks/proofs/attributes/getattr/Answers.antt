use Rattle.sn_plan.proofs.Following.{and_then, gives_it, stops}
use Rattle.sn_serve_looks.specs.Messages.{getattr}
use Rattle.sn_serve_looks.proofs.attributes.getattr.Goals as goal

pub returns-in_err-status : goal.returns-in_err-status
unfolding getattr
returns-in_err-status g c = stops _ c.from_residual.result c.from_residual.ensures.1 c.status_of.ensures c.in_err-status.was

pub returns-in_err-number : goal.returns-in_err-number
unfolding getattr
returns-in_err-number g c = and_then _ c.status_of.ensures c.in_ok-status.was
    (stops _ c.from_residual-in_err-number.result c.from_residual-in_err-number.ensures.1 c.number_of.ensures c.in_err-number.was)

pub returns : goal.returns
unfolding getattr
returns g c = and_then _ c.status_of.ensures c.in_ok-status.was (and_then _ c.number_of.ensures c.in_ok-number.was (gives_it c.attributes_of.ensures))
