use Rattle.sn_plan.proofs.Following.{and_then, stops}
use Rattle.sn_serve_names.specs.Messages.{lookup}
use Rattle.sn_serve_names.proofs.looking.lookup.Goals as goal

pub returns-in_err-child : goal.returns-in_err-child
unfolding lookup
returns-in_err-child g c = stops _ c.from_residual.result c.from_residual.ensures.1 c.child_of.ensures c.in_err-child.was

pub returns-in_err-status : goal.returns-in_err-status
unfolding lookup
returns-in_err-status g c = and_then _ c.child_of.ensures c.in_ok-child.was
    (stops _ c.from_residual-in_err-status.result c.from_residual-in_err-status.ensures.1 c.status_of.ensures c.in_err-status.was)

pub returns : goal.returns
unfolding lookup
returns g c = and_then _ c.child_of.ensures c.in_ok-child.was
    (and_then _ c.status_of.ensures c.in_ok-status.was c.met_at.ensures)
