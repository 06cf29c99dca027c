use Rattle.sn_plan.proofs.Following.{and_then, stops}
use Rattle.sn_serve_names.specs.Messages.{unlink}
use Rattle.sn_serve_names.proofs.removing.unlink.Goals as goal

pub returns-in_err-child : goal.returns-in_err-child
unfolding unlink
returns-in_err-child g c = stops _ c.from_residual.result c.from_residual.ensures.1 c.child_of.ensures c.in_err-child.was

pub returns-in_err-unlink_child : goal.returns-in_err-unlink_child
unfolding unlink
returns-in_err-unlink_child g c = and_then _ c.child_of.ensures c.in_ok-child.was
    (stops _ c.from_residual-in_err-unlink_child.result c.from_residual-in_err-unlink_child.ensures.1 c.unlink_child.ensures c.in_err-unlink_child.was)

pub returns : goal.returns
unfolding unlink
returns g c = and_then _ c.child_of.ensures c.in_ok-child.was
    (and_then _ c.unlink_child.ensures c.in_ok-unlink_child.was c.forget.ensures)
