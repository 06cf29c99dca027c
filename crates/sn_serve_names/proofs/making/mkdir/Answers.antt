use Rattle.sn_plan.proofs.Following.{and_then, stops}
use Rattle.sn_serve_names.specs.Messages.{mkdir}
use Rattle.sn_serve_names.proofs.making.mkdir.Goals as goal

pub returns-in_err-child : goal.returns-in_err-child
unfolding mkdir
returns-in_err-child g c = stops _ c.from_residual.result c.from_residual.ensures.1 c.child_of.ensures c.in_err-child.was

pub returns-in_err-make_child : goal.returns-in_err-make_child
unfolding mkdir
returns-in_err-make_child g c = and_then _ c.child_of.ensures c.in_ok-child.was
    (stops _ c.from_residual-in_err-make_child.result c.from_residual-in_err-make_child.ensures.1 c.make_child.ensures c.in_err-make_child.was)

pub returns : goal.returns
unfolding mkdir
returns g c = and_then _ c.child_of.ensures c.in_ok-child.was
    (and_then _ c.make_child.ensures c.in_ok-make_child.was c.made_at.ensures)
