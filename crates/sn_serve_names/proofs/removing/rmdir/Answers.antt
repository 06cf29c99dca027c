use Rattle.sn_plan.proofs.Following.{and_then, stops}
use Rattle.sn_serve_names.specs.Messages.{rmdir}
use Rattle.sn_serve_names.proofs.removing.rmdir.Goals as goal

pub returns-in_err-child : goal.returns-in_err-child
unfolding rmdir
returns-in_err-child g c = stops _ c.from_residual.result c.from_residual.ensures.1 c.child_of.ensures c.in_err-child.was

pub returns-in_err-rmdir_child : goal.returns-in_err-rmdir_child
unfolding rmdir
returns-in_err-rmdir_child g c = and_then _ c.child_of.ensures c.in_ok-child.was
    (stops _ c.from_residual-in_err-rmdir_child.result c.from_residual-in_err-rmdir_child.ensures.1 c.rmdir_child.ensures c.in_err-rmdir_child.was)

pub returns : goal.returns
unfolding rmdir
returns g c = and_then _ c.child_of.ensures c.in_ok-child.was
    (and_then _ c.rmdir_child.ensures c.in_ok-rmdir_child.was c.forget.ensures)
