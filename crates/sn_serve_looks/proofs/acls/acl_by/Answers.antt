use Rattle.sn_plan.proofs.Following.{and_then, stops}
use Rattle.sn_serve_looks.specs.Acls.{acl_by}
use Rattle.sn_serve_looks.proofs.acls.acl_by.Goals as goal

pub returns-in_err-status : goal.returns-in_err-status
unfolding acl_by
returns-in_err-status g c = stops _ c.from_residual.result c.from_residual.ensures.1 c.status_by.ensures c.in_err-status.was

pub returns : goal.returns
unfolding acl_by
returns g c = and_then _ c.status_by.ensures c.in_ok-status.was c.acl_at.ensures
