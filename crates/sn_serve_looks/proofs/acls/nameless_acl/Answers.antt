use Rattle.sn_plan.proofs.Following.{and_then, gives_as, stops}
use Rattle.sn_serve_looks.specs.Acls.{nameless_acl}
use Rattle.sn_serve_looks.proofs.acls.nameless_acl.Goals as goal

pub returns-in_err-seen : goal.returns-in_err-seen
unfolding nameless_acl
returns-in_err-seen g c = stops _ c.from_residual.result c.from_residual.ensures.1 c.seen_at.ensures c.in_err-seen.was

pub returns : goal.returns
unfolding nameless_acl
returns g c = and_then _ c.seen_at.ensures c.in_ok-seen.was (gives_as c.acl_seen.ensures)
