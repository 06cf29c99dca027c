use Rattle.sn_plan.proofs.Following.{and_then, does_as, fails, gives_it}
use Rattle.sn_plan.proofs.Looked.{bytes_passed_on}
use Rattle.sn_serve_looks.specs.Acls.{names_by}
use Rattle.sn_serve_looks.proofs.listing.names_by.Goals as goal

pub returns-in_err-status : goal.returns-in_err-status
unfolding names_by
returns-in_err-status g c = bytes_passed_on c.from_residual.result c.in_err-status.field-0.0 c.from_residual.ensures.1 (fails _ (does_as c.in_err-status.was c.status_by.ensures))

pub returns-in_err-access : goal.returns-in_err-access
unfolding names_by
returns-in_err-access g c = and_then _ c.status_by.ensures c.in_ok-status.was
    (bytes_passed_on c.from_residual-in_err-access.result c.in_err-access.field-0.0 c.from_residual-in_err-access.ensures.1 (fails _ (does_as c.in_err-access.was c.acl_at.ensures)))

pub returns-in_err-default : goal.returns-in_err-default
unfolding names_by
returns-in_err-default g c = and_then _ c.status_by.ensures c.in_ok-status.was
    (and_then _ c.acl_at.ensures c.in_ok-access.was
    (bytes_passed_on c.from_residual-in_err-default.result c.in_err-default.field-0.0 c.from_residual-in_err-default.ensures.1 (fails _ (does_as c.in_err-default.was c.acl_at-2.ensures))))

pub returns : goal.returns
unfolding names_by
returns g c = and_then _ c.status_by.ensures c.in_ok-status.was
    (and_then _ c.acl_at.ensures c.in_ok-access.was
    (and_then _ c.acl_at-2.ensures c.in_ok-default.was (gives_it c.names_there.ensures)))
