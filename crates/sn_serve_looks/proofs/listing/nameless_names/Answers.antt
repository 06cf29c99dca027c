use Rattle.sn_plan.proofs.Following.{and_then, does_as, fails, gives_as}
use Rattle.sn_plan.proofs.Looked.{bytes_passed_on}
use Rattle.sn_serve_looks.specs.Acls.{nameless_names}
use Rattle.sn_serve_looks.proofs.listing.nameless_names.Goals as goal

pub returns-in_err-seen : goal.returns-in_err-seen
unfolding nameless_names
returns-in_err-seen g c = bytes_passed_on c.from_residual.result c.in_err-seen.field-0.0 c.from_residual.ensures.1 (fails _ (does_as c.in_err-seen.was c.seen_at.ensures))

pub returns : goal.returns
unfolding nameless_names
returns g c = and_then _ c.seen_at.ensures c.in_ok-seen.was (gives_as c.names_seen.ensures)
