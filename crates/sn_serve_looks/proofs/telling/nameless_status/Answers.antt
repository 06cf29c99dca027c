use Rattle.sn_plan.proofs.Following.{and_then, gives_it, stops}
use Rattle.sn_serve_looks.specs.Telling.{nameless_status}
use Rattle.sn_serve_looks.proofs.telling.nameless_status.Goals as goal

pub returns-in_err-seen : goal.returns-in_err-seen
unfolding nameless_status
returns-in_err-seen g c = stops _ c.from_residual.result c.from_residual.ensures.1 c.seen_at.ensures c.in_err-seen.was

pub returns : goal.returns
unfolding nameless_status
returns g c = and_then _ c.seen_at.ensures c.in_ok-seen.was (gives_it c.status_in.ensures)
