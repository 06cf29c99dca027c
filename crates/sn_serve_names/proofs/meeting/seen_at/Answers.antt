use Rattle.sn_plan.proofs.Following.{and_then, gives_as, stops}
use Rattle.sn_serve_names.specs.Entries.{seen_at}
use Rattle.sn_serve_names.proofs.meeting.seen_at.Goals as goal

pub returns-in_err-number : goal.returns-in_err-number
unfolding seen_at
returns-in_err-number g c = stops _ c.from_residual.result c.from_residual.ensures.1 c.number_of.ensures c.in_err-number.was

pub returns-in_err-seen : goal.returns-in_err-seen
unfolding seen_at
returns-in_err-seen g c = and_then _ c.number_of.ensures c.in_ok-number.was
    (stops _ c.from_residual-in_err-seen.result c.from_residual-in_err-seen.ensures.1 c.node.ensures c.in_err-seen.was)

pub returns : goal.returns
unfolding seen_at
returns g c = and_then _ c.number_of.ensures c.in_ok-number.was (and_then _ c.node.ensures c.in_ok-seen.was (gives_as c.ok_or.ensures.value))
