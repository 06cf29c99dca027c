use Rattle.sn_plan.proofs.Following.{and_then, gives_as, stops}
use Rattle.sn_serve_names.specs.Entries.{number_at}
use Rattle.sn_serve_names.proofs.meeting.number_at.Goals as goal

pub returns-in_err-found : goal.returns-in_err-found
unfolding number_at
returns-in_err-found g c = stops _ c.from_residual.result c.from_residual.ensures.1 c.find.ensures c.in_err-found.was

pub returns : goal.returns
unfolding number_at
returns g c = and_then _ c.find.ensures c.in_ok-found.was (gives_as c.ok_or.ensures.value)
