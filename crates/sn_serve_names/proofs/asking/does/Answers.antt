use Rattle.sn_plan.proofs.Following.{and_then, gives_as, stops}
use Rattle.sn_serve_names.specs.Messages.{does}
use Rattle.sn_serve_names.proofs.asking.does.Goals as goal

pub returns-in_err-reply : goal.returns-in_err-reply
unfolding does
returns-in_err-reply g c = stops _ c.from_residual.result c.from_residual.ensures.1 c.ask.ensures c.in_err-reply.was

pub returns : goal.returns
unfolding does
returns g c = and_then _ c.ask.ensures c.in_ok-reply.was (gives_as c.done.ensures)
