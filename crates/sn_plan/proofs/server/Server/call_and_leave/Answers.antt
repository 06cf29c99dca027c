use Rattle.sn_plan.specs.Asking.{as_caller}
use Rattle.sn_plan.proofs.Following.{after, gives_ok}
use Rattle.sn_plan.proofs.server.Server.call_and_leave.Goals as goal

pub returns : goal.returns
unfolding as_caller
returns g c = after _ c.call-reply.ensures (after _ c.call.ensures (gives_ok g.F.FileSystem.did c.call.new.self c.call-reply.result))
