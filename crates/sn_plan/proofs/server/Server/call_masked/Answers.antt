use Rattle.sn_plan.specs.Asking.{asked_masked}
use Rattle.sn_plan.proofs.Following.{after}
use Rattle.sn_plan.proofs.Logins.{goes_in, stays_out}
use Rattle.sn_plan.proofs.server.Server.call_masked.Goals as goal

pub returns-in-Refused : goal.returns-in-Refused
unfolding asked_masked
returns-in-Refused g c =
    after _ c.call-login_reply.ensures (stays_out g.F.FileSystem.did c.call-login_reply.new.self _ c.call-login_reply.result c.in-Refused.field-0 c.in-Refused.is)

pub returns : goal.returns
unfolding asked_masked
returns g c = after _ c.call-login_reply.ensures (goes_in c.call-login_reply.result c.in_default.not-Refused (after _ c.call.ensures c.call_and_leave.ensures))
