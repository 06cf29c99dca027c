use Rattle.sn_plan.proofs.Following.{after}
use Rattle.sn_plan.proofs.Logins.{goes_in, stays_out}
use Rattle.sn_serve_files.specs.Messages.{sized_in}
use Rattle.sn_serve_files.proofs.sizing.size_in.Goals as goal

pub returns-in-Refused : goal.returns-in-Refused
unfolding sized_in
returns-in-Refused g c = after _ c.call-login_reply.ensures (stays_out g.F.FileSystem.did c.call-login_reply.new.self _ c.call-login_reply.result c.in-Refused.field-0 c.in-Refused.is)

pub returns : goal.returns
unfolding sized_in
returns g c = after _ c.call-login_reply.ensures (goes_in c.call-login_reply.result c.in_default.not-Refused c.size_and_leave.ensures)
