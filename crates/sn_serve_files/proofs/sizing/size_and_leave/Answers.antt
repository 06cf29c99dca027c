use Rattle.std.proofs.Common.{refl}
use Rattle.sn_plan.proofs.Following.{after, gives_it}
use Rattle.sn_serve_files.specs.Messages.{as_sizer}
use Rattle.sn_serve_files.proofs.sizing.size_and_leave.Goals as goal

pub returns : goal.returns
unfolding as_sizer
returns g c = after _ c.call-opened.ensures (after _ c.truncate-reply.ensures (after _ c.call.ensures (gives_it refl)))
