use Rattle.std.proofs.Common.{refl}
use Rattle.sn_plan.proofs.Following.{changes}
use Rattle.sn_plan.proofs.server.Server.let_go.Goals as goal

pub returns : goal.returns
returns g c = changes tt refl refl (record { goes = c.close.ensures.goes; idle = c.close.ensures.idle })
