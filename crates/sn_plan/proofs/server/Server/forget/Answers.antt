use Rattle.std.proofs.Common.{refl}
use Rattle.sn_plan.proofs.Following.{changes}
use Rattle.sn_plan.proofs.server.Server.forget.Goals as goal

pub returns : goal.returns
returns g c = changes tt refl refl (record { goes = c.forget.ensures.goes; idle = c.forget.ensures.idle })
