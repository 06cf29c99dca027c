use Rattle.std.proofs.Common.{refl}
use Rattle.sn_plan.proofs.Following.{changes}
use Rattle.sn_plan.proofs.server.Server.close.Goals as goal

pub returns : goal.returns
returns g c = changes tt refl c.release.ensures.others (record { goes = c.close.ensures.goes; idle = c.close.ensures.idle })
