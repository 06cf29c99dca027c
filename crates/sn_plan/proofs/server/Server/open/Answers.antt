use Rattle.std.proofs.Common.{refl}
use Rattle.sn_plan.proofs.Following.{changes}
use Rattle.sn_plan.proofs.server.Server.open.Goals as goal

pub returns : goal.returns
returns g c = changes tt refl c.open.ensures c.open-2.ensures
