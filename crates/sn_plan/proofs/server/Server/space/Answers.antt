use Rattle.std.proofs.Common.{refl}
use Rattle.sn_plan.proofs.Following.{does_count}
use Rattle.sn_plan.proofs.server.Server.space.Goals as goal

pub returns : goal.returns
returns g c = does_count g.F.FileSystem.did c.args.self.now _ c.space.result c.space.ensures refl refl
