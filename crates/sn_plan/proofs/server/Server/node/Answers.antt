use Rattle.std.proofs.Common.{refl}
use Rattle.sn_plan.proofs.Following.{does_see, does_not_see}
use Rattle.sn_plan.proofs.server.Server.node.Goals as goal

pub returns-in-Ok : goal.returns-in-Ok
returns-in-Ok g c = does_see g.F.FileSystem.did c.args.self.now _ c.args.number c.node.result c.in-Ok.seen c.node.ensures c.in-Ok.is refl refl

pub returns-in-Err : goal.returns-in-Err
returns-in-Err g c = does_not_see g.F.FileSystem.did c.args.self.now _ c.args.number c.node.result c.in-Err.fault c.errno.result c.node.ensures c.in-Err.is refl refl c.errno.ensures
