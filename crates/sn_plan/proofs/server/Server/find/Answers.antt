use Rattle.std.proofs.Common.{refl}
use Rattle.sn_plan.proofs.Following.{does_find, does_not_find}
use Rattle.sn_plan.proofs.server.Server.find.Goals as goal

pub returns-in-Ok : goal.returns-in-Ok
returns-in-Ok g c = does_find g.F.FileSystem.did c.args.self.now _ c.args.path.now c.find.result c.in-Ok.found c.find.ensures c.in-Ok.is refl refl

pub returns-in-Err : goal.returns-in-Err
returns-in-Err g c = does_not_find g.F.FileSystem.did c.args.self.now _ c.args.path.now c.find.result c.in-Err.fault c.errno.result c.find.ensures c.in-Err.is refl refl c.errno.ensures
