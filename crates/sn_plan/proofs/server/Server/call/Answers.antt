use Rattle.std.proofs.Common.{refl}
use Rattle.sn_plan.proofs.Following.{does_call}
use Rattle.sn_plan.proofs.server.Server.call.Goals as goal

pub returns : goal.returns
returns g c = does_call g.F.FileSystem.did c.args.self.now _ c.args.session c.args.call.now c.call-reply.result c.call-reply.ensures refl c.has_changed-self.ensures
