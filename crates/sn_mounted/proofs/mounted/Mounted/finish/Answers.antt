use Rattle.std.proofs.Common.{subst}
use Rattle.sn_serving.specs.Served.{Unmounts}
use Rattle.sn_mounted.specs.Shown.{Shown}
use Rattle.sn_mounted.proofs.mounted.Mounted.finish.Goals as goal

pub returns-clause-ended : goal.returns-clause-ended
returns-clause-ended g c = λ told. subst (λ (m : Shown). Unmounts c.finish.result.0 m.served (g.D.Device.disk c.finish.result.1) (g.D.Device.status c.finish.result.1)) c.self.view_is (c.finish.ensures.ended told)
