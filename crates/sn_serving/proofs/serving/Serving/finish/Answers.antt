use Rattle.std.proofs.Common.{subst}
use Rattle.sn_serving.specs.Served.{Served, Unmounts}
use Rattle.sn_serving.proofs.ServedLemmas.{unmounts}
use Rattle.sn_serving.proofs.serving.Serving.finish.Goals as goal

pub returns-clause-ended : goal.returns-clause-ended
returns-clause-ended g c = λ told.
    (subst (λ (s : Served). Unmounts c.finish.result.0 s (g.D.Device.disk c.finish.result.1) (g.D.Device.status c.finish.result.1)) c.self.view_is
    (unmounts _ c.finish.result.0 _ _ (g.D.Device.disk c.finish.result.1) (g.D.Device.status c.finish.result.1) c.self.invariant.1 c.finish.ensures.ended told))
