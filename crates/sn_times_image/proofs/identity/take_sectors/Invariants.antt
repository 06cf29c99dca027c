use Rattle.sn_times_image.proofs.Taking.{IsTaking}
use Rattle.sn_times_image.proofs.identity.take_sectors.Given as goal

abbrev pub invariant-loop-i : goal.invariant-loop-i
invariant-loop-i g l =
    IsTaking g.D.Device.tells_bytes l.first l.i (g.D.Device.status l.initial.device) (g.D.Device.status l.device) (g.D.Device.disk l.initial.device) (g.D.Device.disk l.device) l.initial.hasher l.hasher
