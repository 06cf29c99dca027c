use Rattle.std.proofs.Common.{inl, inr, refl}
use Rattle.sn_run.proofs.server.remount.Goals as goal

pub returns-in-Ok-clause-mounts : goal.returns-in-Ok-clause-mounts
returns-in-Ok-clause-mounts g c told = (
  record { whole = g.met.D.Device.whole c.args.device told; count = g.met.D.Device.count c.args.device told },
  inl (refl, record { mounts = c.in-Ok.ensures.mounted told; root = c.in-Ok.ensures.root told; costs = (_, c.in-Ok.ensures.within, c.in-Ok.ensures.costs) }),
)

pub returns-in-Err-clause-mounts : goal.returns-in-Err-clause-mounts
returns-in-Err-clause-mounts g c told = (
  record { whole = g.met.D.Device.whole c.args.device told; count = g.met.D.Device.count c.args.device told },
  inr (
    c.in-Err.field-0.fault,
    refl,
    record {
      left = c.in-Err.ensures.unmounted told;
      failed = c.in-Err.ensures.failed;
      later = c.in-Err.ensures.later;
      costs = c.in-Err.ensures.tries;
      stopped = refl;
    },
  ),
)
