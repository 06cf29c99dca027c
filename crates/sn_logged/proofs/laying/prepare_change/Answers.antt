use Rattle.std.proofs.Common.{Option, subst}
use Rattle.sn_overlay.specs.Layers.{through}
use Rattle.sn_overlay.specs.Overlays.{layer_of}
use Rattle.sn_logged.specs.Laid.{IsPrepared}
use Rattle.sn_logged.specs.declared.preparing.PreparedChange.{PreparedChange}
use Rattle.sn_logged.proofs.laying.prepare_change.Goals as goal

pub returns-clause-prepared : goal.returns-clause-prepared
returns-clause-prepared g c told =
    subst (λ (o : Option PreparedChange). IsPrepared c.args.limits.now o (through (layer_of c.args.overlay.now) (g.B.Below.shows c.args.below.now)) c.args.change.now) c.in-Some.is
    (c.in_ok-prepared.ensures.found told)
