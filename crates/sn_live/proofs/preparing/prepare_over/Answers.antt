use Rattle.std.proofs.Common.{Option, subst, ◌∙◌}
use Rattle.sn_live.specs.Nodes.{node_moves_of}
use Rattle.sn_logged.specs.Laid as laid
use Rattle.sn_logged.specs.declared.preparing.PreparedChange.{PreparedChange}
use Rattle.sn_overlay.specs.Layers.{through}
use Rattle.sn_overlay.specs.Overlays.{layer_of}
use Rattle.sn_live.proofs.preparing.prepare_over.Goals as goal

pub returns-in-Ok-clause-prepared : goal.returns-in-Ok-clause-prepared
returns-in-Ok-clause-prepared g c told = record {
  laid = subst (λ (o : Option PreparedChange). laid.IsPrepared c.args.limits.now o (through (layer_of c.args.overlay.now) (g.B.Below.shows c.args.below.now)) c.args.change.now) c.in-Some.is (c.in_ok-laid.ensures.prepared told);
  nodes = c.in-Ok.ensures.found told ∙ (λ i. node_moves_of (through (c.prepare_change.ensures.layer i) (c.prepare_change.ensures.left.2 told i)) c.args.change.now);
}
