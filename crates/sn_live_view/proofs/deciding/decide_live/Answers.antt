use Rattle.std.proofs.Common.{ap, subst, ◌∙◌}
use Rattle.sn_core_decide_rules.specs.Decided.{Decides, HidesNoRefusal}
use Rattle.sn_desc.specs.Sessions.{in_use_of}
use Rattle.sn_live.specs.Live.{changes_of}
use Rattle.sn_live_view.specs.Live.{live_trees, world_of}
use Rattle.sn_model.specs.Tree.{Tree}
use Rattle.sn_overlay.specs.Layers.{Layer, through}
use Rattle.sn_overlay.specs.Overlays.{layer_of}
use Rattle.sn_live_view.proofs.deciding.decide_live.Goals as goal

pub returns-clause-decided : goal.returns-clause-decided
returns-clause-decided g c told =
    let root = g.B.Below.shows c.args.root.now in
    let shown = ap (λ (l : Layer). through l (through (layer_of c.point.result.now) root)) c.changes.ensures ∙ ap (λ (l : Layer). through (changes_of c.args.live.now) (through l root)) c.point.ensures in
    subst (λ (t : Tree). Decides (world_of (in_use_of c.args.sessions.now) (live_trees t (g.B.HasSnapshots.frozen c.args.root.now))) c.args.session c.args.call.now c.decide_over.result) shown (c.decide_over.ensures.decided told)

pub returns-clause-refused : goal.returns-clause-refused
returns-clause-refused g c told =
    let root = g.B.Below.shows c.args.root.now in
    let shown = ap (λ (l : Layer). through l (through (layer_of c.point.result.now) root)) c.changes.ensures ∙ ap (λ (l : Layer). through (changes_of c.args.live.now) (through l root)) c.point.ensures in
    subst (λ (t : Tree). HidesNoRefusal (world_of (in_use_of c.args.sessions.now) (live_trees t (g.B.HasSnapshots.frozen c.args.root.now))) c.args.session c.args.call.now c.decide_over.result) shown (c.decide_over.ensures.refused told)
