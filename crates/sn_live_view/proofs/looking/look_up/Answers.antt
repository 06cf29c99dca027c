use Rattle.std.proofs.Common.{◌≡◌, ap, subst, ◌∙◌}
use Rattle.std.specs.Prelude.{IfOk}
use Rattle.sn_live.specs.Live.{changes_of}
use Rattle.sn_live_view.specs.Live.{live_trees}
use Rattle.sn_live_view.specs.Looking.{known_at}
use Rattle.sn_model.specs.Tree.{Tree}
use Rattle.sn_model.specs.World.{viewed_trees}
use Rattle.sn_overlay.specs.Layers.{Layer, through}
use Rattle.sn_overlay.specs.Overlays.{layer_of}
use Rattle.sn_live_view.proofs.looking.look_up.Goals as goal

pub returns-clause-found : goal.returns-clause-found
returns-clause-found g c told =
    let root = g.B.Below.shows c.args.root.now in
    let shown = ap (λ (l : Layer). through l (through (layer_of c.point.result.now) root)) c.changes.ensures ∙ ap (λ (l : Layer). through (changes_of c.args.live.now) (through l root)) c.point.ensures in
    subst (λ (t : Tree). IfOk c.look_over.result (λ known. known ≡ known_at (viewed_trees (live_trees t (g.B.HasSnapshots.frozen c.args.root.now))) c.args.sought.now)) shown (c.look_over.ensures.found told)
