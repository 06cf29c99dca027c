use Rattle.std.proofs.Common.{ap, ◌∙◌}
use Rattle.sn_live.specs.Live.{changes_of, shown_of}
use Rattle.sn_model.specs.Settling.{settled}
use Rattle.sn_rooted.specs.Roots.{tree_on}
use Rattle.sn_live_world.proofs.RestoreLemmas.{drops_paid}
use Rattle.sn_live_world.proofs.restoring.settled_over.Goals as goal

pub returns-in-Ok-settle-clause-restores : goal.returns-in-Ok-settle-clause-restores
returns-in-Ok-settle-clause-restores g c told =
    let root = tree_on c.args.blocks.now c.args.file.now in
    let live = c.in-Ok.ensures.live told (c.requires.sound told) in
    let same = c.in-Ok.ensures.shown root in
    record {
      live = c.in-Ok-settle.ensures.live root live;
      shown = c.in-Ok-settle.ensures.shown root live ∙ ap settled same;
      changed = drops_paid root (shown_of c.in-Ok.live root) (changes_of c.in-Ok.live) (changes_of c.settle.new.self) same c.in-Ok.ensures.changes live.shown.whole.hierarchy (c.in-Ok-settle.ensures.changed root live);
    }
