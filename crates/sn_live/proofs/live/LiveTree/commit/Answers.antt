use Rattle.std.proofs.Common.{refl}
use Rattle.sn_live.specs.Live.{point_of}
use Rattle.sn_live.proofs.LiveLemmas.{committed}
use Rattle.sn_overlay.specs.Layers.{through}
use Rattle.sn_live.proofs.live.LiveTree.commit.Goals as goal

pub returns-clause-live : goal.returns-clause-live
returns-clause-live c limits below change version live can =
    let under = through (point_of c.args.self.now) below in
    committed limits version c.args.self.now _ below live change c.args.prepared can refl (c.commit_change.ensures.shown limits under change version live.shown can.laid) (c.commit_change.ensures.laid limits under change version live.shown can.laid) c.note_nodes.ensures c.note_names.ensures c.nameless_after-self.ensures
