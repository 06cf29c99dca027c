use Rattle.std.proofs.Common.{refl}
use Rattle.sn_desc.specs.Sessions.{in_use_of}
use Rattle.sn_live.specs.Live.{shown_of}
use Rattle.sn_live_view.specs.Live.{live_trees, world_of}
use Rattle.sn_live_view.proofs.deciding.decide_unread.Goals as goal

pub returns-clause-decided : goal.returns-clause-decided
returns-clause-decided g c =
    c.decide.ensures.decided refl (world_of (in_use_of c.args.sessions.now) (live_trees (shown_of c.args.live.now (g.B.Below.shows c.args.root.now)) (g.B.HasSnapshots.frozen c.args.root.now)))
    (record { sessions_are = refl; descriptors_are = refl; trees_are = refl; room_is = refl; names_are = refl; bytes_are = refl })

pub returns-clause-refused : goal.returns-clause-refused
returns-clause-refused g c =
    c.decide.ensures.refused refl (world_of (in_use_of c.args.sessions.now) (live_trees (shown_of c.args.live.now (g.B.Below.shows c.args.root.now)) (g.B.HasSnapshots.frozen c.args.root.now)))
    (record { sessions_are = refl; descriptors_are = refl; trees_are = refl; room_is = refl; names_are = refl; bytes_are = refl })
