use Rattle.std.proofs.Common.{refl}
use Rattle.sn_desc.specs.Sessions.{in_use_of}
use Rattle.sn_live_view.specs.Live.{live_trees, world_of}
use Rattle.sn_live_view.proofs.deciding.decide_on.Goals as goal

pub returns-clause-decided : goal.returns-clause-decided
returns-clause-decided g c told =
    c.decide.ensures.decided told (world_of (in_use_of c.args.sessions.now) (live_trees (g.T.Below.shows c.args.tree.now) (g.T.HasSnapshots.frozen c.args.tree.now)))
    (record { sessions_are = refl; descriptors_are = refl; trees_are = refl; room_is = refl; names_are = refl; bytes_are = refl })

pub returns-clause-refused : goal.returns-clause-refused
returns-clause-refused g c told =
    c.decide.ensures.refused told (world_of (in_use_of c.args.sessions.now) (live_trees (g.T.Below.shows c.args.tree.now) (g.T.HasSnapshots.frozen c.args.tree.now)))
    (record { sessions_are = refl; descriptors_are = refl; trees_are = refl; room_is = refl; names_are = refl; bytes_are = refl })
