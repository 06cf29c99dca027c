use Rattle.std.proofs.Common.{refl}
use Rattle.sn_limits.specs.Versions.{limits_written}
use Rattle.sn_live.specs.Live as live
use Rattle.sn_live_world.specs.World.{tree_over, world_in}
use Rattle.sn_live_world.proofs.CommitLemmas.{only_lost}
use Rattle.sn_live_world.proofs.world.LiveWorld.commit.Goals as goal

pub returns-clause-made : goal.returns-clause-made
returns-clause-made c below change over can = (live.shown_of c.commit.new.self below, c.commit.ensures.shown limits_written below change refl over can, refl)

pub returns-clause-lost : goal.returns-clause-lost
returns-clause-lost c trees change over can whole =
    only_lost (world_in c.args.self.now trees) (record (world_in c.args.self.now trees) { live = live.shown_of c.commit.new.self trees.live }) c.lost-lost.result refl whole
    (c.lost-lost.ensures limits_written (tree_over c.args.self.now trees.live) (live.shown_of c.commit.new.self trees.live) change refl can (c.commit.ensures.shown limits_written trees.live change refl over can))

pub returns-clause-kept : goal.returns-clause-kept
returns-clause-kept c tree change can n = c.commit.ensures.kept limits_written tree change refl can n

pub returns-clause-since : goal.returns-clause-since
returns-clause-since c tree change can n = c.commit.ensures.since limits_written tree change refl can n
