use Rattle.std.proofs.Common.{List, length}
use Rattle.sn_export_walk.specs.Meeting.{Met}
use Rattle.sn_model.specs.Tree.{Tree}
use Rattle.sn_model.specs.World.{Trees}
use Rattle.sn_walk.specs.declared.object.Home.{Home}
use Rattle.sn_export_reading.specs.Serving.{AreFound}
use Rattle.sn_export_walk.specs.Visiting.{AreLevels}
use Rattle.sn_export_walk.proofs.walk.enter_next.Given as goal

-- the same visits are left
abbrev pub invariant-loop-top : goal.invariant-loop-top
invariant-loop-top l = (trees : Trees) (home : Home) (tree : Tree) (pending : List Met) → AreFound trees → AreLevels trees home tree l.fn.levels.items pending → AreLevels trees home tree l.levels.items pending

abbrev pub decreases-loop-top : goal.decreases-loop-top
decreases-loop-top l = length l.levels.items
