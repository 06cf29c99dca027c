-- What the next root means, once it is shown.
use Rattle.std.proofs.Common.{◌≡◌, List, [], ◌++◌, Some, refl, sym, ap, ◌∙◌}
use Rattle.sn_device.specs.Sectors.{Contents, AreSectors}
use Rattle.sn_device.specs.Disk.{Disk, Always, reads}
use Rattle.sn_layout.specs.declared.root.RootBody.{RootBody}
use Rattle.sn_model.specs.declared.change.Change.{Change}
use Rattle.sn_model.specs.Changes.{apply_all}
use Rattle.sn_model.specs.Tree.{Tree}
use Rattle.sn_model.specs.World.{Trees, World}
use Rattle.sn_ondisk.specs.TreeLaws.{SameIn}
use Rattle.sn_ondisk.specs.Trees.{Store, store_of}
use Rattle.sn_image.specs.Image.{image}
use Rattle.sn_opening.specs.Opens.{Opens}
use Rattle.sn_opening.specs.PointLaws.{NextStands}
use Rattle.sn_opening.specs.Points.{IsBuilt}
use Rattle.sn_opening.specs.Spelled.{AreSpelled}
use Rattle.sn_opening.specs.Worlds.{all_reach, found, frozen_of}
use Rattle.sn_opening.proofs.OpeningLemmas.{standing_depends}
use Rattle.sn_opening.proofs.StepLemmas.{done_stands}
use Rattle.sn_cp.specs.Points.{Work}
use Rattle.sn_cp.specs.Steps.{StandsAtStage}
use Rattle.sn_cp.specs.Showing.{ShowsNext}
use Rattle.sn_cp.specs.declared.stage.Stage.TheVariants.{Done}

-- a root's frozen trees are of the blocks that it reaches
pub frozen_stay : (s r : Store) (root : RootBody) → SameIn (all_reach s root) s r → frozen_of s root.snapshots ≡ frozen_of r root.snapshots
unfolding apply_all
frozen_stay s r root same =
    let tree = image s root.inode_file in
    let there = standing_depends s r root same [] (found tree (frozen_of s root.snapshots)) (record { tree = tree; applied = refl; settles = refl }) in
    ap (λ (w : World). w.frozen) there.settles

pub next_opens : (w : Work) (s : Store) (root : RootBody) (trees : Trees) (tree : Tree) (third fourth : List Change) (c : Contents)
    → IsBuilt w.blocks s root trees w.plan → AreSpelled third → AreSpelled fourth
    → apply_all w.plan.next.limits (third ++ fourth) trees.live ≡ Some tree
    → ShowsNext w s root third fourth c → Opens w.blocks c (found tree trees.frozen)
next_opens w s root trees tree third fourth c built third_spelled fourth_spelled applied next =
    let live = built.tree (store_of c) next.same next.blocks in
    record {
      slot = w.slot;
      root = w.plan.next;
      older = third;
      newer = fourth;
      older_spelled = third_spelled;
      newer_spelled = fourth_spelled;
      shown = next.shown;
      stands = record {
        tree = tree;
        applied = ap (apply_all w.plan.next.limits (third ++ fourth)) live ∙ applied;
        settles = ap (found tree) (sym (built.frozen (store_of c) next.same next.blocks));
      };
    }

pub done_points_stand : (w : Work) (s : Store) (root : RootBody) (trees : Trees) (newer : List Change) (d : Disk) → AreSectors (reads d)
    → IsBuilt w.blocks s root trees w.plan → StandsAtStage w Done d → Always d (ShowsNext w s root newer [])
    → NextStands w.blocks w.slot w.plan.next.limits w.plan.next newer trees.live d
done_points_stand w s root trees newer d sectors built stands next =
    done_stands w.blocks s w.slot root newer trees w.plan d sectors stands.reached.1 built stands.reached.0 (λ c crash. (next c crash).same) (λ c crash. (next c crash).shown)
