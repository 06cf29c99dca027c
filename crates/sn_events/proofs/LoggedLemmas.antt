-- A change that is appended to the log and then applied to the live tree.
use Rattle.std.proofs.Common.{◌≡◌, ℕ, Bool, Option, Some, Ok, refl, sym, ap, subst, ◌∙◌}
use Rattle.sn_block.specs.Counts.{called}
use Rattle.sn_cp_whole.specs.declared.base.PointBase.{PointBase}
use Rattle.sn_cp_whole.specs.declared.going.GoingPoint.{GoingPoint}
use Rattle.sn_cp_whole.specs.Planning.{kept_in}
use Rattle.sn_device.specs.Crash.{Touches}
use Rattle.sn_device.specs.Disk.{Disk, reads}
use Rattle.sn_device.specs.Sectors.{AreSectors}
use Rattle.sn_device.specs.declared.status.Status.{Status}
use Rattle.sn_held.specs.Held.{Held}
use Rattle.sn_limits.specs.Versions.{limits_written}
use Rattle.sn_live.specs.Prepared.{CanBeMade}
use Rattle.sn_live.specs.declared.preparing.PreparedLive.{PreparedLive}
use Rattle.sn_live_world.specs.World.{Alike, IsOver, changes_of, kept_of, kept_since_of, tree_over, world_in, world_over}
use Rattle.sn_live_world.specs.declared.world.LiveWorld.{LiveWorld}
use Rattle.sn_log.specs.Appending.{Appends}
use Rattle.sn_log.specs.Positions.{LogPosition, base_at, behind}
use Rattle.sn_model.specs.Changes.{apply}
use Rattle.sn_model.specs.Settling.{OnlyLost}
use Rattle.sn_model.specs.Steps.{with_live}
use Rattle.sn_model.specs.Tree.{Tree}
use Rattle.sn_model.specs.World.{Trees, World}
use Rattle.sn_model.specs.Worlds.{IsWorld}
use Rattle.sn_model.specs.declared.change.Change.{Change}
use Rattle.sn_number_table.specs.Numbers.{kept_after, since_after}
use Rattle.sn_ondisk.specs.LogHalf.{InHalf}
use Rattle.sn_overlay.specs.Layers.{Layer}
use Rattle.sn_overlay.specs.Merges.{merge}
use Rattle.sn_overlay_change.specs.ChangeLayers.{layer_of_change}
use Rattle.sn_held.specs.Rooms.{RoomCounts, logged}
use Rattle.sn_events.specs.Answers.{writes_of}
use Rattle.sn_events.specs.Changing.{IsLogged}
use Rattle.sn_events.specs.Mounted.{IsMeant, holding_on, tree_at, trees_there}
use Rattle.sn_events.proofs.MeantLemmas.{trees_logged}

-- What a commit makes of the state, over each tree below.
pub record Commits (p : PreparedLive) (old new : LiveWorld) (file : Option ℕ) : Type 0 where
  pub over : (below : Tree) (change : Change) → IsOver old below → CanBeMade limits_written p (tree_over old below) change → IsOver new below
  pub made : (below : Tree) (change : Change) → IsOver old below → CanBeMade limits_written p (tree_over old below) change → (tree : Tree) × (apply limits_written change (world_over old below).live ≡ Some tree) × (world_over new below ≡ with_live (world_over old below) tree)
  pub merged : (below : Tree) (change : Change) → IsOver old below → CanBeMade limits_written p (tree_over old below) change → changes_of new ≡ merge (changes_of old) (layer_of_change (tree_over old below) change)
  pub lost : (trees : Trees) (change : Change) → IsOver old trees.live → CanBeMade limits_written p (tree_over old trees.live) change → IsWorld limits_written (world_in old trees) → OnlyLost (world_in new trees) file
  pub kept : (tree : Tree) (change : Change) → CanBeMade limits_written p tree change → (n : ℕ) → kept_of new n ≡ kept_after change (kept_of old) n
  pub since : (tree : Tree) (change : Change) → CanBeMade limits_written p tree change → (n : ℕ) → kept_since_of new n ≡ since_after change (kept_of old) (kept_since_of old) n

module _ (d0 d1 d2 : Disk) (s0 s1 s2 : Status) (at : LogPosition) (w0 w1 w2 : LiveWorld) (room : RoomCounts) (base : PointBase) (going : Option GoingPoint) (change : Change) (charge : ℕ) (p : PreparedLive) (file : Option ℕ) (m : IsMeant d0 s0 at w0 room base going)
    (whole0 : AreSectors (reads d0)) (whole2 : AreSectors (reads d2)) (same : d1 ≡ d0) (idle : s1 ≡ s0) (alike : Alike w0 w1) (can : CanBeMade limits_written p (tree_over w0 (tree_at d0 base.root)) change) (commits : Commits p w1 w2 file) (touched : Touches (InHalf (base_at at)) d1 d2) where
  abbrev trees : Trees
  trees = trees_there d0 base.root

  abbrev below : Tree
  below = tree_at d0 base.root

  abbrev h : Held
  h = holding_on d0 s0 at w0 room base going

  abbrev after : LogPosition → RoomCounts → Held
  after at2 room2 = holding_on d2 s2 at2 w2 room2 base going

  touched_here : Touches (InHalf (base_at at)) d0 d2
  touched_here = subst (λ (d : Disk). Touches (InHalf (base_at at)) d d2) same touched

  trees_are : trees_there d2 base.root ≡ trees
  trees_are = trees_logged h m.runs whole0 at.epoch d2 whole2 touched_here

  tree_is : tree_at d2 base.root ≡ below
  tree_is = ap (λ (t : Trees). t.live) trees_are

  over1 : IsOver w1 below
  over1 = alike.over below m.over

  world1 : world_over w1 below ≡ world_over w0 below
  world1 = alike.worlds below

  -- with the frozen trees
  abbrev in_it : World → World
  in_it w = record w { frozen = trees.frozen }

  can1 : CanBeMade limits_written p (tree_over w1 below) change
  can1 = subst (λ (w : World). CanBeMade limits_written p w.live change) (sym world1) can

  pub over_logged : IsOver w2 (tree_at d2 base.root)
  over_logged = subst (IsOver w2) (sym tree_is) (commits.over below change over1 can1)

  pub lost_logged : OnlyLost (world_in w2 (trees_there d2 base.root)) file
  lost_logged = subst (λ (t : Trees). OnlyLost (world_in w2 t) file) (sym trees_are) (commits.lost trees change over1 can1 (subst (IsWorld limits_written) (sym (ap in_it world1)) m.whole))

  kept1 : kept_of w1 ≡ kept_of w0
  kept1 = λ i n. alike.kept n i

  since1 : kept_since_of w1 ≡ kept_since_of w0
  since1 = λ i n. alike.since n i

  pub is_logged : {T E : Type 0} (ok : T) (at2 : LogPosition) (room2 : RoomCounts) → Appends {T = T} {E = E} at change (Ok ok) d1 d2 → at2 ≡ behind at change → room2 ≡ logged charge room → s2 ≡ called (writes_of change) 2 s1 → IsLogged change charge h (after at2 room2)
  is_logged {T} {E} ok at2 room2 appends moves charged costs =
      let a = subst (λ (d : Disk). Appends {T = T} {E = E} at change (Ok ok) d d2) same appends in
      let made = commits.made below change over1 can1 in
      record {
        made = record {
          tree = made.0;
          applied = ap (λ (w : World). apply limits_written change w.live) (sym world1) ∙ made.1;
          world = ap (world_in w2) trees_are ∙ ap in_it (made.2 ∙ ap (λ (w : World). with_live w made.0) world1);
        };
        kept = λ n. commits.kept (tree_over w1 below) change can1 n ∙ ap (λ (k : ℕ → Bool). kept_after change k n) kept1;
        since = λ n. commits.since (tree_over w1 below) change can1 n ∙ ap (λ (k : ℕ → Bool). since_after change k (kept_since_of w1) n) kept1 ∙ ap (λ (k : ℕ → Bool). since_after change (kept_of w0) k n) since1;
        charged = charged;
        at = moves;
        base = ap (kept_in base) (commits.merged below change over1 can1 ∙ ap (λ (l : Layer). merge l (layer_of_change (tree_over w1 below) change)) alike.changes ∙ ap (λ (w : World). merge (changes_of w0) (layer_of_change w.live change)) world1);
        point = refl;
        touched = a.touched;
        moments = a.any_moment;
        acknowledged = a.acknowledged;
        sectors = whole2;
        synced = a.synced;
        costs = costs ∙ ap (called (writes_of change) 2) idle;
      }
