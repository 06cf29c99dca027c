-- What a point makes of a live tree that is read: what is shown over its root is what was shown.
use Rattle.std.proofs.Common.{◌≡◌, Option, None, Some, refl, sym, ap, subst, ◌∙◌}
use Rattle.std.specs.FinMap as map
use Rattle.sn_changed.specs.Changed.{HasChanged}
use Rattle.sn_cp_progress.specs.Meaning.{EitherImage, RunsWith, progress_over}
use Rattle.sn_cp_progress.specs.Progress.{RunsOn}
use Rattle.sn_cp_progress.proofs.MeaningLemmas.{on_with}
use Rattle.sn_cp_whole.specs.Going.{going_of, with_disk, with_frozen, with_log}
use Rattle.sn_cp_whole.specs.Making.{over_world, with_parts}
use Rattle.sn_cp_whole.specs.Planning.{kept_in}
use Rattle.sn_cp_whole.specs.declared.base.PointBase.{PointBase}
use Rattle.sn_cp_whole.specs.declared.going.GoingPoint.{GoingPoint}
use Rattle.sn_device.specs.Crash.{LeavesOnly}
use Rattle.sn_device.proofs.CrashLemmas.{LeavesOnly-weaker}
use Rattle.sn_device.specs.Disk.{Disk, reads}
use Rattle.sn_device.specs.Sectors.{AreSectors}
use Rattle.sn_device.specs.declared.status.Status.{Status}
use Rattle.sn_held.specs.Held.{Going, Held, Kept, RunsReady}
use Rattle.sn_held.specs.Images.{IsImage}
use Rattle.sn_held.proofs.EventLemmas.{ready_with}
use Rattle.sn_limits.specs.Versions.{limits_written}
use Rattle.sn_live.proofs.LiveLemmas.{none_shows}
use Rattle.sn_live_world.specs.World.{changes_of, tree_over, world_in, world_over}
use Rattle.sn_live_world.specs.declared.world.LiveWorld.{LiveWorld}
use Rattle.sn_log.specs.Positions.{LogPosition}
use Rattle.sn_model.specs.declared.outcome.AskedPoint.{AskedPoint}
use Rattle.sn_model.specs.declared.outcome.AskedPoint.TheVariants.{Unasked, Plain, Freezes, Thaws, Restores}
use Rattle.sn_model.specs.Settling.{settle}
use Rattle.sn_model.specs.Steps.{pointed, restored}
use Rattle.sn_model.specs.Tree.{Tree}
use Rattle.sn_model.specs.World.{Trees, World, trees_of}
use Rattle.sn_overlay.specs.Layers.{through}
use Rattle.sn_overlay.specs.Overlays.{no_changes}
use Rattle.sn_held.specs.Rooms.{RoomCounts, begun, done}
use Rattle.sn_events.specs.Mounted.{RunsNow, going_in, holding_on, tree_at, trees_there}
use Rattle.sn_events.proofs.MeantLemmas.{frozen_read, tree_ready}
use Rattle.sn_events.proofs.PointLemmas.{either_same, running_between}

-- a root on which nothing has changed shows what runs over it
bare_root : (h : Held) (w : World) (k : Kept) → AreSectors (reads h.disk) → k.changed ≡ no_changes → RunsReady h w k → tree_at h.disk k.root ≡ w.live
bare_root h w k whole none ready = sym (none_shows k.changed (tree_at h.disk k.root) none) ∙ (tree_ready h w k whole ready).shows

-- over the same frozen trees a live tree that shows the same gives the same world
same_world : (w0 w1 : LiveWorld) (old new : Trees) → new.frozen ≡ old.frozen → world_over w1 new.live ≡ world_over w0 old.live → world_in w1 new ≡ world_in w0 old
same_world w0 w1 old new frozen live = λ i. record (live i) { frozen = frozen i }

-- ---- a whole point was made

-- it makes no difference but to the trees
restored_is : (o : Option Tree) (w : World) → restored o w ≡ record w { live = (restored o w).live; frozen = (restored o w).frozen }
restored_is None w = refl
restored_is (Some tree) w = refl

pointed_is : (p : AskedPoint) (w : World) → pointed p w ≡ record w { live = (pointed p w).live; frozen = (pointed p w).frozen }
pointed_is Unasked w = refl
pointed_is Plain w = refl
pointed_is (Freezes name) w = refl
pointed_is (Thaws name) w = refl
pointed_is (Restores name) w = restored_is (map.get w.frozen name) w

module _ (d0 d1 : Disk) (s0 s1 : Status) (at0 at1 : LogPosition) (w0 w1 : LiveWorld) (room0 room1 : RoomCounts) (base0 base1 : PointBase) (going : Option GoingPoint) (none : going_in going ≡ None) (whole : AreSectors (reads d1)) (asked : AskedPoint) (Can : World → Type 0) (can : Can (world_in w0 (trees_there d0 base0.root)))
    (point : (h : Held) (world : World) → RunsReady (with_parts h at0 room0 d0) world (kept_in base0 (changes_of w0)) → Can world → LeavesOnly d0 d1 (EitherImage world (pointed asked world)) × RunsReady (over_world (pointed asked world) (with_parts h at1 room1 d1)) (pointed asked world) (kept_in base1 no_changes))
    (shown : (new : Tree) → new ≡ (pointed asked (world_in w0 (trees_there d0 base0.root))).live → world_over w1 new ≡ record (world_over w0 (tree_at d0 base0.root)) { live = new }) (empty : changes_of w1 ≡ no_changes) where
  abbrev old : Held
  old = holding_on d0 s0 at0 w0 room0 base0 going

  abbrev new : Held
  new = holding_on d1 s1 at1 w1 room1 base1 going

  abbrev after : World
  after = pointed asked old.world

  module _ (r : RunsReady old old.world old.base) where
    made : LeavesOnly d0 d1 (EitherImage old.world after) × RunsReady (over_world after (with_parts old at1 room1 d1)) after (kept_in base1 no_changes)
    made = point old old.world r can

    pub moments_pointed : LeavesOnly d0 d1 (EitherImage old.world after)
    moments_pointed = made.0

    tree_pointed : tree_at d1 base1.root ≡ after.live
    tree_pointed = bare_root (over_world after (with_parts old at1 room1 d1)) after (kept_in base1 no_changes) whole refl made.1

    frozen_pointed : (trees_there d1 base1.root).frozen ≡ after.frozen
    frozen_pointed = frozen_read (over_world after (with_parts old at1 room1 d1)) after made.1.runs whole base1.root made.1.ready.root

    pub world_pointed : new.world ≡ after
    world_pointed =
        (λ i. record (shown (tree_at d1 base1.root) tree_pointed i) { frozen = frozen_pointed i })
        ∙ (λ i. record old.world { live = tree_pointed i; frozen = after.frozen }) ∙ sym (pointed_is asked old.world)

    pub ready_pointed : RunsReady new after new.base
    ready_pointed =
        subst (λ (k : Kept). RunsReady (record new { base = k }) after k) (λ i. kept_in base1 (sym empty i))
        (subst (λ (w : World). RunsReady (record new { world = w; base = kept_in base1 no_changes }) after (kept_in base1 no_changes)) (sym world_pointed)
        (ready_with (over_world after (with_parts old at1 room1 d1)) after (kept_in base1 no_changes) new.kept new.kept_since (kept_in base1 no_changes) old.point s1 made.1))

  module _ (r : RunsNow old) where
    ready : RunsReady old old.world old.base
    ready = subst (λ (p : Option Going). RunsWith p old old.world) none r

    pub tree_made : tree_at d1 base1.root ≡ after.live
    tree_made = tree_pointed ready

    pub world_made : new.world ≡ after
    world_made = world_pointed ready

    pub runs_made : RunsNow new
    runs_made = subst (RunsWith (going_in going) new) (sym world_made) (running_between new after none (ready_pointed ready))

-- ---- a point has begun

module _ (d0 d1 : Disk) (s0 s1 : Status) (at0 at1 : LogPosition) (w0 w1 : LiveWorld) (room0 room1 : RoomCounts) (base : PointBase) (going : Option GoingPoint) (none : going_in going ≡ None) (point : GoingPoint)
    (begins : (h : Held) (world : World) → RunsReady (with_log h at0 d0) world (kept_in base (changes_of w0)) → LeavesOnly d0 d1 (λ c. IsImage c (settle world)) × RunsOn (record h { room = begun h.room; at = at1; base = kept_in base no_changes; disk = d1 }) world (progress_over (going_of point) (trees_of world)))
    (trees : trees_there d1 base.root ≡ trees_there d0 base.root) (shown : (below : Tree) → world_over w1 below ≡ world_over w0 below) (empty : changes_of w1 ≡ no_changes) (room : room1 ≡ begun room0) where
  abbrev before : Held
  before = holding_on d0 s0 at0 w0 room0 base going

  abbrev under_way : Held
  under_way = holding_on d1 s1 at1 w1 room1 base (Some point)

  pub world_begun : under_way.world ≡ before.world
  world_begun = ap (world_in w1) trees ∙ same_world w0 w1 (trees_there d0 base.root) (trees_there d0 base.root) refl (shown (tree_at d0 base.root))

  module _ (r : RunsReady before before.world before.base) where
    first : LeavesOnly d0 d1 (λ c. IsImage c (settle before.world)) × RunsOn (record before { room = begun room0; at = at1; base = kept_in base no_changes; disk = d1 }) before.world (progress_over (going_of point) (trees_of before.world))
    first = begins before before.world r

    pub moments_begun : LeavesOnly d0 d1 (λ c. IsImage c (settle before.world))
    moments_begun = first.0

    pub on_begun : RunsWith (Some (going_of point)) under_way before.world
    on_begun = (
      before.world.live,
      subst (λ (h : Held). RunsOn h before.world (progress_over (going_of point) (trees_of before.world)))
          (λ i. record under_way { world = sym world_begun i; room = sym room i; base = kept_in base (sym empty i) })
          (on_with (record before { room = begun room0; at = at1; base = kept_in base no_changes; disk = d1 }) before.world (progress_over (going_of point) (trees_of before.world)) under_way.kept under_way.kept_since under_way.point s1 first.1),
    )

  pub runs_begun : RunsNow before → RunsNow under_way
  runs_begun r = subst (RunsWith (Some (going_of point)) under_way) (sym world_begun) (on_begun (subst (λ (p : Option Going). RunsWith p before before.world) none r))

-- ---- a step was made that isn't the last

module _ (d0 d1 : Disk) (s0 s1 : Status) (at : LogPosition) (w : LiveWorld) (room : RoomCounts) (base : PointBase) (point next : GoingPoint) (whole : AreSectors (reads d1))
    (goes : (h : Held) (world : World) (trees : Trees) → RunsOn (with_disk h d0) world (progress_over (going_of point) trees) → LeavesOnly d0 d1 (λ c. IsImage c (settle world)) × RunsOn (record h { disk = d1 }) world (progress_over (going_of next) trees))
    (keeps : (h : Held) (world : World) (trees : Trees) → RunsOn (with_disk h d0) world (progress_over (going_of point) trees) → tree_at d1 h.base.root ≡ tree_at d0 h.base.root) where
  abbrev here : Held
  here = holding_on d0 s0 at w room base (Some point)

  abbrev there : Held
  there = holding_on d1 s1 at w room base (Some next)

  module _ (r : RunsNow here) where
    abbrev built : Trees
    built = record { live = r.0; frozen = here.world.frozen }

    on : RunsOn (record here { disk = d1 }) here.world (progress_over (going_of next) built)
    on = (goes here here.world built r.1).1

    pub tree_gone : tree_at d1 base.root ≡ tree_at d0 base.root
    tree_gone = keeps here here.world built r.1

    pub world_gone : there.world ≡ here.world
    world_gone = same_world w w (trees_there d0 base.root) (trees_there d1 base.root) (frozen_read (record here { disk = d1 }) here.world on.runs whole base.root on.point.root) (ap (world_over w) tree_gone)

    pub moments_gone : LeavesOnly d0 d1 (λ c. IsImage c (settle here.world))
    moments_gone = (goes here here.world built r.1).0

    pub on_gone : RunsWith there.point there here.world
    on_gone = (
      r.0,
      subst (λ (h : Held). RunsOn h here.world (progress_over (going_of next) built)) (λ i. record there { world = sym world_gone i })
          (on_with (record here { disk = d1 }) here.world (progress_over (going_of next) built) here.kept here.kept_since there.point s1 on),
    )

    pub runs_gone : RunsNow there
    runs_gone = subst (RunsWith there.point there) (sym world_gone) on_gone

-- ---- the last one was made

module _ (d0 d1 : Disk) (s0 s1 : Status) (at : LogPosition) (w0 w1 : LiveWorld) (room0 room1 : RoomCounts) (base0 base1 : PointBase) (point : GoingPoint) (going : Option GoingPoint) (none : going_in going ≡ None) (whole : AreSectors (reads d1))
    (finish : (h : Held) (world : World) (trees : Trees) → RunsOn (with_disk h d0) world (progress_over (going_of point) trees) → LeavesOnly d0 d1 (EitherImage world (with_frozen world trees.frozen)) × RunsReady (record h { world = with_frozen world trees.frozen; room = done point.free h.room; disk = d1 }) (with_frozen world trees.frozen) (kept_in base1 h.base.changed))
    (shown : (old new : Tree) → through (changes_of w0) new ≡ tree_over w0 old → world_over w1 new ≡ world_over w0 old) (same : changes_of w1 ≡ changes_of w0) (room : room1 ≡ done point.free room0) where
  abbrev last : Held
  last = holding_on d0 s0 at w0 room0 base0 (Some point)

  abbrev ended : Held
  ended = holding_on d1 s1 at w1 room1 base1 going

  module _ (r : RunsNow last) where
    ends : LeavesOnly d0 d1 (EitherImage last.world last.world) × RunsReady (record last { room = done point.free room0; disk = d1 }) last.world (kept_in base1 (changes_of w0))
    ends = finish last last.world (record { live = r.0; frozen = last.world.frozen }) r.1

    pub moments_ended : LeavesOnly d0 d1 (λ c. IsImage c (settle last.world))
    moments_ended = LeavesOnly-weaker d0 d1 (EitherImage last.world last.world) (λ c. IsImage c (settle last.world)) (λ c either. either_same either) ends.0

    pub changed_ended : HasChanged limits_written (changes_of w0) (tree_at d1 base1.root) last.world.live (done point.free room0).charged
    changed_ended = tree_ready (record last { room = done point.free room0; disk = d1 }) last.world (kept_in base1 (changes_of w0)) whole ends.1

    pub world_ended : ended.world ≡ last.world
    world_ended =
        same_world w0 w1 (trees_there d0 base0.root) (trees_there d1 base1.root)
        (frozen_read (record last { room = done point.free room0; disk = d1 }) last.world ends.1.runs whole base1.root ends.1.ready.root) (shown (tree_at d0 base0.root) (tree_at d1 base1.root) changed_ended.shows)

    pub ready_ended : RunsReady ended last.world ended.base
    ready_ended =
        subst (λ (k : Kept). RunsReady (record ended { base = k }) last.world k) (λ i. kept_in base1 (sym same i))
        (subst (λ (h : Held). RunsReady h last.world (kept_in base1 (changes_of w0))) (λ i. record ended { world = sym world_ended i; room = sym room i; base = kept_in base1 (changes_of w0) })
        (ready_with (record last { room = done point.free room0; disk = d1 }) last.world (kept_in base1 (changes_of w0)) ended.kept ended.kept_since (kept_in base1 (changes_of w0)) ended.point s1 ends.1))

    pub runs_ended : RunsNow ended
    runs_ended = subst (RunsWith (going_in going) ended) (sym world_ended) (running_between ended last.world none ready_ended)
