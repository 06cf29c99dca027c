-- What the beginning of a point and its last step leave of the world that a mount runs over.
use Rattle.std.proofs.Common.{◌≡◌, inl, inr, ⊎_elim, ℕ, ◌+◌, ◌^◌, ◌<◌, List, [], ◌++◌, Result, refl, sym, subst, ◌∙◌, append-nil, arith}
use Rattle.std.specs.Prelude.{OnOk}
use Rattle.sn_changed.specs.Changed.{HasChanged}
use Rattle.sn_changed.proofs.ChangedLemmas.{nothing_changed}
use Rattle.sn_device.specs.Sectors.{AreSectors, Contents}
use Rattle.sn_device.specs.Disk.{Always, Disk, reads}
use Rattle.sn_device.specs.Crash.{LeavesOnly, Touches}
use Rattle.sn_device.specs.declared.fault.Fault.{Fault}
use Rattle.sn_device.proofs.CrashLemmas.{Always-reads}
use Rattle.sn_block.proofs.EffectLemmas.{OnOk-both}
use Rattle.sn_limits.specs.declared.limits.Limits.{Limits}
use Rattle.sn_limits.specs.Versions.{limits_written}
use Rattle.sn_log.specs.Positions.{first_of, payloads_of}
use Rattle.sn_model.specs.declared.change.Change.{Change}
use Rattle.sn_model.specs.Changes.{apply_all}
use Rattle.sn_model.specs.declared.outcome.AskedPoint.{AskedPoint}
use Rattle.sn_model.specs.Settling.{settle}
use Rattle.sn_model.specs.Tree.{Tree}
use Rattle.sn_model.specs.World.{World, trees_of}
use Rattle.sn_model.proofs.ListLemmas.{covers_itself}
use Rattle.sn_ondisk.specs.LogHalf.{HasNoLater, base_of}
use Rattle.sn_ondisk.specs.MapCopy.{HasMap}
use Rattle.sn_ondisk.specs.Shown.{Shown}
use Rattle.sn_ondisk.specs.TreeLaws.{SameIn}
use Rattle.sn_ondisk.specs.Trees.{Store, store_of}
use Rattle.sn_image.specs.Image.{image}
use Rattle.sn_opening.specs.Covering.{MakesCover}
use Rattle.sn_opening.specs.Opens.{IsDisk, Shows}
use Rattle.sn_opening.specs.Points.{HoldsAll, IsBuilt}
use Rattle.sn_opening.specs.Worlds.{StandsFor, all_reach, frozen_of}
use Rattle.sn_overlay.specs.Overlays.{no_changes}
use Rattle.sn_root.specs.Replacing.{LeavesEither}
use Rattle.sn_held.specs.Rooms.{begun, done, fresh}
use Rattle.sn_sound.specs.Charges.{Fits}
use Rattle.sn_sound.specs.Logs.{HasAgeLeft, IsToRecover}
use Rattle.sn_sound.specs.Maps.{free_blocks}
use Rattle.sn_held.specs.Held.{Held, Kept, Runs, RunsReady}
use Rattle.sn_held.specs.Images.{IsImage}
use Rattle.sn_held.specs.Room.{IsCharged}
use Rattle.sn_held.proofs.EventLemmas.{stands_of}
use Rattle.sn_held.proofs.HeldLemmas.{each_half, image_shown, ready_no_later}
use Rattle.sn_cp.specs.Points.{Work}
use Rattle.sn_cp.specs.Showing.{Finishes, InPoint, ShowsNext}
use Rattle.sn_cp.specs.Steps.{IsWithin, StandsAtStage, StepsTo}
use Rattle.sn_cp.specs.declared.stage.Stage.{Stage}
use Rattle.sn_cp.specs.declared.stage.Stage.TheVariants.{Bodied, Done}
use Rattle.sn_cp.proofs.NextLemmas.{done_points_stand}
use Rattle.sn_cp.proofs.ShowLemmas.{opening_shows}
use Rattle.sn_cp_held.specs.Snapshots.{live_behind, trees_behind}
use Rattle.sn_cp_held.specs.Wholes.{HasBegun, IsOfLive}
use Rattle.sn_cp_held.proofs.WholeLemmas.{later_weaker}
use Rattle.sn_cp_progress.specs.Meaning.{EitherImage}
use Rattle.sn_cp_progress.specs.Progress.{Progress, RunsOn, RunsTo, kept_behind, world_behind, world_to}
use Rattle.sn_cp_progress.proofs.StepLemmas.{LiesAround, around_stays, around_then, beside, in_point, none_behind, old_image}

-- ---- the beginning

-- a tree covers itself with no change
covers_alone : (tree : Tree) → MakesCover limits_written [] tree tree
unfolding apply_all
covers_alone tree = record { tree = tree; applied = refl; covers = covers_itself tree }

module _ (h : Held) (world : World) (k : Kept) (ready : RunsReady h world k) (asked : AskedPoint) (w : Work) (free : ℕ) (stage : Stage) (d : Disk) (of : IsOfLive h world ready.runs asked w (fresh free)) (whole : AreSectors (reads d)) (has : HasBegun h world ready.runs d)
    (within : IsWithin w stage) (stands : StandsAtStage w stage d) where
  abbrev old : Runs h world
  old = ready.runs

  abbrev geometry : ℕ
  geometry = h.at.blocks

  none_newer : old.newer ≡ []
  none_newer = ready.ready.between.none_newer

  one_on : old.root.epoch + 1 < 256 ^ 8
  one_on = let fits = (Always-reads d (Shows geometry old.store old.slot old.root old.older []) whole has.shows).shown.newest.body.fits.epoch.most in omega (arith, fits)

  none_later : (epoch : ℕ) → Always d (λ c. HasNoLater c (base_of geometry epoch) (old.root.epoch + 1))
  none_later epoch c crash =
      let around = has.around c crash in
      each_half geometry old.root.epoch (λ (b : ℕ). HasNoLater c b (old.root.epoch + 1))
      (later_weaker c (base_of geometry old.root.epoch) old.root.epoch (old.root.epoch + 1) (omega arith) around.none_later)
      (ready_no_later geometry c (first_of geometry (old.root.epoch + 1)) [] (old.root.epoch + 1) (old.root.epoch + 1) around.disk refl refl (omega arith) one_on around.ready) epoch

  begins_runs : Runs (record h { room = begun h.room; at = first_of geometry (old.root.epoch + 1); base = record k { changed = no_changes }; disk = d }) world
  begins_runs = record {
    is = old.is;
    store = old.store;
    slot = old.slot;
    root = old.root;
    words = old.words;
    older = old.older;
    newer = [];
    older_spelled = old.older_spelled;
    newer_spelled = tt;
    limits = old.limits;
    formatted = λ c crash. (has.around c crash).formatted;
    stands = record {
      disk = Always-reads d (IsDisk geometry) whole (λ c crash. (has.around c crash).disk);
      shows = has.shows;
      map = λ c crash. (has.around c crash).map;
      sound = old.stands.sound;
    };
    none_later = none_later;
    log = inr (refl, λ c crash. (has.around c crash).ready);
    cover = subst (λ (ns : List Change). MakesCover limits_written (old.older ++ ns) (image old.store old.root.inode_file) world.live) none_newer old.cover;
    charged = record {
      free = old.charged.free;
      charged = (subst (λ (ns : List Change). IsCharged h.room geometry old.store old.root (old.older ++ ns) world.live) none_newer old.charged).charged;
      parked = old.charged.parked;
      fits = (subst (λ (ns : List Change). IsCharged h.room geometry old.store old.root (old.older ++ ns) world.live) none_newer old.charged).fits;
    };
    age = subst (λ (ns : List Change). IsToRecover old.root (old.older ++ ns) (image old.store old.root.inode_file) → HasAgeLeft old.root) none_newer old.age;
    frozen = old.frozen;
  }

  begins_on : RunsTo (record h { room = begun h.room; at = first_of geometry (old.root.epoch + 1); base = record k { changed = no_changes }; disk = d }) world (live_behind asked (trees_of world)) (record { work = w; stage = stage; trees = trees_behind asked (trees_of world); free = free })
  unfolding begins_runs
  begins_on = record {
    runs = begins_runs;
    point = record {
      of = record { whole = of.whole; blocks = of.blocks; slot = of.slot; follows = of.follows; built = of.built; sound = of.sound; age = of.age };
      within = within;
      stands = stands;
      epoch = refl;
      ready = λ c crash. (has.around c crash).ready;
      none_later = λ c crash. (has.around c crash).none_later;
      cover = covers_alone (live_behind asked (trees_of world));
      charged = of.charged;
      takes = of.takes;
      slot = ready.ready.slot;
      root = ready.ready.root;
      changed = nothing_changed limits_written (live_behind asked (trees_of world));
      tree = of.tree;
    };
  }

pub point_begins : (h : Held) (world : World) (k : Kept) (r : RunsReady h world k) (asked : AskedPoint) (w : Work) (free : ℕ) (stage : Stage) (d : Disk) → IsOfLive h world r.runs asked w (fresh free) → AreSectors (reads d)
    → HasBegun h world r.runs d → IsWithin w stage → StandsAtStage w stage d
    → RunsTo (record h { room = begun h.room; at = first_of h.at.blocks (r.runs.root.epoch + 1); base = record k { changed = no_changes }; disk = d }) world (live_behind asked (trees_of world)) (record { work = w; stage = stage; trees = trees_behind asked (trees_of world); free = free })
point_begins h world k ready asked w free stage d of whole has within stands = begins_on h world k ready asked w free stage d of whole has within stands

-- ---- the steps that end with the last one

module _ (h : Held) (world : World) (live : Tree) (p : Progress) (ro : RunsTo h world live p) (result : Result (Unit {0}) Fault) (d : Disk) (whole : AreSectors (reads d)) (touched : Touches (InPoint p.work) h.disk d) (reached : OnOk result (StandsAtStage p.work Done d))
    (either : LeavesEither result h.disk d (Shows p.work.blocks ro.runs.store ro.runs.slot ro.runs.root ro.runs.older ro.runs.newer) (ShowsNext p.work ro.runs.store ro.runs.root ro.runs.newer [])) where
  abbrev n : ℕ
  n = h.at.blocks

  abbrev w : Work
  w = p.work

  abbrev r : Runs h world
  r = ro.runs

  abbrev after : World
  after = world_to live p world

  abbrev around : Contents → Type 0
  around = LiesAround n r.slot r.words r.root.epoch h.at r.newer

  -- the next root, over a store that has its blocks
  module _ (t : Store) (same : SameIn (all_reach r.store r.root) r.store t) (holds : HoldsAll t w.plan.blocks) where
    next_limits : w.plan.next.limits ≡ limits_written
    next_limits = ro.point.of.follows.limits

    next_tree : image t w.plan.next.inode_file ≡ p.trees.live
    next_tree = ro.point.of.built.tree t same holds

    next_cover : MakesCover limits_written (r.newer ++ []) (image t w.plan.next.inode_file) live
    next_cover = subst (λ (cs : List Change). MakesCover limits_written cs (image t w.plan.next.inode_file) live) (sym (append-nil r.newer)) (subst (λ (from : Tree). MakesCover limits_written r.newer from live) (sym next_tree) ro.point.cover)

    next_frozen : p.trees.frozen ≡ frozen_of t w.plan.next.snapshots
    next_frozen = sym (ro.point.of.built.frozen t same holds)

    next_charged : IsCharged (done p.free h.room) n t w.plan.next (r.newer ++ []) live
    next_charged = subst (λ (cs : List Change). IsCharged (done p.free h.room) n t w.plan.next cs live) (sym (append-nil r.newer)) (ro.point.charged t same holds)

    next_stands : StandsFor t w.plan.next (r.newer ++ []) (settle after)
    next_stands = stands_of t w.plan.next (r.newer ++ []) after next_limits next_cover next_frozen

    next_fits : Fits w.plan.next.limits (r.newer ++ []) (image t w.plan.next.inode_file) (free_blocks n t w.plan.next)
    next_fits =
        subst (λ (l : Limits). Fits l (r.newer ++ []) (image t w.plan.next.inode_file) (free_blocks n t w.plan.next)) (sym next_limits)
        (subst (Fits limits_written (r.newer ++ []) (image t w.plan.next.inode_file)) next_charged.free next_charged.fits)

  none_after : (c : Contents) → around c → (epoch : ℕ) → HasNoLater c (base_of n epoch) (w.plan.next.epoch + 1)
  none_after c here = none_behind h world p ro (w.plan.next.epoch + 1) (let e = ro.point.of.follows.epoch in omega (arith, e)) c here

  next_shows : (c : Contents) → ShowsNext w r.store r.root r.newer [] c → Shows n (store_of c) w.slot w.plan.next r.newer [] c
  next_shows c next = record { shown = subst (λ (m : ℕ). Shown m c w.slot w.plan.next (payloads_of r.newer) (payloads_of [])) ro.point.of.blocks next.shown; same = λ block among. refl }

  next_image : (c : Contents) → around c → ShowsNext w r.store r.root r.newer [] c → IsImage c (settle after)
  next_image c here next =
      image_shown n (store_of c) w.slot w.plan.next w.plan.words r.newer [] (settle after) r.newer_spelled tt (ro.point.of.sound (store_of c) next.same next.blocks)
      (next_stands (store_of c) next.same next.blocks) (next_fits (store_of c) next.same next.blocks) (λ recovers. ro.point.of.age)
      c here.disk here.formatted (subst (λ (m : ℕ). HasMap m c w.slot w.plan.words) ro.point.of.blocks next.map) (none_after c here) (next_shows c next)

  last_leaves : LeavesOnly h.disk d (EitherImage world after)
  last_leaves = record {
    follows = either.any_moment.follows;
    each = λ c since.
        let here = (around_stays h world p ro d touched).each c since in
        ⊎_elim
        (λ shows. inl (old_image h world p ro c here (subst (λ (m : ℕ). Shows m r.store r.slot r.root r.older r.newer c) ro.point.of.blocks shows)))
        (λ next. inr (next_image c here next))
        (either.any_moment.each c since);
  }

  module _ (stands : StandsAtStage w Done d) (next : Always d (ShowsNext w r.store r.root r.newer [])) where
    abbrev t : Store
    t = store_of (reads d)

    now : ShowsNext w r.store r.root r.newer [] (reads d)
    now = Always-reads d (ShowsNext w r.store r.root r.newer []) whole next

    abbrev behind : Held
    behind = record h { world = after; room = done p.free h.room; disk = d }

    last_runs : Runs behind after
    last_runs =
        let shown = done_points_stand w r.store r.root p.trees r.newer d whole (subst (λ (m : ℕ). IsBuilt m r.store r.root p.trees w.plan) (sym ro.point.of.blocks) ro.point.of.built) stands next in
        let here = around_then h world p ro d touched in
        record {
          is = refl;
          store = t;
          slot = w.slot;
          root = w.plan.next;
          words = w.plan.words;
          older = r.newer;
          newer = [];
          older_spelled = r.newer_spelled;
          newer_spelled = tt;
          limits = next_limits t now.same now.blocks;
          formatted = λ c crash. (here c crash).formatted;
          stands = record {
            disk = Always-reads d (IsDisk n) whole (λ c crash. (here c crash).disk);
            shows = subst (λ (m : ℕ). Always d (Shows m t w.slot w.plan.next r.newer [])) ro.point.of.blocks shown.shows;
            map = λ c crash. subst (λ (m : ℕ). HasMap m c w.slot w.plan.words) ro.point.of.blocks (next c crash).map;
            sound = ro.point.of.sound t now.same now.blocks;
          };
          none_later = λ epoch c crash. none_after c (here c crash) epoch;
          log = inl (refl, ro.point.epoch ∙ sym ro.point.of.follows.epoch, λ c crash. (here c crash).ready);
          cover = next_cover t now.same now.blocks;
          charged = next_charged t now.same now.blocks;
          age = λ recovers. ro.point.of.age;
          frozen = next_frozen t now.same now.blocks;
        }

    last_ready : RunsReady behind after (kept_behind h p)
    unfolding last_runs
    last_ready =
        let here = around_then h world p ro d touched in
        record {
          runs = last_runs;
          ready = record {
            between = record { none_newer = refl; epoch = ro.point.epoch ∙ sym ro.point.of.follows.epoch; ready = λ c crash. (here c crash).ready; synced = stands.reached.1 };
            slot = refl;
            root = refl;
            words = refl;
            changed = subst (λ (from : Tree). HasChanged limits_written h.base.changed from live h.room.charged_since) (sym (next_tree t now.same now.blocks)) ro.point.changed;
            tree = ro.point.tree;
          };
        }

  last_ends : OnOk result (RunsReady (record h { world = after; room = done p.free h.room; disk = d }) after (kept_behind h p))
  last_ends = OnOk-both result last_ready reached either.done

module _ (h : Held) (world : World) (p : Progress) (result : Result (Unit {0}) Fault) (d : Disk) (ro : RunsOn h world p) (whole : AreSectors (reads d)) where
  pub point_ends : p.stage ≡ Bodied → StepsTo p.work p.stage result h.disk d → LeavesOnly h.disk d (EitherImage world (world_behind p world)) × OnOk result (RunsReady (record h { world = world_behind p world; room = done p.free h.room; disk = d }) (world_behind p world) (kept_behind h p))
  point_ends is_last step =
      let old = ro.runs in
      let stands = subst (λ (stage : Stage). StandsAtStage p.work stage h.disk) is_last ro.point.stands in
      let last = subst (λ (stage : Stage). StepsTo p.work stage result h.disk d) is_last step in
      let touched = in_point h world p ro result d whole step in
      let either = opening_shows p.work ro.point.of.whole old.store old.slot old.root old.older old.newer old.newer [] result h.disk d old.stands.disk.whole (beside h world p ro) stands last in
      (last_leaves h world world.live p ro result d whole touched last.next either, last_ends h world world.live p ro result d whole touched last.next either)

-- whichever live tree it leads to
pub point_finishes : (h : Held) (world : World) (live : Tree) (p : Progress) (result : Result (Unit {0}) Fault) (d : Disk) → RunsTo h world live p → AreSectors (reads d) → Finishes p.work result h.disk d
    → LeavesOnly h.disk d (EitherImage world (world_to live p world)) × OnOk result (RunsReady (record h { world = world_to live p world; room = done p.free h.room; disk = d }) (world_to live p world) (kept_behind h p))
point_finishes h world live p result d ro whole all =
    let old = ro.runs in
    let either = all.shown old.store old.slot old.root old.older old.newer old.newer [] (beside h world p ro) in
    (last_leaves h world live p ro result d whole all.touched all.done either, last_ends h world live p ro result d whole all.touched all.done either)
