use Rattle.std.proofs.Common.{◌≡◌, ◌≤◌, ℕ, List, Err, Option, Some, false, refl, sym, ap, subst, ◌∙◌, arith, ◌+◌}
use Rattle.std.specs.FinMap as map
use Rattle.sn_block.specs.Lending.{device_of}
use Rattle.sn_cp_held.specs.Wholes.{CanBeRestored}
use Rattle.sn_cp_progress.specs.Meaning.{EitherImage, RunsWith}
use Rattle.sn_cp_whole.specs.Making.{CostsPoint, over_world, with_parts}
use Rattle.sn_cp_whole.specs.Planning.{kept_in}
use Rattle.sn_cp_whole.specs.declared.base.PointBase.{PointBase}
use Rattle.sn_desc.specs.InUse.{InUse, live_in}
use Rattle.sn_device.specs.Crash.{LeavesOnly}
use Rattle.sn_held.specs.Held.{Going, Held, RunsReady}
use Rattle.sn_limits.specs.Versions.{limits_written}
use Rattle.sn_live_world.specs.Restored.{IsRestored, drops_of}
use Rattle.sn_live_world.specs.World.{HasDrops, IsOver, changes_of, world_in, world_over}
use Rattle.sn_live_world.specs.declared.restoring.RestoredTree.{RestoredTree}
use Rattle.sn_live_world.specs.declared.world.LiveWorld.{LiveWorld}
use Rattle.sn_log.specs.Positions.{LogPosition}
use Rattle.sn_model.specs.Settling.{settled}
use Rattle.sn_model.specs.Steps.{pointed, restored, with_live}
use Rattle.sn_model.specs.Tree.{Tree}
use Rattle.sn_model.specs.World.{World}
use Rattle.sn_model.specs.Worlds.{IsWorld}
use Rattle.sn_model.specs.declared.outcome.AskedPoint.TheVariants.{Restores}
use Rattle.sn_overlay.specs.Layers.{Layer}
use Rattle.sn_overlay.specs.Needs.{need}
use Rattle.sn_overlay.specs.Overlays.{no_changes}
use Rattle.sn_held.specs.Rooms.{RoomCounts, fresh}
use Rattle.sn_events.specs.Answers.{BuildsFor}
use Rattle.sn_events.specs.Mounted.{trees_there}
use Rattle.sn_events.specs.Pointing.{IsToBringBack}
use Rattle.sn_events.proofs.BasedLemmas.{base_none, based_none, stands_none, first_there}
use Rattle.sn_events.proofs.CallLemmas.{figures}
use Rattle.sn_events.proofs.PointLemmas.{not_device, point_unmade}
use Rattle.sn_fs.specs.Filesystem.{held, tree_of}
use Rattle.sn_fs.proofs.MountedLemmas.{kept_mounted, unmade_same}
use Rattle.sn_fs.proofs.PointedLemmas.{moments_pointed, ready_pointed, runs_made, tree_made, world_made, world_pointed}
use Rattle.sn_fs.proofs.fs.Fs.replace_tree.Goals as goal

-- a snapshot's tree without its files without names takes the live one's place
live_is : (world : World) (name : List ℕ) (tree : Tree) → map.get world.frozen name ≡ Some tree → (pointed (Restores name) world).live ≡ settled tree
live_is world name tree is = ap (λ (o : Option Tree). (restored o world).live) is

-- the tree that was prepared is shown then
shows : (w0 w1 : LiveWorld) (below : Tree) (name : List ℕ) (world : World) (tree : Tree) (p : RestoredTree) → map.get world.frozen name ≡ Some tree → IsRestored p tree → ((frozen old : Tree) → IsRestored p frozen → world_over w1 (settled frozen) ≡ with_live (world_over w0 old) (settled frozen))
    → (new : Tree) → new ≡ (pointed (Restores name) world).live → world_over w1 new ≡ record (world_over w0 below) { live = new }
shows w0 w1 below name world tree p is restores over new same =
    subst (λ (t : Tree). world_over w1 t ≡ record (world_over w0 below) { live = t }) (sym (same ∙ live_is world name tree is)) (over tree below restores)

-- what is built for it
module _ (name : List ℕ) (h : Held) (p : RestoredTree) (to : IsToBringBack p name h) where
  can_restore : CanBeRestored name (drops_of p) h.room h.world
  can_restore = record { tree = to.can.tree; frozen = to.can.frozen; drops = to.restores.changed limits_written figures; fits = to.can.fits }

  builds : BuildsFor (Restores name) h (drops_of p)
  builds = (to.can.tree, to.can.frozen, to.restores.changed limits_written figures)

pub make_restore-requires-clause-base : goal.make_restore-requires-clause-base
make_restore-requires-clause-base g c = base_none c.args.self.now.going c.args.self.now.log c.args.self.now.base c.requires.between (c.requires.sound.based c.requires.running)

pub returns-in-Ok-clause-brings : goal.returns-in-Ok-clause-brings
returns-in-Ok-clause-brings g c told r can =
    let fs = c.args.self.now in
    let old = held fs in
    let name = c.args.name.now in
    let p = c.args.restored in
    let to = c.requires.there told in
    let Can : World → Type 0 = CanBeRestored name (drops_of p) fs.room in
    let may = can_restore name old p to in
    let d0 = g.D.Device.disk (device_of fs.blocks) in
    let d1 = g.D.Device.disk (device_of c.make_restore.new.blocks) in
    let whole = g.met.D.Device.whole (device_of c.make_restore.new.blocks) told in
    let e = c.in-Ok.ensures in
    let next = c.restore.ensures in
    let of_changes = c.changes.ensures in
    let point : (h : Held) (world : World) → RunsReady (with_parts h fs.log fs.room d0) world (kept_in fs.base (changes_of fs.world)) → Can world → LeavesOnly d0 d1 (EitherImage world (pointed (Restores name) world)) × RunsReady (over_world (pointed (Restores name) world) (with_parts h c.make_restore.new.log c.make_restore.new.room d1)) (pointed (Restores name) world) (kept_in c.make_restore.new.base no_changes) =
    λ h world ready may. e.point told h world (changes_of fs.world) ready (subst (λ (l : Layer). CanBeRestored name l fs.room world) (sym of_changes) may) in
    let shown = shows fs.world c.restore.new.self (tree_of fs) name old.world to.can.tree p to.can.frozen to.restores next.world in
    let s0 = g.D.Device.status (device_of fs.blocks) in
    let s1 = g.D.Device.status (device_of c.make_restore.new.blocks) in
    let done = e.costs.done in
    record {
      between = c.requires.between;
      world = world_pointed d0 d1 s0 s1 fs.log c.make_restore.new.log fs.world c.restore.new.self fs.room c.make_restore.new.room fs.base c.make_restore.new.base fs.going c.requires.between whole (Restores name) Can may point shown next.changes r;
      fresh = record {
        between = c.requires.between;
        log = first_there c.make_restore.new.log fs.log.blocks (fs.log.epoch + 1) c.make_restore.new.base.root.epoch e.log e.base.epoch;
        room = e.room ∙ ap fresh (sym (ap (λ (x : RoomCounts). x.free) e.room));
        changed = next.changes;
        none_kept = next.kept;
        none_since = next.since;
      };
      log = e.log;
      follows = e.follows;
      age = e.age;
      moments = moments_pointed d0 d1 s0 s1 fs.log c.make_restore.new.log fs.world c.restore.new.self fs.room c.make_restore.new.room fs.base c.make_restore.new.base fs.going c.requires.between whole (Restores name) Can may point shown next.changes r;
      touched = e.touched told;
      built = drops_of p;
      builds = builds name old p to;
      runs = ready_pointed d0 d1 s0 s1 fs.log c.make_restore.new.log fs.world c.restore.new.self fs.room c.make_restore.new.room fs.base c.make_restore.new.base fs.going c.requires.between whole (Restores name) Can may point shown next.changes r;
      count = done.0;
      few = subst (λ (l : Layer). done.0 ≤ need fs.base.root.limits l) of_changes done.1;
      gate = done.2;
      costs = done.3;
    }

pub returns-in-Ok-clause-sound : goal.returns-in-Ok-clause-sound
returns-in-Ok-clause-sound g c =
    let fs = c.args.self.now in
    let running = c.requires.running in
    let sound = c.requires.sound in
    let e = c.in-Ok.ensures in
    let next = c.restore.ensures in
    record {
      within = λ _. omega (arith, sound.within running, ap (λ (at : LogPosition). at.blocks) e.log, e.costs.later.sectors);
      parked = λ _. omega (arith, ap (λ (r : RoomCounts). r.dropped) e.room, c.nameless-nameless.ensures.exact);
      based = λ _. based_none fs.going c.make_restore.new.log c.make_restore.new.base c.requires.between e.base;
      between = λ _ _. next.point;
      drops = λ _. subst (HasDrops c.restore.new.self) (c.open_files-drops.ensures ∙ ap (λ (u : InUse). live_in u.descriptors) (sym next.sessions)) (next.drops c.open_files-drops.result e.drops);
      meant = λ _ told.
          let m = sound.meant running told in
          let old = held fs in
          let name = c.args.name.now in
          let p = c.args.restored in
          let to = c.requires.there told in
          let Can : World → Type 0 = CanBeRestored name (drops_of p) fs.room in
          let may = can_restore name old p to in
          let d0 = g.D.Device.disk (device_of fs.blocks) in
          let d1 = g.D.Device.disk (device_of c.make_restore.new.blocks) in
          let whole = g.met.D.Device.whole (device_of c.make_restore.new.blocks) told in
          let point : (h : Held) (world : World) → RunsReady (with_parts h fs.log fs.room d0) world (kept_in fs.base (changes_of fs.world)) → Can world → LeavesOnly d0 d1 (EitherImage world (pointed (Restores name) world)) × RunsReady (over_world (pointed (Restores name) world) (with_parts h c.make_restore.new.log c.make_restore.new.room d1)) (pointed (Restores name) world) (kept_in c.make_restore.new.base no_changes) =
          λ h world ready may. e.point told h world (changes_of fs.world) ready (subst (λ (l : Layer). CanBeRestored name l fs.room world) (sym c.changes.ensures) may) in
          let shown = shows fs.world c.restore.new.self (tree_of fs) name old.world to.can.tree p to.can.frozen to.restores next.world in
          let s0 = g.D.Device.status (device_of fs.blocks) in
          let s1 = g.D.Device.status (device_of c.make_restore.new.blocks) in
          record {
            over = subst (IsOver c.restore.new.self) (sym (tree_made d0 d1 s0 s1 fs.log c.make_restore.new.log fs.world c.restore.new.self fs.room c.make_restore.new.room fs.base c.make_restore.new.base fs.going c.requires.between whole (Restores name) Can may point shown next.changes m.runs ∙ live_is old.world name to.can.tree to.can.frozen)) (next.over to.can.tree to.restores);
            whole = subst (IsWorld limits_written) (sym (world_made d0 d1 s0 s1 fs.log c.make_restore.new.log fs.world c.restore.new.self fs.room c.make_restore.new.room fs.base c.make_restore.new.base fs.going c.requires.between whole (Restores name) Can may point shown next.changes m.runs)) to.can.whole;
            runs = runs_made d0 d1 s0 s1 fs.log c.make_restore.new.log fs.world c.restore.new.self fs.room c.make_restore.new.room fs.base c.make_restore.new.base fs.going c.requires.between whole (Restores name) Can may point shown next.changes m.runs;
            stands = stands_none fs.going _ c.requires.between;
          };
    }

pub returns-in-Err-clause-brings : goal.returns-in-Err-clause-brings
returns-in-Err-clause-brings g c told r can =
    let fs = c.args.self.now in
    let old = held fs in
    let name = c.args.name.now in
    let p = c.args.restored in
    let to = c.requires.there told in
    let e = c.in-Err.ensures in
    let d1 = g.D.Device.disk (device_of c.make_restore.new.blocks) in
    let new = held (record fs { blocks = c.make_restore.new.blocks; base = c.make_restore.new.base; log = c.make_restore.new.log; room = c.make_restore.new.room }) in
    let parts = with_parts old c.make_restore.new.log c.make_restore.new.room d1 in
    let may = subst (λ (l : Layer). CanBeRestored name l fs.room old.world) (sym c.changes.ensures) (can_restore name old p to) in
    let costs = subst (λ (l : Layer). CostsPoint c.make_restore.result fs.log.blocks (need fs.base.root.limits l) old.status new.status) c.changes.ensures c.make_restore.ensures.costs in
    point_unmade (pointed (Restores name) old.world) (BuildsFor (Restores name) old) old new (λ same. λ i. world_in fs.world (trees_there (same i) (e.keeps.0 i).root)) refl refl refl e.keeps.1 (ap (λ (b : PointBase). kept_in b (changes_of fs.world)) e.keeps.0) (drops_of p) (builds name old p to)
    c.in-Err.fault (Restores name) old.world refl refl parts (kept_in c.make_restore.new.base no_changes) refl e.stays (e.point told old old.world (changes_of fs.world) r may) (e.touched told) e.costs.cause e.costs.later
    (record { writes = costs.writes; syncs = costs.syncs }) (λ is. e.aged (ap Err is))

pub returns-in-Err-clause-sound : goal.returns-in-Err-clause-sound
returns-in-Err-clause-sound g c =
    let fs = c.args.self.now in
    let e = c.in-Err.ensures in
    let d0 = g.D.Device.disk (device_of fs.blocks) in
    let not_cut = λ (goes_on : c.stops-self.result ≡ false). not_device c.in-Err.fault (sym c.stops-self.ensures ∙ goes_on) in
    kept_mounted g.D.Device.tells_bytes d0 _ _ _ fs.log c.make_restore.new.log fs.world fs.room c.make_restore.new.room fs.base c.make_restore.new.base fs.going fs.has_stopped c.stops-self.result c.requires.running e.keeps.0 e.keeps.1 (λ goes_on. e.stays (not_cut goes_on)) e.costs.later.sectors
    (λ goes_on told.
    let m = c.requires.sound.meant c.requires.running told in
    let old = held fs in
    let name = c.args.name.now in
    let r = subst (λ (p : Option Going). RunsWith p old old.world) c.requires.between m.runs in
    let may = subst (λ (l : Layer). CanBeRestored name l fs.room old.world) (sym c.changes.ensures) (can_restore name old c.args.restored (c.requires.there told)) in
    unmade_same c.in-Err.fault (not_cut goes_on) (Restores name) old.world d0 _ _ (e.point told old old.world (changes_of fs.world) r may)) c.requires.sound
