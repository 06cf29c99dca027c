use Rattle.std.proofs.Common.{◌≡◌, ◌≤◌, Err, Option, false, refl, sym, ap, subst, ◌∙◌, arith, ◌+◌}
use Rattle.sn_block.specs.Lending.{device_of}
use Rattle.sn_cp_progress.specs.Meaning.{EitherImage, RunsWith}
use Rattle.sn_cp_whole.specs.Making.{CanBeAsked, CostsPoint, over_world, with_parts}
use Rattle.sn_cp_whole.specs.Planning.{kept_in}
use Rattle.sn_cp_whole.specs.declared.base.PointBase.{PointBase}
use Rattle.sn_desc.specs.InUse.{InUse, live_in}
use Rattle.sn_device.specs.Crash.{LeavesOnly}
use Rattle.sn_held.specs.Held.{Going, Held, RunsReady}
use Rattle.sn_limits.specs.Versions.{limits_written}
use Rattle.sn_live_world.specs.World.{HasDrops, changes_of, tree_over, world_in, world_over}
use Rattle.sn_live_world.specs.declared.world.LiveWorld.{LiveWorld}
use Rattle.sn_log.specs.Positions.{LogPosition}
use Rattle.sn_model.specs.Steps.{pointed}
use Rattle.sn_model.specs.Tree.{Tree}
use Rattle.sn_model.specs.World.{World}
use Rattle.sn_model.specs.Worlds.{IsWorld}
use Rattle.sn_model.proofs.OutcomeLemmas.{LeavesLive}
use Rattle.sn_model.proofs.PointedLemmas.{pointed_live}
use Rattle.sn_model.specs.declared.outcome.AskedPoint.{AskedPoint}
use Rattle.sn_overlay.specs.Layers.{Layer}
use Rattle.sn_overlay.specs.Needs.{need}
use Rattle.sn_overlay.specs.Overlays.{no_changes}
use Rattle.sn_held.specs.Rooms.{RoomCounts, fresh}
use Rattle.sn_events.specs.Mounted.{tree_at, trees_there}
use Rattle.sn_events.proofs.BasedLemmas.{base_none, based_none, stands_none, first_there}
use Rattle.sn_events.specs.Answers.{BuildsFor}
use Rattle.sn_events.proofs.PointLemmas.{builds_changed, leaves_live, not_device, point_unmade}
use Rattle.sn_fs.specs.Filesystem.{held, tree_of}
use Rattle.sn_fs.proofs.MountedLemmas.{kept_mounted, unmade_same}
use Rattle.sn_fs.proofs.PointedLemmas.{moments_pointed, ready_pointed, runs_made, tree_made, world_made, world_pointed}
use Rattle.sn_fs.proofs.fs.Fs.make_point.Goals as goal

-- what was shown over the root's tree is shown over the next one's
shows : (w0 w1 : LiveWorld) (below : Tree) (asked : AskedPoint) (world : World) → tree_over w0 below ≡ world.live → LeavesLive asked → ((old new : Tree) → new ≡ tree_over w0 old → world_over w1 new ≡ world_over w0 old) → (new : Tree) → new ≡ (pointed asked world).live
    → world_over w1 new ≡ record (world_over w0 below) { live = new }
shows w0 w1 below asked world is leaves over new same =
    let e : new ≡ tree_over w0 below = same ∙ pointed_live asked leaves world ∙ sym is in
    over below new e ∙ (λ i. record (world_over w0 below) { live = sym e i })

pub make_point-requires-clause-base : goal.make_point-requires-clause-base
make_point-requires-clause-base g c = base_none c.args.self.now.going c.args.self.now.log c.args.self.now.base c.requires.between (c.requires.sound.based c.requires.running)

pub returns-in-Ok-clause-points : goal.returns-in-Ok-clause-points
returns-in-Ok-clause-points g c told r may =
    let fs = c.args.self.now in
    let asked = c.args.asked.now in
    let d0 = g.D.Device.disk (device_of fs.blocks) in
    let d1 = g.D.Device.disk (device_of c.make_point.new.blocks) in
    let whole = g.met.D.Device.whole (device_of c.make_point.new.blocks) told in
    let e = c.in-Ok.ensures in
    let next = c.replace_root.ensures in
    let point : (h : Held) (world : World) → RunsReady (with_parts h fs.log fs.room d0) world (kept_in fs.base (changes_of fs.world)) → CanBeAsked asked world → LeavesOnly d0 d1 (EitherImage world (pointed asked world)) × RunsReady (over_world (pointed asked world) (with_parts h c.make_point.new.log c.make_point.new.room d1)) (pointed asked world) (kept_in c.make_point.new.base no_changes) =
    λ h world ready can. e.point told h world (subst (λ (l : Layer). RunsReady (with_parts h fs.log fs.room d0) world (kept_in fs.base l)) (sym c.changes.ensures) ready) can in
    let s0 = g.D.Device.status (device_of fs.blocks) in
    let s1 = g.D.Device.status (device_of c.make_point.new.blocks) in
    let done = e.costs.done in
    let of_changes = c.changes.ensures in
    let can = may.can in
    let shown = shows fs.world c.replace_root.new.self (tree_of fs) asked (held fs).world refl (leaves_live asked may.other) next.world in
    record {
      between = c.requires.between;
      world = world_pointed d0 d1 s0 s1 fs.log c.make_point.new.log fs.world c.replace_root.new.self fs.room c.make_point.new.room fs.base c.make_point.new.base fs.going c.requires.between whole asked (CanBeAsked asked) can point shown next.changes r;
      fresh = record {
        between = c.requires.between;
        log = first_there c.make_point.new.log fs.log.blocks (fs.log.epoch + 1) c.make_point.new.base.root.epoch e.log e.base.epoch;
        room = e.room ∙ ap fresh (sym (ap (λ (x : RoomCounts). x.free) e.room));
        changed = next.changes;
        none_kept = next.kept;
        none_since = next.since;
      };
      log = e.log;
      follows = e.follows;
      age = e.age;
      moments = moments_pointed d0 d1 s0 s1 fs.log c.make_point.new.log fs.world c.replace_root.new.self fs.room c.make_point.new.room fs.base c.make_point.new.base fs.going c.requires.between whole asked (CanBeAsked asked) can point shown next.changes r;
      touched = e.touched told;
      built = changes_of fs.world;
      builds = builds_changed asked (held fs) may.other;
      runs = ready_pointed d0 d1 s0 s1 fs.log c.make_point.new.log fs.world c.replace_root.new.self fs.room c.make_point.new.room fs.base c.make_point.new.base fs.going c.requires.between whole asked (CanBeAsked asked) can point shown next.changes r;
      count = done.0;
      few = subst (λ (l : Layer). done.0 ≤ need fs.base.root.limits l) of_changes done.1;
      gate = done.2;
      costs = done.3;
    }

pub returns-in-Ok-clause-sound : goal.returns-in-Ok-clause-sound
returns-in-Ok-clause-sound g c =
    let fs = c.args.self.now in
    let running = c.requires.running in
    let sound = c.requires.sound in
    let e = c.in-Ok.ensures in
    let next = c.replace_root.ensures in
    record {
      within = λ _. omega (arith, sound.within running, ap (λ (at : LogPosition). at.blocks) e.log, e.costs.later.sectors);
      parked = λ _. omega (arith, ap (λ (r : RoomCounts). r.dropped) e.room, next.counted, sound.parked running);
      based = λ _. based_none fs.going c.make_point.new.log c.make_point.new.base c.requires.between e.base;
      between = λ _ _. next.point;
      drops = λ _. subst (HasDrops c.replace_root.new.self) (c.open_files-drops.ensures ∙ ap (λ (u : InUse). live_in u.descriptors) (sym next.sessions)) (next.drops c.open_files-drops.result e.drops);
      meant = λ _ told.
          let m = sound.meant running told in
          let asked = c.args.asked.now in
          let can = (c.requires.asked told).can in
          let d0 = g.D.Device.disk (device_of fs.blocks) in
          let d1 = g.D.Device.disk (device_of c.make_point.new.blocks) in
          let whole = g.met.D.Device.whole (device_of c.make_point.new.blocks) told in
          let point : (h : Held) (world : World) → RunsReady (with_parts h fs.log fs.room d0) world (kept_in fs.base (changes_of fs.world)) → CanBeAsked asked world → LeavesOnly d0 d1 (EitherImage world (pointed asked world)) × RunsReady (over_world (pointed asked world) (with_parts h c.make_point.new.log c.make_point.new.room d1)) (pointed asked world) (kept_in c.make_point.new.base no_changes) =
          λ h world ready can. e.point told h world (subst (λ (l : Layer). RunsReady (with_parts h fs.log fs.room d0) world (kept_in fs.base l)) (sym c.changes.ensures) ready) can in
          let s0 = g.D.Device.status (device_of fs.blocks) in
          let s1 = g.D.Device.status (device_of c.make_point.new.blocks) in
          let leaves = leaves_live asked (c.requires.asked told).other in
          let shown = shows fs.world c.replace_root.new.self (tree_of fs) asked (held fs).world refl leaves next.world in
          record {
            over = next.over (tree_of fs) (tree_at d1 c.make_point.new.base.root) (tree_made d0 d1 s0 s1 fs.log c.make_point.new.log fs.world c.replace_root.new.self fs.room c.make_point.new.room fs.base c.make_point.new.base fs.going c.requires.between whole asked (CanBeAsked asked) can point shown next.changes m.runs ∙ pointed_live asked leaves (held fs).world) m.over;
            whole = subst (IsWorld limits_written) (sym (world_made d0 d1 s0 s1 fs.log c.make_point.new.log fs.world c.replace_root.new.self fs.room c.make_point.new.room fs.base c.make_point.new.base fs.going c.requires.between whole asked (CanBeAsked asked) can point shown next.changes m.runs)) (c.requires.asked told).whole;
            runs = runs_made d0 d1 s0 s1 fs.log c.make_point.new.log fs.world c.replace_root.new.self fs.room c.make_point.new.room fs.base c.make_point.new.base fs.going c.requires.between whole asked (CanBeAsked asked) can point shown next.changes m.runs;
            stands = stands_none fs.going _ c.requires.between;
          };
    }

pub returns-in-Err-clause-points : goal.returns-in-Err-clause-points
returns-in-Err-clause-points g c told r may =
    let fs = c.args.self.now in
    let old = held fs in
    let e = c.in-Err.ensures in
    let d1 = g.D.Device.disk (device_of c.make_point.new.blocks) in
    let new = held (record fs { blocks = c.make_point.new.blocks; base = c.make_point.new.base; log = c.make_point.new.log; room = c.make_point.new.room }) in
    let parts = with_parts old c.make_point.new.log c.make_point.new.room d1 in
    let ready = subst (λ (l : Layer). RunsReady old old.world (kept_in fs.base l)) (sym c.changes.ensures) r in
    let costs = subst (λ (l : Layer). CostsPoint c.make_point.result fs.log.blocks (need fs.base.root.limits l) old.status new.status) c.changes.ensures c.make_point.ensures.costs in
    point_unmade (pointed c.args.asked.now old.world) (BuildsFor c.args.asked.now old) old new (λ same. λ i. world_in fs.world (trees_there (same i) (e.keeps.0 i).root)) refl refl refl e.keeps.1 (ap (λ (b : PointBase). kept_in b (changes_of fs.world)) e.keeps.0) (changes_of fs.world) (builds_changed c.args.asked.now old may.other) c.in-Err.fault c.args.asked.now old.world refl refl parts (kept_in c.make_point.new.base no_changes) refl e.stays (e.point told old old.world ready may.can) (e.touched told) e.costs.cause e.costs.later
    (record { writes = costs.writes; syncs = costs.syncs }) (λ is. e.aged (ap Err is))

pub returns-in-Err-clause-sound : goal.returns-in-Err-clause-sound
returns-in-Err-clause-sound g c =
    let fs = c.args.self.now in
    let e = c.in-Err.ensures in
    let d0 = g.D.Device.disk (device_of fs.blocks) in
    let not_cut = λ (goes_on : c.stops-self.result ≡ false). not_device c.in-Err.fault (sym c.stops-self.ensures ∙ goes_on) in
    kept_mounted g.D.Device.tells_bytes d0 _ _ _ fs.log c.make_point.new.log fs.world fs.room c.make_point.new.room fs.base c.make_point.new.base fs.going fs.has_stopped c.stops-self.result c.requires.running e.keeps.0 e.keeps.1 (λ goes_on. e.stays (not_cut goes_on)) e.costs.later.sectors
    (λ goes_on told.
    let m = c.requires.sound.meant c.requires.running told in
    let old = held fs in
    let r = subst (λ (p : Option Going). RunsWith p old old.world) c.requires.between m.runs in
    let ready = subst (λ (l : Layer). RunsReady old old.world (kept_in fs.base l)) (sym c.changes.ensures) r in
    unmade_same c.in-Err.fault (not_cut goes_on) c.args.asked.now old.world d0 _ _ (e.point told old old.world ready (c.requires.asked told).can)) c.requires.sound
