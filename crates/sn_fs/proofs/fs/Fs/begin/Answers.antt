use Rattle.std.proofs.Common.{◌≡◌, ℕ, ◌+◌, ◌≤◌, Err, None, Some, Option, length, refl, sym, ap, subst, ◌∙◌, arith}
use Rattle.sn_block.specs.Lending.{device_of}
use Rattle.sn_cp_progress.specs.Meaning.{RunsWith, progress_over}
use Rattle.sn_cp_progress.specs.Progress.{RunsOn}
use Rattle.sn_cp.specs.Points.{work_of}
use Rattle.sn_cp_whole.specs.Going.{BeginsPoint, going_of, with_log}
use Rattle.sn_cp_whole.specs.Planning.{kept_in}
use Rattle.sn_desc.specs.InUse.{InUse, live_in}
use Rattle.sn_device.specs.Crash.{LeavesOnly}
use Rattle.sn_held.specs.Held.{Going, Held, RunsReady}
use Rattle.sn_held.specs.Images.{IsImage}
use Rattle.sn_limits.specs.Versions.{limits_written}
use Rattle.sn_live_world.specs.World.{HasDrops, IsOver, changes_of, world_in}
use Rattle.sn_log.specs.Positions.{LogPosition}
use Rattle.sn_model.specs.declared.outcome.AskedPoint.TheVariants.{Plain}
use Rattle.sn_model.specs.Settling.{settle}
use Rattle.sn_model.specs.World.{Trees, World, trees_of}
use Rattle.sn_model.specs.Worlds.{IsWorld}
use Rattle.sn_overlay.specs.Layers.{Layer}
use Rattle.sn_overlay.specs.Needs.{need}
use Rattle.sn_overlay.specs.Overlays.{no_changes}
use Rattle.sn_held.specs.Rooms.{RoomCounts, begun}
use Rattle.sn_events.specs.Mounted.{trees_there}
use Rattle.sn_events.proofs.BasedLemmas.{base_none}
use Rattle.sn_events.proofs.BeginLemmas.{unbegun}
use Rattle.sn_events.proofs.MeantLemmas.{trees_logged}
use Rattle.sn_events.proofs.PointLemmas.{not_device, running_between}
use Rattle.sn_fs.specs.Filesystem.{held, tree_of}
use Rattle.sn_fs.proofs.MountedLemmas.{kept_mounted, unbegun_same}
use Rattle.sn_fs.proofs.PointedLemmas.{moments_begun, on_begun, runs_begun, world_begun}
use Rattle.sn_fs.proofs.fs.Fs.begin.Goals as goal

pub begin_point-requires-clause-base : goal.begin_point-requires-clause-base
begin_point-requires-clause-base g c = base_none c.args.self.now.going c.args.self.now.log c.args.self.now.base c.requires.between (c.requires.sound.based c.requires.running)

pub returns-in-Ok-clause-begins : goal.returns-in-Ok-clause-begins
returns-in-Ok-clause-begins g c told r =
    let fs = c.args.self.now in
    let d0 = g.D.Device.disk (device_of fs.blocks) in
    let d1 = g.D.Device.disk (device_of c.begin_point.new.blocks) in
    let s0 = g.D.Device.status (device_of fs.blocks) in
    let s1 = g.D.Device.status (device_of c.begin_point.new.blocks) in
    let e = c.in-Ok.ensures in
    let point = c.in-Ok.begun.going in
    let next = c.begin_point-in-Ok.ensures in
    let room = c.begin_point-in-Ok-2.ensures in
    let begins : (h : Held) (world : World) → RunsReady (with_log h fs.log d0) world (kept_in fs.base (changes_of fs.world)) → LeavesOnly d0 d1 (λ x. IsImage x (settle world)) × RunsOn (record h { room = begun h.room; at = c.begin_point.new.log; base = kept_in fs.base no_changes; disk = d1 }) world (progress_over (going_of point) (trees_of world)) =
    λ h world ready. let made = e.begins told h world (subst (λ (l : Layer). RunsReady (with_log h fs.log d0) world (kept_in fs.base l)) (sym c.changes.ensures) ready) tt in
    (made.0, subst (λ (l : Layer). RunsOn (record h { room = begun h.room; at = c.begin_point.new.log; base = kept_in fs.base l; disk = d1 }) world (progress_over (going_of point) (trees_of world))) e.empty made.1) in
    let trees = trees_logged (held fs) (running_between (held fs) (held fs).world c.requires.between r) (g.met.D.Device.whole (device_of fs.blocks) told) (fs.log.epoch + 1) d1 (g.met.D.Device.whole (device_of c.begin_point.new.blocks) told) (e.wrote told) in
    record {
      begun = record {
        between = c.requires.between;
        going = going_of point;
        is = refl;
        size = e.going.blocks;
        few = subst (λ (l : Layer). length (work_of point.point).plan.blocks ≤ need fs.base.root.limits l) c.changes.ensures e.going.few;
        first = e.going.first;
        follows = e.going.follows;
        world = world_begun d0 d1 s0 s1 fs.log c.begin_point.new.log fs.world c.begin_point-in-Ok.new.self fs.room c.begin_point-in-Ok-2.new.self fs.base fs.going c.requires.between point begins trees next.world next.changes room;
        kept = next.kept;
        none_since = next.since;
        log = e.log;
        room = room;
        base = λ i. kept_in fs.base (next.changes i);
        costs = e.costs.done;
      };
      moments = moments_begun d0 d1 s0 s1 fs.log c.begin_point.new.log fs.world c.begin_point-in-Ok.new.self fs.room c.begin_point-in-Ok-2.new.self fs.base fs.going c.requires.between point begins trees next.world next.changes room r;
      touched = e.touched told;
      runs = subst (λ (w : World). RunsWith (Some (going_of point)) (held (record fs { blocks = c.begin_point.new.blocks; log = c.begin_point.new.log; world = c.begin_point-in-Ok.new.self; room = c.begin_point-in-Ok-2.new.self; going = Some point })) w) refl
          (on_begun d0 d1 s0 s1 fs.log c.begin_point.new.log fs.world c.begin_point-in-Ok.new.self fs.room c.begin_point-in-Ok-2.new.self fs.base fs.going c.requires.between point begins trees next.world next.changes room r);
    }

pub returns-in-Ok-clause-sound : goal.returns-in-Ok-clause-sound
returns-in-Ok-clause-sound g c =
    let fs = c.args.self.now in
    let running = c.requires.running in
    let sound = c.requires.sound in
    let e = c.in-Ok.ensures in
    let point = c.in-Ok.begun.going in
    let next = c.begin_point-in-Ok.ensures in
    let room = c.begin_point-in-Ok-2.ensures in
    let base = base_none fs.going fs.log fs.base c.requires.between (sound.based running) in
    record {
      within = λ _. omega (arith, sound.within running, ap (λ (at : LogPosition). at.blocks) e.log, e.costs.later.sectors);
      parked = λ _. omega (arith, ap (λ (r : RoomCounts). r.dropped) room, next.counted, sound.parked running);
      based = λ _. record {
        whole = e.going.whole;
        within = e.going.within;
        blocks = e.going.blocks ∙ sym (ap (λ (at : LogPosition). at.blocks) e.log);
        slot = e.going.slot;
        epoch = ap (λ (at : LogPosition). at.epoch) e.log ∙ ap (λ (n : ℕ). n + 1) base.epoch ∙ sym e.going.follows.epoch;
      };
      between = λ _ none. let never : Some point ≡ None = none in absurd cc;
      drops = λ _. subst (HasDrops c.begin_point-in-Ok.new.self) (c.open_files-drops.ensures ∙ ap (λ (u : InUse). live_in u.descriptors) (sym next.sessions)) (next.drops c.open_files-drops.result e.drops);
      meant = λ _ told.
          let m = sound.meant running told in
          let d0 = g.D.Device.disk (device_of fs.blocks) in
          let d1 = g.D.Device.disk (device_of c.begin_point.new.blocks) in
          let s0 = g.D.Device.status (device_of fs.blocks) in
          let s1 = g.D.Device.status (device_of c.begin_point.new.blocks) in
          let begins : (h : Held) (world : World) → RunsReady (with_log h fs.log d0) world (kept_in fs.base (changes_of fs.world)) → LeavesOnly d0 d1 (λ x. IsImage x (settle world)) × RunsOn (record h { room = begun h.room; at = c.begin_point.new.log; base = kept_in fs.base no_changes; disk = d1 }) world (progress_over (going_of point) (trees_of world)) =
          λ h world ready. let made = e.begins told h world (subst (λ (l : Layer). RunsReady (with_log h fs.log d0) world (kept_in fs.base l)) (sym c.changes.ensures) ready) tt in
          (made.0, subst (λ (l : Layer). RunsOn (record h { room = begun h.room; at = c.begin_point.new.log; base = kept_in fs.base l; disk = d1 }) world (progress_over (going_of point) (trees_of world))) e.empty made.1) in
          let trees = trees_logged (held fs) m.runs (g.met.D.Device.whole (device_of fs.blocks) told) (fs.log.epoch + 1) d1 (g.met.D.Device.whole (device_of c.begin_point.new.blocks) told) (e.wrote told) in
          record {
            over = subst (λ (t : Trees). IsOver c.begin_point-in-Ok.new.self t.live) (sym trees) (next.over (tree_of fs) m.over);
            whole = subst (IsWorld limits_written) (sym (world_begun d0 d1 s0 s1 fs.log c.begin_point.new.log fs.world c.begin_point-in-Ok.new.self fs.room c.begin_point-in-Ok-2.new.self fs.base fs.going c.requires.between point begins trees next.world next.changes room)) m.whole;
            runs = runs_begun d0 d1 s0 s1 fs.log c.begin_point.new.log fs.world c.begin_point-in-Ok.new.self fs.room c.begin_point-in-Ok-2.new.self fs.base fs.going c.requires.between point begins trees next.world next.changes room m.runs;
            stands = e.stands told;
          };
    }

pub returns-in-Err-clause-begins : goal.returns-in-Err-clause-begins
returns-in-Err-clause-begins g c told r =
    let fs = c.args.self.now in
    let old = held fs in
    let e = c.in-Err.ensures in
    let d1 = g.D.Device.disk (device_of c.begin_point.new.blocks) in
    let ready = subst (λ (l : Layer). RunsReady old old.world (kept_in fs.base l)) (sym c.changes.ensures) r in
    unbegun old (world_in fs.world (trees_there d1 fs.base.root)) c.begin_point.new.log _ _ c.in-Err.fault (λ same. λ i. world_in fs.world (trees_there (same i) fs.base.root)) (subst (λ (l : Layer). BeginsPoint (Err c.in-Err.fault) Plain old.world old (kept_in fs.base l) c.begin_point.new.log old.disk d1) c.changes.ensures (e.begins told old old.world ready tt)) e.stays e.costs.cause e.costs.later e.costs.writes e.costs.syncs (e.touched told) (λ is. e.aged (ap Err is))

pub returns-in-Err-clause-sound : goal.returns-in-Err-clause-sound
returns-in-Err-clause-sound g c =
    let fs = c.args.self.now in
    let e = c.in-Err.ensures in
    let d0 = g.D.Device.disk (device_of fs.blocks) in
    kept_mounted g.D.Device.tells_bytes d0 _ _ _ fs.log c.begin_point.new.log fs.world fs.room fs.room fs.base fs.base fs.going fs.has_stopped c.stops-self.result c.requires.running refl refl (λ goes_on. e.stays) e.costs.later.sectors
    (λ goes_on told.
    let m = c.requires.sound.meant c.requires.running told in
    let old = held fs in
    let r = subst (λ (p : Option Going). RunsWith p old old.world) c.requires.between m.runs in
    let ready = subst (λ (l : Layer). RunsReady old old.world (kept_in fs.base l)) (sym c.changes.ensures) r in
    unbegun_same c.in-Err.fault (not_device c.in-Err.fault (sym c.stops-self.ensures ∙ goes_on)) Plain old.world old _ _ d0 _ (e.begins told old old.world ready tt)) c.requires.sound
