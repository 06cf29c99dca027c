use Rattle.std.proofs.Common.{refl, sym, ap, subst, ◌∙◌, arith}
use Rattle.sn_block.specs.Lending.{device_of}
use Rattle.sn_block.proofs.CountLemmas.{later-calls}
use Rattle.sn_cp.specs.Points.{work_of}
use Rattle.sn_cp_progress.specs.Meaning.{EitherImage, progress_over}
use Rattle.sn_cp_progress.specs.Progress.{RunsOn}
use Rattle.sn_cp_whole.specs.Going.{going_of, with_disk, with_frozen}
use Rattle.sn_cp_whole.specs.Planning.{IsBaseAt, kept_in}
use Rattle.sn_cp_whole.specs.declared.base.PointBase.{PointBase}
use Rattle.sn_cp_whole.proofs.RecoverLemmas.{point_apart}
use Rattle.sn_desc.specs.InUse.{InUse, live_in}
use Rattle.sn_device.proofs.CrashLemmas.{LeavesOnly-weaker, Touches-start}
use Rattle.sn_device.specs.Crash.{LeavesOnly}
use Rattle.sn_held.specs.Held.{Held, RunsReady}
use Rattle.sn_held.specs.Images.{IsImage}
use Rattle.sn_limits.specs.Versions.{limits_written}
use Rattle.sn_live_world.specs.World.{HasDrops, changes_of}
use Rattle.sn_model.specs.Settling.{settle}
use Rattle.sn_model.specs.World.{Trees, World}
use Rattle.sn_model.specs.Worlds.{IsWorld}
use Rattle.sn_overlay.specs.Layers.{Layer}
use Rattle.sn_held.specs.Rooms.{done as done_room}
use Rattle.sn_events.specs.Answers.{IsBesideRoot}
use Rattle.sn_events.specs.Mounted.{tree_at}
use Rattle.sn_events.proofs.BasedLemmas.{based_none, stands_none}
use Rattle.sn_events.proofs.PointLemmas.{either_same}
use Rattle.sn_fs.specs.Filesystem.{held, tree_of, with_point}
use Rattle.sn_fs.proofs.PointedLemmas.{changed_ended, moments_ended, ready_ended, runs_ended, world_ended}
use Rattle.sn_fs.proofs.fs.Fs.end.Goals as goal

pub finish-requires-clause-disk : goal.finish-requires-clause-disk
finish-requires-clause-disk g c = let is = c.requires.sound.based c.requires.running in let within = c.requires.sound.within c.requires.running in omega (arith, within, is.blocks)

pub finish-requires-clause-slot : goal.finish-requires-clause-slot
finish-requires-clause-slot g c = (c.requires.sound.based c.requires.running).slot

pub finish-requires-clause-whole : goal.finish-requires-clause-whole
finish-requires-clause-whole g c = (c.requires.sound.based c.requires.running).whole

pub finish-requires-clause-within : goal.finish-requires-clause-within
finish-requires-clause-within g c = (c.requires.sound.based c.requires.running).within

pub finish-requires-clause-stands : goal.finish-requires-clause-stands
finish-requires-clause-stands g c told = (c.requires.sound.meant c.requires.running told).stands

pub returns-in_default-clause-finishes : goal.returns-in_default-clause-finishes
returns-in_default-clause-finishes g c told r =
    let old = held (with_point c.args.self.now c.args.going) in
    let is = c.requires.sound.based c.requires.running in
    let e = c.in_default.ensures in (
      refl,
      record {
        going = going_of c.args.going;
        is = refl;
        touched = point_apart (work_of c.args.going.point) is.whole c.args.self.now.base.slot is.slot c.args.self.now.log.blocks old.disk old.disk _ is.blocks (Touches-start (IsBesideRoot old) old.disk) (e.touched told);
        moments = LeavesOnly-weaker old.disk _ (EitherImage old.world old.world) (λ x. IsImage x (settle old.world)) (λ x either. either_same either) (e.finishes told old old.world (record { live = r.0; frozen = old.world.frozen }) r.1).0;
        failed = e.counts.cause;
        later = later-calls _ _ _ _ _ e.counts;
        costs = record { writes = e.counts.writes.1; syncs = e.counts.syncs.1 };
      },
    )

pub returns-clause-finishes : goal.returns-clause-finishes
returns-clause-finishes g c told r =
    let fs = c.args.self.now in
    let point = c.args.going in
    let old = held (with_point fs point) in
    let d0 = g.D.Device.disk (device_of fs.blocks) in
    let d1 = g.D.Device.disk (device_of c.finish.new.blocks) in
    let s0 = g.D.Device.status (device_of fs.blocks) in
    let s1 = g.D.Device.status (device_of c.finish.new.blocks) in
    let whole = g.met.D.Device.whole (device_of c.finish.new.blocks) told in
    let is = c.requires.sound.based c.requires.running in
    let e = c.in-Ok.ensures in
    let next = c.end_point-2.ensures in
    let room = c.end_point.ensures.counts in
    let finish : (h : Held) (world : World) (trees : Trees) → RunsOn (with_disk h d0) world (progress_over (going_of point) trees) → LeavesOnly d0 d1 (EitherImage world (with_frozen world trees.frozen)) × RunsReady (record h { world = with_frozen world trees.frozen; room = done_room point.free h.room; disk = d1 }) (with_frozen world trees.frozen) (kept_in c.finish.new.base h.base.changed) =
    e.finishes told in
    let base = λ (l : Layer). ap (λ (b : PointBase). kept_in b l) e.base in
    record {
      finished = record {
        going = going_of point;
        is = refl;
        point = c.requires.alone;
        world = world_ended d0 d1 s0 s1 fs.log fs.world c.end_point-2.new.self fs.room c.end_point.new.self fs.base c.finish.new.base point fs.going c.requires.alone whole finish next.world next.changes room r;
        kept = next.kept;
        since = next.since;
        log = refl;
        room = room;
        base = (λ i. kept_in c.finish.new.base (next.changes i)) ∙ base (changes_of fs.world);
        touched = point_apart (work_of point.point) is.whole fs.base.slot is.slot fs.log.blocks old.disk old.disk _ is.blocks (Touches-start (IsBesideRoot old) old.disk) (e.touched told);
        costs = e.counts.done;
      };
      moments = moments_ended d0 d1 s0 s1 fs.log fs.world c.end_point-2.new.self fs.room c.end_point.new.self fs.base c.finish.new.base point fs.going c.requires.alone whole finish next.world next.changes room r;
      runs = ready_ended d0 d1 s0 s1 fs.log fs.world c.end_point-2.new.self fs.room c.end_point.new.self fs.base c.finish.new.base point fs.going c.requires.alone whole finish next.world next.changes room r;
    }

pub returns-clause-sound : goal.returns-clause-sound
returns-clause-sound g c =
    let fs = c.args.self.now in
    let point = c.args.going in
    let running = c.requires.running in
    let sound = c.requires.sound in
    let is = sound.based running in
    let e = c.in-Ok.ensures in
    let next = c.end_point-2.ensures in
    let room = c.end_point.ensures.counts in
    record {
      within = λ _. omega (arith, sound.within running, e.counts.sectors);
      parked = λ _. omega (arith, c.end_point.ensures.fewer, next.counted, sound.parked running);
      based = λ _. based_none fs.going fs.log c.finish.new.base c.requires.alone (subst (λ (b : PointBase). IsBaseAt fs.log b) (sym e.base) (record { body = is.whole.next; words = is.whole.words ∙ is.blocks; epoch = is.epoch }));
      between = λ _ _. next.point;
      drops = λ _. subst (λ (u : InUse). HasDrops c.end_point-2.new.self (live_in u.descriptors)) (sym next.sessions) (next.drops _ (sound.drops running));
      meant = λ _ told.
          let m = sound.meant running told in
          let d0 = g.D.Device.disk (device_of fs.blocks) in
          let d1 = g.D.Device.disk (device_of c.finish.new.blocks) in
          let s0 = g.D.Device.status (device_of fs.blocks) in
          let s1 = g.D.Device.status (device_of c.finish.new.blocks) in
          let whole = g.met.D.Device.whole (device_of c.finish.new.blocks) told in
          let finish : (h : Held) (world : World) (trees : Trees) → RunsOn (with_disk h d0) world (progress_over (going_of point) trees) → LeavesOnly d0 d1 (EitherImage world (with_frozen world trees.frozen)) × RunsReady (record h { world = with_frozen world trees.frozen; room = done_room point.free h.room; disk = d1 }) (with_frozen world trees.frozen) (kept_in c.finish.new.base h.base.changed) =
          e.finishes told in
          let changed = changed_ended d0 d1 s0 s1 fs.log fs.world c.end_point-2.new.self fs.room c.end_point.new.self fs.base c.finish.new.base point fs.going c.requires.alone whole finish next.world next.changes room m.runs in
          record {
            over = next.over (tree_of fs) (tree_at d1 c.finish.new.base.root) changed.lies changed.shows m.over;
            whole = subst (IsWorld limits_written) (sym (world_ended d0 d1 s0 s1 fs.log fs.world c.end_point-2.new.self fs.room c.end_point.new.self fs.base c.finish.new.base point fs.going c.requires.alone whole finish next.world next.changes room m.runs)) m.whole;
            runs = runs_ended d0 d1 s0 s1 fs.log fs.world c.end_point-2.new.self fs.room c.end_point.new.self fs.base c.finish.new.base point fs.going c.requires.alone whole finish next.world next.changes room m.runs;
            stands = stands_none fs.going _ c.requires.alone;
          };
    }
