use Rattle.std.proofs.Common.{◌≡◌, None, Some, refl, sym, ap, subst, ◌∙◌, arith}
use Rattle.sn_block.specs.Lending.{device_of}
use Rattle.sn_block.proofs.CountLemmas.{later-calls}
use Rattle.sn_cp.specs.Points.{Work, stage_of, work_of}
use Rattle.sn_cp.specs.Steps.{IsWhole}
use Rattle.sn_cp_progress.specs.Meaning.{progress_over}
use Rattle.sn_cp_progress.specs.Progress.{RunsOn}
use Rattle.sn_cp_whole.specs.Going.{going_of, with_disk}
use Rattle.sn_cp_whole.proofs.RecoverLemmas.{point_apart}
use Rattle.sn_device.proofs.CrashLemmas.{Touches-start}
use Rattle.sn_device.specs.Crash.{LeavesOnly}
use Rattle.sn_device.specs.declared.status.Status.{Status}
use Rattle.sn_held.specs.Held.{Held}
use Rattle.sn_held.specs.Images.{IsImage}
use Rattle.sn_limits.specs.Versions.{limits_written}
use Rattle.sn_live_world.specs.World.{IsOver}
use Rattle.sn_model.specs.Settling.{settle}
use Rattle.sn_model.specs.World.{Trees, World}
use Rattle.sn_model.specs.Worlds.{IsWorld}
use Rattle.sn_events.specs.Answers.{IsBesideRoot}
use Rattle.sn_events.proofs.BeginLemmas.{step_writes}
use Rattle.sn_fs.specs.Filesystem.{held, with_point}
use Rattle.sn_fs.proofs.PointedLemmas.{moments_gone, on_gone, runs_gone, tree_gone, world_gone}
use Rattle.sn_fs.proofs.fs.Fs.go_on.Goals as goal

pub advance-requires-clause-disk : goal.advance-requires-clause-disk
advance-requires-clause-disk g c = let is = c.requires.sound.based c.requires.running in let within = c.requires.sound.within c.requires.running in omega (arith, within, is.blocks)

pub advance-requires-clause-whole : goal.advance-requires-clause-whole
advance-requires-clause-whole g c = (c.requires.sound.based c.requires.running).whole

pub advance-requires-clause-within : goal.advance-requires-clause-within
advance-requires-clause-within g c = (c.requires.sound.based c.requires.running).within

pub advance-requires-clause-stands : goal.advance-requires-clause-stands
advance-requires-clause-stands g c told = (c.requires.sound.meant c.requires.running told).stands

pub returns-in-Ok-clause-goes_on : goal.returns-in-Ok-clause-goes_on
returns-in-Ok-clause-goes_on g c told r =
    let fs = c.args.self.now in
    let old = held (with_point fs c.args.going) in
    let after = c.advance.new.self in
    let d0 = g.D.Device.disk (device_of fs.blocks) in
    let d1 = g.D.Device.disk (device_of c.advance.new.blocks) in
    let s0 = g.D.Device.status (device_of fs.blocks) in
    let status = g.D.Device.status (device_of c.advance.new.blocks) in
    let is = c.requires.sound.based c.requires.running in
    let some = step_writes (work_of c.args.going.point) (stage_of c.args.going.point) is.within in
    let e = c.in-Ok.ensures in
    let whole = g.met.D.Device.whole (device_of c.advance.new.blocks) told in
    let goes : (h : Held) (world : World) (trees : Trees) → RunsOn (with_disk h d0) world (progress_over (going_of c.args.going) trees) → LeavesOnly d0 d1 (λ x. IsImage x (settle world)) × RunsOn (record h { disk = d1 }) world (progress_over (going_of after) trees) =
    e.goes_on told in
    let world = world_gone d0 d1 s0 status fs.log fs.world fs.room fs.base c.args.going after whole goes (e.tree told) r in
    let writes = ap (λ (s : Status). s.writes) e.counts.done in
    let syncs = ap (λ (s : Status). s.syncs) e.counts.done in
    record {
      gone = record {
        going = going_of c.args.going;
        is = refl;
        more = c.requires.more;
        held = λ i. record old { world = world i; point = Some (record { work = e.same.0 i; stage = e.onward i; free = e.same.1 i }); disk = d1; status = status };
        costs = e.counts.done;
      };
      some = (omega (arith, writes, some.0), omega (arith, writes, some.1), omega (arith, syncs, some.2));
      moments = moments_gone d0 d1 s0 status fs.log fs.world fs.room fs.base c.args.going after whole goes (e.tree told) r;
      touched = point_apart (work_of c.args.going.point) is.whole fs.base.slot is.slot fs.log.blocks old.disk old.disk _ is.blocks (Touches-start (IsBesideRoot old) old.disk) (e.touched told);
      runs = on_gone d0 d1 s0 status fs.log fs.world fs.room fs.base c.args.going after whole goes (e.tree told) r;
    }

pub returns-in-Ok-clause-sound : goal.returns-in-Ok-clause-sound
returns-in-Ok-clause-sound g c =
    let fs = c.args.self.now in
    let running = c.requires.running in
    let sound = c.requires.sound in
    let is = sound.based running in
    let after = c.advance.new.self in
    let e = c.in-Ok.ensures in
    record {
      within = λ _. omega (arith, sound.within running, e.counts.sectors);
      parked = λ _. sound.parked running;
      based = λ _. record {
        whole = subst (λ (w : Work). IsWhole w) (sym e.same.0) is.whole;
        within = e.within;
        blocks = ap (λ (w : Work). w.blocks) e.same.0 ∙ is.blocks;
        slot = is.slot ∙ sym (ap (λ (w : Work). w.slot) e.same.0);
        epoch = is.epoch ∙ sym (ap (λ (w : Work). w.plan.next.epoch) e.same.0);
      };
      between = λ _ none. let never : Some after ≡ None = none in absurd cc;
      drops = λ _. sound.drops running;
      meant = λ _ told.
          let m = sound.meant running told in
          let d0 = g.D.Device.disk (device_of fs.blocks) in
          let d1 = g.D.Device.disk (device_of c.advance.new.blocks) in
          let s0 = g.D.Device.status (device_of fs.blocks) in
          let status = g.D.Device.status (device_of c.advance.new.blocks) in
          let whole = g.met.D.Device.whole (device_of c.advance.new.blocks) told in
          let goes : (h : Held) (world : World) (trees : Trees) → RunsOn (with_disk h d0) world (progress_over (going_of c.args.going) trees) → LeavesOnly d0 d1 (λ x. IsImage x (settle world)) × RunsOn (record h { disk = d1 }) world (progress_over (going_of after) trees) =
          e.goes_on told in
          record {
            over = subst (IsOver fs.world) (sym (tree_gone d0 d1 s0 status fs.log fs.world fs.room fs.base c.args.going after whole goes (e.tree told) m.runs)) m.over;
            whole = subst (IsWorld limits_written) (sym (world_gone d0 d1 s0 status fs.log fs.world fs.room fs.base c.args.going after whole goes (e.tree told) m.runs)) m.whole;
            runs = runs_gone d0 d1 s0 status fs.log fs.world fs.room fs.base c.args.going after whole goes (e.tree told) m.runs;
            stands = e.stands told;
          };
    }

pub returns-in-Err-clause-goes_on : goal.returns-in-Err-clause-goes_on
returns-in-Err-clause-goes_on g c told r =
    let old = held (with_point c.args.self.now c.args.going) in
    let is = c.requires.sound.based c.requires.running in
    let some = step_writes (work_of c.args.going.point) (stage_of c.args.going.point) is.within in
    let e = c.in-Err.ensures in (
      refl,
      record {
        touched = point_apart (work_of c.args.going.point) is.whole c.args.self.now.base.slot is.slot c.args.self.now.log.blocks old.disk old.disk _ is.blocks (Touches-start (IsBesideRoot old) old.disk) (e.touched told);
        moments = (e.goes_on told old old.world (record { live = r.0; frozen = old.world.frozen }) r.1).0;
        failed = e.counts.cause;
        later = later-calls _ _ _ _ _ e.counts;
        costs = record { writes = let most = e.counts.writes.1 in omega (arith, most, some.1); syncs = let most = e.counts.syncs.1 in omega (arith, most, some.2) };
      },
    )
