use Rattle.std.proofs.Common.{◌≡◌, ◌+◌, Option, None, Some, sym, subst, ◌∙◌}
use Rattle.std.specs.Prelude.{IfSome}
use Rattle.sn_block.specs.Lending.{device_of}
use Rattle.sn_desc.specs.InUse.{live_in}
use Rattle.sn_limits.specs.Versions.{limits_written}
use Rattle.sn_live.specs.Prepared.{IsPrepared}
use Rattle.sn_live.specs.declared.preparing.PreparedLive.{PreparedLive}
use Rattle.sn_live_world.specs.World.{HasRoomFor, descriptors_of}
use Rattle.sn_model.specs.declared.change.Change.{Change}
use Rattle.sn_events.specs.Changing.{FailsChange}
use Rattle.sn_events.specs.declared.fault.ChangeFault.{ChangeFault}
use Rattle.sn_events.proofs.LoggedLemmas.{Commits, is_logged, lost_logged, over_logged}
use Rattle.sn_events.proofs.LookLemmas.{alike_held, look_sectors, unread_change}
use Rattle.sn_events.proofs.MeantLemmas.{readable}
use Rattle.sn_fs.specs.Filesystem.{held}
use Rattle.sn_fs.proofs.MountedLemmas.{is_cut, looked_mounted}
use Rattle.sn_fs.proofs.fs.Fs.log_change.Goals as goal

pub prepare_change-requires-clause-readable : goal.prepare_change-requires-clause-readable
prepare_change-requires-clause-readable g c told =
    let fs = c.args.self.now in
    let m = c.requires.sound.meant c.requires.running told in
    (readable (held fs) m.runs (g.met.D.Device.whole (device_of fs.blocks) told) (g.D.Device.status (device_of fs.blocks)).sectors (c.requires.sound.within c.requires.running)).live

pub prepare_change-requires-clause-live : goal.prepare_change-requires-clause-live
prepare_change-requires-clause-live g c told = (c.requires.sound.meant c.requires.running told).over

-- ---- it can't be made

pub returns-in-Ok-None-clause-made : goal.returns-in-Ok-None-clause-made
returns-in-Ok-None-clause-made g c told =
    let fs = c.args.self.now in
    let can = c.requires.can told in
    let none = subst (λ (p : Option PreparedLive). IsPrepared limits_written p (held fs).world.live c.args.payload.now) c.in-Ok-None.field-0-is (subst (λ (x : Change). IsPrepared limits_written c.in-Ok-None.field-0 (held fs).world.live x) c.change.ensures.same (c.in-Ok-None.ensures.prepared told)) in
    let never : None ≡ Some can.0 = sym none ∙ can.1 in absurd cc

pub returns-in-Ok-None-clause-kept : goal.returns-in-Ok-None-clause-kept
returns-in-Ok-None-clause-kept g c = c.in-Ok-None.ensures.keeps _ (c.requires.sound.drops c.requires.running)

pub returns-in-Ok-None-clause-meant : goal.returns-in-Ok-None-clause-meant
returns-in-Ok-None-clause-meant g c _ =
    let fs = c.args.self.now in
    looked_mounted g.D.Device.tells_bytes _ _ _ _ fs.log fs.world _ fs.room fs.base fs.going fs.has_stopped c.in-Ok-None.ensures.alike c.in-Ok-None.ensures.same (look_sectors g.D.Device.tells_bytes c.prepare_change.result _ _ c.prepare_change.ensures.counts)
    (λ running. c.in-Ok-None.ensures.keeps _ (c.requires.sound.drops running)) c.requires.sound

-- ---- its blocks couldn't be looked at

pub returns-in-Err-clause-made : goal.returns-in-Err-clause-made
returns-in-Err-clause-made g c told =
    let fs = c.args.self.now in
    let now = c.prepare_change.new in
    let unread = unread_change _ _ _ _ fs.log fs.world fs.room fs.base fs.going (c.in-Err.ensures.same told) g.D.Device.tells_bytes told c.args.payload.now c.in-Err.fault c.in-Err.ensures.counts in
    subst (λ (f : ChangeFault). FailsChange f c.args.payload.now (held fs) (held (record fs { blocks = now.blocks; world = now.self }))) (sym c.fault_of.ensures)
    (subst (FailsChange _ c.args.payload.now (held fs)) (sym (alike_held _ _ fs.log fs.world now.self fs.room fs.base fs.going c.in-Err.ensures.alike)) unread)

pub returns-in-Err-clause-kept : goal.returns-in-Err-clause-kept
returns-in-Err-clause-kept g c = c.in-Err.ensures.keeps _ (c.requires.sound.drops c.requires.running)

pub returns-in-Err-clause-meant : goal.returns-in-Err-clause-meant
returns-in-Err-clause-meant g c _ =
    let fs = c.args.self.now in
    looked_mounted g.D.Device.tells_bytes _ _ _ _ fs.log fs.world _ fs.room fs.base fs.going fs.has_stopped c.in-Err.ensures.alike c.in-Err.ensures.same (look_sectors g.D.Device.tells_bytes c.prepare_change.result _ _ c.prepare_change.ensures.counts)
    (λ running. c.in-Err.ensures.keeps _ (c.requires.sound.drops running)) c.requires.sound

-- ---- it is made

pub returns-in-Ok-clause-made : goal.returns-in-Ok-clause-made
returns-in-Ok-clause-made g c told =
    let fs = c.args.self.now in
    let looked = c.in-Ok-Some.ensures in
    let e = c.commit.ensures in
    let commits : Commits c.in-Ok-Some.prepared c.prepare_change.new.self c.commit.new.self c.commit.result = record { over = e.over; made = e.made; merged = e.merged; lost = e.lost; kept = e.kept; since = e.since } in
    let appends = c.in-Ok.ensures.disk told in
    is_logged _ _ _ _ _ _ fs.log fs.world c.prepare_change.new.self c.commit.new.self fs.room fs.base fs.going c.args.payload.now c.args.charge c.in-Ok-Some.prepared c.commit.result (c.requires.sound.meant c.requires.running told)
    (g.met.D.Device.whole (device_of fs.blocks) told) (g.met.D.Device.whole (device_of c.append.new.blocks) told) (looked.same told) looked.counts looked.alike (subst (λ (p : Option PreparedLive). IsPrepared limits_written p (held fs).world.live c.args.payload.now) c.in-Ok-Some.field-0-is (subst (λ (x : Change). IsPrepared limits_written c.in-Ok-Some.field-0 (held fs).world.live x) c.change.ensures.same (looked.prepared told))) commits appends.touched
    c.in-Ok.field-0 c.append.new.self c.log.new.self appends c.in-Ok.ensures.moves c.log.ensures c.in-Ok.ensures.counts.done

pub returns-in-Ok-clause-over : goal.returns-in-Ok-clause-over
returns-in-Ok-clause-over g c told =
    let fs = c.args.self.now in
    let looked = c.in-Ok-Some.ensures in
    let e = c.commit.ensures in
    let commits : Commits c.in-Ok-Some.prepared c.prepare_change.new.self c.commit.new.self c.commit.result = record { over = e.over; made = e.made; merged = e.merged; lost = e.lost; kept = e.kept; since = e.since } in
    over_logged _ _ _ _ _ (g.D.Device.status (device_of c.append.new.blocks)) fs.log fs.world c.prepare_change.new.self c.commit.new.self fs.room fs.base fs.going c.args.payload.now c.args.charge c.in-Ok-Some.prepared c.commit.result (c.requires.sound.meant c.requires.running told)
    (g.met.D.Device.whole (device_of fs.blocks) told) (g.met.D.Device.whole (device_of c.append.new.blocks) told) (looked.same told) looked.counts looked.alike (subst (λ (p : Option PreparedLive). IsPrepared limits_written p (held fs).world.live c.args.payload.now) c.in-Ok-Some.field-0-is (subst (λ (x : Change). IsPrepared limits_written c.in-Ok-Some.field-0 (held fs).world.live x) c.change.ensures.same (looked.prepared told))) commits (c.in-Ok.ensures.disk told).touched

pub returns-in-Ok-clause-lost : goal.returns-in-Ok-clause-lost
returns-in-Ok-clause-lost g c told =
    let fs = c.args.self.now in
    let looked = c.in-Ok-Some.ensures in
    let e = c.commit.ensures in
    let commits : Commits c.in-Ok-Some.prepared c.prepare_change.new.self c.commit.new.self c.commit.result = record { over = e.over; made = e.made; merged = e.merged; lost = e.lost; kept = e.kept; since = e.since } in
    lost_logged _ _ _ _ _ (g.D.Device.status (device_of c.append.new.blocks)) fs.log fs.world c.prepare_change.new.self c.commit.new.self fs.room fs.base fs.going c.args.payload.now c.args.charge c.in-Ok-Some.prepared c.commit.result (c.requires.sound.meant c.requires.running told)
    (g.met.D.Device.whole (device_of fs.blocks) told) (g.met.D.Device.whole (device_of c.append.new.blocks) told) (looked.same told) looked.counts looked.alike (subst (λ (p : Option PreparedLive). IsPrepared limits_written p (held fs).world.live c.args.payload.now) c.in-Ok-Some.field-0-is (subst (λ (x : Change). IsPrepared limits_written c.in-Ok-Some.field-0 (held fs).world.live x) c.change.ensures.same (looked.prepared told))) commits (c.in-Ok.ensures.disk told).touched

pub returns-in-Ok-clause-drops : goal.returns-in-Ok-clause-drops
returns-in-Ok-clause-drops g c =
    let drops = live_in (descriptors_of c.args.self.now.world) + 2 in
    c.commit.ensures.drops drops (subst (λ (p : Option PreparedLive). IfSome p (λ prepared. HasRoomFor c.prepare_change.new.self prepared drops)) c.in-Ok-Some.field-0-is c.in-Ok-Some.ensures.room)

-- ---- its append was cut off

pub returns-in-Err-append-clause-made : goal.returns-in-Err-append-clause-made
returns-in-Err-append-clause-made g c told =
    let can = c.requires.can told in
    let fs = c.args.self.now in
    let looked = c.in-Ok-Some.ensures in
    is_cut c.in-Err-append.field-0 c.args.payload.now (held fs) (held (record fs { blocks = c.append.new.blocks; log = c.append.new.self; world = c.prepare_change.new.self })) _ _ can.0 can.1 (looked.same told) looked.counts (c.in-Err-append.ensures.disk told) c.in-Err-append.ensures.counts
