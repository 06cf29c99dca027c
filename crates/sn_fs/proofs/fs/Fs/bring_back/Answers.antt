use Rattle.std.proofs.Common.{Err, is_some, refl, sym, ap, subst}
use Rattle.sn_block.specs.Lending.{device_of}
use Rattle.sn_held.specs.Held.{Held}
use Rattle.sn_model.specs.Steps.{pointed}
use Rattle.sn_model.specs.declared.outcome.AskedPoint.TheVariants.{Restores}
use Rattle.sn_events.specs.Answers.{BuildsFor}
use Rattle.sn_events.specs.Pointing.{BringsBack, IsToBringBack, PointsSo}
use Rattle.sn_events.proofs.LookLemmas.{look_sectors, looked_on, meant_looked, unread_snapshot}
use Rattle.sn_events.proofs.MeantLemmas.{readable}
use Rattle.sn_events.proofs.ServeLemmas.{within_still}
use Rattle.sn_cp_whole.specs.declared.fault.PointFault.{PointFault}
use Rattle.sn_fs.specs.Filesystem.{held}
use Rattle.sn_fs.proofs.fs.Fs.bring_back.Goals as goal

pub prepare_restore-requires-clause-readable : goal.prepare_restore-requires-clause-readable
prepare_restore-requires-clause-readable g c told =
    let fs = c.args.self.now in
    let m = c.requires.sound.meant c.requires.running told in
    readable (held fs) m.runs (g.met.D.Device.whole (device_of fs.blocks) told) (g.D.Device.status (device_of fs.blocks)).sectors (c.requires.sound.within c.requires.running)

pub prepare_restore-requires-clause-there : goal.prepare_restore-requires-clause-there
prepare_restore-requires-clause-there g c told = ap is_some (c.requires.there told).frozen

pub returns-in-Err-clause-brings : goal.returns-in-Err-clause-brings
returns-in-Err-clause-brings g c told r can =
    let fs = c.args.self.now in
    let old = held fs in
    let new = held (record fs { blocks = c.prepare_restore.new.blocks }) in
    let name = c.args.name.now in
    subst (λ (f : PointFault). PointsSo (Err f) (Restores name) old new) (sym c.unread.ensures)
    (unread_snapshot _ _ _ _ fs.log fs.world fs.room fs.base fs.going (c.prepare_restore.ensures.same told) g.D.Device.tells_bytes told (pointed (Restores name) old.world) (BuildsFor (Restores name) old) c.in-Err.fault c.in-Err.ensures.counts)

pub returns-in-Err-clause-sound : goal.returns-in-Err-clause-sound
returns-in-Err-clause-sound g c =
    let fs = c.args.self.now in
    let sound = c.requires.sound in
    record {
      within = λ running. within_still fs.log.blocks fs.log.blocks _ _ refl (look_sectors g.D.Device.tells_bytes c.prepare_restore.result _ _ c.prepare_restore.ensures.counts) (sound.within running);
      parked = sound.parked;
      based = sound.based;
      between = sound.between;
      drops = sound.drops;
      meant = λ running told. meant_looked _ _ _ _ fs.log fs.world fs.room fs.base fs.going (c.prepare_restore.ensures.same told) (sound.meant running told);
    }

pub replace_tree-requires-clause-sound : goal.replace_tree-requires-clause-sound
replace_tree-requires-clause-sound g c =
    let fs = c.args.self.now in
    let sound = c.requires.sound in
    record {
      within = λ running. within_still fs.log.blocks fs.log.blocks _ _ refl (look_sectors g.D.Device.tells_bytes c.prepare_restore.result _ _ c.prepare_restore.ensures.counts) (sound.within running);
      parked = sound.parked;
      based = sound.based;
      between = sound.between;
      drops = sound.drops;
      meant = λ running told. meant_looked _ _ _ _ fs.log fs.world fs.room fs.base fs.going (c.prepare_restore.ensures.same told) (sound.meant running told);
    }

pub replace_tree-requires-clause-there : goal.replace_tree-requires-clause-there
replace_tree-requires-clause-there g c told =
    let fs = c.args.self.now in
    let old = held fs in
    let new = held (record fs { blocks = c.prepare_restore.new.blocks }) in
    let name = c.args.name.now in
    let can = c.requires.there told in
    subst (IsToBringBack c.in-Ok.restored name) (sym (looked_on _ _ _ _ fs.log fs.world fs.room fs.base fs.going (c.prepare_restore.ensures.same told) c.in-Ok.ensures.counts))
    (record { can = can; restores = c.in-Ok.ensures.restores told can.tree can.frozen })

pub returns-clause-brings : goal.returns-clause-brings
returns-clause-brings g c told =
    let fs = c.args.self.now in
    let new = held c.replace_tree.new.self in
    subst (λ (h : Held). BringsBack c.replace_tree.result c.args.name.now h new) (looked_on _ _ _ _ fs.log fs.world fs.room fs.base fs.going (c.prepare_restore.ensures.same told) c.in-Ok.ensures.counts)
    (c.replace_tree.ensures.brings told)
