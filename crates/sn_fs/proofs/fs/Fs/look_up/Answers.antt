use Rattle.std.proofs.Common.{refl}
use Rattle.sn_block.specs.Lending.{device_of}
use Rattle.sn_fs.specs.Filesystem.{held}
use Rattle.sn_events.proofs.LookLemmas.{look_sectors, meant_looked}
use Rattle.sn_events.proofs.MeantLemmas.{readable}
use Rattle.sn_events.proofs.ServeLemmas.{within_still}
use Rattle.sn_fs.proofs.LookedLemmas.{quiet_look, unseen_so}
use Rattle.sn_fs.proofs.fs.Fs.look_up.Goals as goal

pub look_up-requires-clause-readable : goal.look_up-requires-clause-readable
look_up-requires-clause-readable g c told =
    let fs = c.args.self.now in
    let m = c.requires.meant c.if-self.false told in
    readable (held fs) m.runs (g.met.D.Device.whole (device_of fs.blocks) told) (g.D.Device.status (device_of fs.blocks)).sectors (c.requires.within c.if-self.false)

pub look_up-requires-clause-live : goal.look_up-requires-clause-live
look_up-requires-clause-live g c told = (c.requires.meant c.if-self.false told).over

pub returns-clause-quiet : goal.returns-clause-quiet
returns-clause-quiet g c told =
    let fs = c.args.self.now in
    quiet_look _ _ _ _ fs.log fs.world fs.room fs.base fs.going (c.look_up.ensures.same told) g.D.Device.tells_bytes c.look_up.result c.look_up.ensures.counts

pub returns-clause-unseen : goal.returns-clause-unseen
returns-clause-unseen g c told running =
    let fs = c.args.self.now in
    unseen_so _ _ _ _ fs.log fs.world fs.room fs.base fs.going (c.look_up.ensures.same told) g.D.Device.tells_bytes told c.look_up.result c.look_up.ensures.counts

pub returns-clause-sound : goal.returns-clause-sound
returns-clause-sound g c =
    let fs = c.args.self.now in
    let sound = c.requires in
    record {
      within = λ running. within_still fs.log.blocks fs.log.blocks _ _ refl (look_sectors g.D.Device.tells_bytes c.look_up.result _ _ c.look_up.ensures.counts) (sound.within running);
      parked = sound.parked;
      based = sound.based;
      between = sound.between;
      drops = sound.drops;
      meant = λ running told. meant_looked _ _ _ _ fs.log fs.world fs.room fs.base fs.going (c.look_up.ensures.same told) (sound.meant running told);
    }
