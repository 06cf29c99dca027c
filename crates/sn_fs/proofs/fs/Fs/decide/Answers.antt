use Rattle.std.proofs.Common.{refl}
use Rattle.sn_block.specs.Lending.{device_of}
use Rattle.sn_fs.specs.Filesystem.{held}
use Rattle.sn_events.proofs.LookLemmas.{call_sectors, decided_so, meant_looked, quiet, undecided_so}
use Rattle.sn_events.proofs.MeantLemmas.{readable}
use Rattle.sn_events.proofs.ServeLemmas.{within_still}
use Rattle.sn_fs.proofs.fs.Fs.decide.Goals as goal

pub decide-requires-clause-readable : goal.decide-requires-clause-readable
decide-requires-clause-readable g c told =
    let fs = c.args.self.now in
    let m = c.requires.sound.meant c.requires.running told in
    readable (held fs) m.runs (g.met.D.Device.whole (device_of fs.blocks) told) (g.D.Device.status (device_of fs.blocks)).sectors (c.requires.sound.within c.requires.running)

pub decide-requires-clause-live : goal.decide-requires-clause-live
decide-requires-clause-live g c told = (c.requires.sound.meant c.requires.running told).over

pub returns-clause-quiet : goal.returns-clause-quiet
returns-clause-quiet g c told =
    let fs = c.args.self.now in
    quiet _ _ _ _ fs.log fs.world fs.room fs.base fs.going (c.decide.ensures.same told) g.D.Device.tells_bytes c.decide.result c.decide.ensures.counts

pub returns-clause-decided : goal.returns-clause-decided
returns-clause-decided g c told =
    let fs = c.args.self.now in
    decided_so _ _ (g.D.Device.status (device_of fs.blocks)) (g.D.Device.status (device_of c.decide.new.blocks)) fs.log fs.world fs.room fs.base fs.going (c.decide.ensures.same told) c.args.session c.args.call.now c.decide.result (c.decide.ensures.decided told)

pub returns-clause-undecided : goal.returns-clause-undecided
returns-clause-undecided g c told =
    let fs = c.args.self.now in
    undecided_so _ _ (g.D.Device.status (device_of fs.blocks)) (g.D.Device.status (device_of c.decide.new.blocks)) fs.log fs.world fs.room fs.base fs.going (c.decide.ensures.same told) g.D.Device.tells_bytes told c.args.session c.args.call.now c.decide.result (c.decide.ensures.decided told) c.decide.ensures.counts

pub returns-clause-sound : goal.returns-clause-sound
returns-clause-sound g c =
    let fs = c.args.self.now in
    let sound = c.requires.sound in
    record {
      within = λ running. within_still fs.log.blocks fs.log.blocks _ _ refl (call_sectors g.D.Device.tells_bytes c.decide.result _ _ c.decide.ensures.counts) (sound.within running);
      parked = sound.parked;
      based = sound.based;
      between = sound.between;
      drops = sound.drops;
      meant = λ running told. meant_looked _ _ _ _ fs.log fs.world fs.room fs.base fs.going (c.decide.ensures.same told) (sound.meant running told);
    }
