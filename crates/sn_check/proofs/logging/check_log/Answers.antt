use Rattle.std.proofs.Common.{sym, subst}
use Rattle.sn_block.specs.Lending.{device_of}
use Rattle.sn_device.specs.Disk.{Disk, reads}
use Rattle.sn_ondisk.specs.Trees.{store_of}
use Rattle.sn_image.specs.Sound.{IsSound}
use Rattle.sn_check.specs.Faults.{IsDamageOf}
use Rattle.sn_check.specs.Logs.{HasLogged, IsOfLog}
use Rattle.sn_check.proofs.LogLemmas.{aged_tells, later_tells, log_sound, over_tells}
use Rattle.sn_check.proofs.logging.check_log.Goals as goal

pub returns-in-Err-clause-fault : goal.returns-in-Err-clause-fault
returns-in-Err-clause-fault g c told = later_tells c.in-Err.fault c.args.geometry (reads (g.D.Device.disk (device_of c.args.blocks.now))) c.args.root.now c.args.free (c.in-Err.ensures.later told)

pub replay_log-requires-clause-sound : goal.replay_log-requires-clause-sound
replay_log-requires-clause-sound g c told =
    let root = c.args.root.now in
    subst (λ (d : Disk). IsSound root.limits c.args.geometry (store_of (reads d)) root.inode_file) (sym (c.in-Ok.ensures.same told)) (c.requires.sound told)

pub returns-in-Err-replay_log-clause-fault : goal.returns-in-Err-replay_log-clause-fault
returns-in-Err-replay_log-clause-fault g c told =
    subst (λ (d : Disk). IsDamageOf (IsOfLog c.args.geometry (reads d) c.args.root.now c.args.free) c.in-Err-replay_log.fault) (c.in-Ok.ensures.same told) (c.in-Err-replay_log.ensures.fault told c.args.free)

pub returns-in-Err-test_charges-clause-fault : goal.returns-in-Err-test_charges-clause-fault
returns-in-Err-test_charges-clause-fault g c told =
    let l = c.in-Ok-replay_log.logged in
    let log = subst (λ (d : Disk). HasLogged c.args.geometry (reads d) c.args.root.now l.charges l.dropped l.recovers) (c.in-Ok.ensures.same told) (c.in-Ok-replay_log.ensures.logged told) in
    over_tells c.args.geometry (reads (g.D.Device.disk (device_of c.args.blocks.now))) c.args.root.now l.charges l.dropped l.recovers log c.in-Err-test_charges.fault c.args.free c.in-Err-test_charges.ensures.over

pub returns-in-Err-test_age-clause-fault : goal.returns-in-Err-test_age-clause-fault
returns-in-Err-test_age-clause-fault g c told =
    let l = c.in-Ok-replay_log.logged in
    let log = subst (λ (d : Disk). HasLogged c.args.geometry (reads d) c.args.root.now l.charges l.dropped l.recovers) (c.in-Ok.ensures.same told) (c.in-Ok-replay_log.ensures.logged told) in
    aged_tells c.args.geometry (reads (g.D.Device.disk (device_of c.args.blocks.now))) c.args.root.now l.charges l.dropped l.recovers log c.in-Err-test_age.fault c.args.free c.in-Err-test_age.ensures.aged

pub returns-in-Ok-test_age-clause-sound : goal.returns-in-Ok-test_age-clause-sound
returns-in-Ok-test_age-clause-sound g c told =
    let l = c.in-Ok-replay_log.logged in
    let log = subst (λ (d : Disk). HasLogged c.args.geometry (reads d) c.args.root.now l.charges l.dropped l.recovers) (c.in-Ok.ensures.same told) (c.in-Ok-replay_log.ensures.logged told) in
    log_sound c.args.geometry (reads (g.D.Device.disk (device_of c.args.blocks.now))) c.args.root.now l.charges l.dropped l.recovers log c.args.free (c.in-Ok.ensures.none told) c.in-Ok-test_charges.ensures.covered c.in-Ok-test_age.ensures.left
