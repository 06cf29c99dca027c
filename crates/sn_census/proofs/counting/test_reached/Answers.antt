use Rattle.sn_device.specs.Disk.{reads}
use Rattle.sn_block.specs.Lending.{device_of}
use Rattle.sn_ondisk.specs.Trees.{store_of}
use Rattle.sn_sound.specs.Faults.{record_block}
use Rattle.sn_marks.proofs.WalkLemmas.{told_weaker}
use Rattle.sn_census.specs.Faults.{IsAt, StandsInLinks}
use Rattle.sn_census.proofs.FaultLemmas.{at_stands, never_ok}
use Rattle.sn_census.proofs.LinkLemmas.{apart_stands, found, linked}
use Rattle.sn_census.proofs.counting.test_reached.Goals as goal

pub record_fault-requires : goal.record_fault-requires
record_fault-requires g c = record { lies = λ told. (c.requires.readable told).file }

pub returns-in-Some-clause-linked : goal.returns-in-Some-clause-linked
returns-in-Some-clause-linked g c told = never_ok _ c.record_fault.result c.record_fault.ensures.never

pub returns-in-Some-clause-fault : goal.returns-in-Some-clause-fault
returns-in-Some-clause-fault g c told =
    let s = store_of (reads (g.D.Device.disk (device_of c.args.blocks.now))) in
    let n = (g.D.Device.status (device_of c.args.blocks.now)).sectors in
    let stands = apart_stands c.args.limits.now n s c.args.file.now (c.requires.readable told) c.args.census.now (c.requires.counted told) c.args.body c.in-Some.directory
    c.in-Some.ensures.directory (c.in-Some.ensures.some (λ number. (c.requires.counted told number).climb)) in
    told_weaker c.record_fault.result (IsAt (record_block s c.args.file.now c.args.body c.in-Some.directory)) (StandsInLinks s c.args.file.now c.args.body)
    (λ damage block at. at_stands s c.args.file.now c.args.body _ damage block stands at)
    (c.record_fault.ensures.fault told)

pub returns-in-None-clause-linked : goal.returns-in-None-clause-linked
returns-in-None-clause-linked g c told =
    let s = store_of (reads (g.D.Device.disk (device_of c.args.blocks.now))) in
    let n = (g.D.Device.status (device_of c.args.blocks.now)).sectors in
    linked c.args.limits.now n s c.args.file.now (c.requires.readable told) c.args.census.now (c.requires.counted told) c.requires.full (c.in-None.ensures.none (λ number. (c.requires.counted told number).climb))

pub returns-in-Some-clause-found : goal.returns-in-Some-clause-found
returns-in-Some-clause-found g c told = never_ok _ c.record_fault.result c.record_fault.ensures.never

pub returns-in-None-clause-found : goal.returns-in-None-clause-found
returns-in-None-clause-found g c told =
    let s = store_of (reads (g.D.Device.disk (device_of c.args.blocks.now))) in
    let n = (g.D.Device.status (device_of c.args.blocks.now)).sectors in
    found c.args.limits.now n s c.args.file.now (c.requires.readable told) c.args.census.now (c.requires.counted told) c.first_apart.new.census c.first_apart.ensures.kept
