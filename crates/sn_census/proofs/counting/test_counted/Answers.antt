use Rattle.sn_device.specs.Disk.{reads}
use Rattle.sn_block.specs.Lending.{device_of}
use Rattle.sn_ondisk.specs.Trees.{store_of}
use Rattle.sn_sound.specs.Faults.{record_block}
use Rattle.sn_marks.proofs.WalkLemmas.{told_weaker}
use Rattle.sn_census.specs.Faults.{IsAt, StandsInLinks}
use Rattle.sn_census.specs.Rows.{row_at}
use Rattle.sn_census.proofs.FaultLemmas.{at_stands, lacking_stands, never_ok}
use Rattle.sn_census.proofs.LinkLemmas.{names_are}
use Rattle.sn_census.proofs.counting.test_counted.Goals as goal

pub record_fault-requires : goal.record_fault-requires
record_fault-requires g c = record { lies = λ told. (c.requires.readable told).file }

pub returns-in-Some-clause-linked : goal.returns-in-Some-clause-linked
returns-in-Some-clause-linked g c told = never_ok _ c.record_fault.result c.record_fault.ensures.never

pub returns-in-Some-clause-fault : goal.returns-in-Some-clause-fault
returns-in-Some-clause-fault g c told =
    let s = store_of (reads (g.D.Device.disk (device_of c.args.blocks.now))) in
    let n = (g.D.Device.status (device_of c.args.blocks.now)).sectors in
    let row = c.requires.counted told c.in-Some.number in
    let stands = lacking_stands s c.args.file.now c.args.body c.in-Some.number (row_at c.args.census.now c.in-Some.number) row.of
    (names_are c.args.limits.now n s c.args.file.now (c.requires.readable told) c.args.census.now (c.requires.counted told) c.in-Some.number) row.few c.in-Some.ensures.some in
    told_weaker c.record_fault.result (IsAt (record_block s c.args.file.now c.args.body c.in-Some.number)) (StandsInLinks s c.args.file.now c.args.body)
    (λ damage block at. at_stands s c.args.file.now c.args.body _ damage block stands at)
    (c.record_fault.ensures.fault told)

pub returns-in-Some-clause-found : goal.returns-in-Some-clause-found
returns-in-Some-clause-found g c told = never_ok _ c.record_fault.result c.record_fault.ensures.never
