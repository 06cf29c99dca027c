use Rattle.sn_device.specs.Disk.{reads}
use Rattle.sn_block.specs.Lending.{device_of}
use Rattle.sn_ondisk.specs.Trees.{store_of}
use Rattle.sn_check_root.proofs.BlockLemmas.{at_body, at_pointer}
use Rattle.sn_check_root.proofs.readers.record_block.Goals as goal

pub returns-then-pointer-eq0-clause-block : goal.returns-then-pointer-eq0-clause-block
returns-then-pointer-eq0-clause-block g c told =
    at_body (store_of (reads (g.D.Device.disk (device_of c.args.blocks.now)))) c.args.file.now c.args.body c.args.number c.in_ok-pointer.pointer (c.in_ok-pointer.ensures.pointer told) c.if-pointer-eq0.true

pub returns-clause-block : goal.returns-clause-block
returns-clause-block g c told =
    at_pointer (store_of (reads (g.D.Device.disk (device_of c.args.blocks.now)))) c.args.file.now c.args.body c.args.number c.in_ok-pointer.pointer (c.in_ok-pointer.ensures.pointer told) c.if-pointer-eq0.false
