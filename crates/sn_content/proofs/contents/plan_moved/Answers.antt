use Rattle.std.proofs.Common.{IsTrue}
use Rattle.sn_device.specs.Disk.{reads}
use Rattle.sn_block.specs.Lending.{device_of}
use Rattle.sn_ondisk.specs.Trees.{store_of}
use Rattle.sn_content.proofs.ContentLemmas.{moved_result}
use Rattle.sn_content.proofs.contents.plan_moved.Goals as goal

pub returns-clause-planned : goal.returns-clause-planned
returns-clause-planned g c =
    let Told = IsTrue g.D.Device.tells_bytes in
    let s = store_of (reads (g.D.Device.disk (device_of c.args.blocks.now))) in
    moved_result Told s c.args.build.now c.plan_new.new.build c.plan_new.result c.args.dirty.size c.args.inline.now c.args.dirty.keep c.args.dirty.blocks.items c.move_out.new.dirty.items c.requires.size c.in_ok-move_out.ensures c.plan_new.ensures.size c.plan_new.ensures.built
