use Rattle.sn_device.specs.Disk.{reads}
use Rattle.sn_block.specs.Lending.{device_of}
use Rattle.sn_rooted.proofs.RootLemmas.{records_read}
use Rattle.sn_rooted.proofs.inodes.inode_of.Goals as goal

pub returns-clause-damaged : goal.returns-clause-damaged
returns-clause-damaged g c told root block is =
    let disk = g.D.Device.disk (device_of c.args.blocks.now) in
    (c.get.ensures.damaged told block is).0
    (records_read c.args.limits.now _ (reads disk) c.args.file.now (g.met.D.Device.whole (device_of c.args.blocks.now) told) (g.met.D.Device.count (device_of c.args.blocks.now) told) root c.inode_laws.ensures.inodes c.args.number)

pub returns-clause-unread : goal.returns-clause-unread
returns-clause-unread g c told block is = let bad = c.get.ensures.damaged told block is in record { unread = bad.0; met = bad.1 }
