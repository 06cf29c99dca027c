use Rattle.std.proofs.Common.{sym, ◌∙◌}
use Rattle.sn_device.specs.Disk.{reads}
use Rattle.sn_block.specs.Lending.{device_of}
use Rattle.sn_rooted.specs.Roots.{store_on}
use Rattle.sn_rooted.proofs.RootLemmas.{nameless_is, none_nameless}
use Rattle.sn_rooted.proofs.nodes.is_nameless.Goals as goal

pub returns-in-None-clause-nameless : goal.returns-in-None-clause-nameless
returns-in-None-clause-nameless g c told root =
    none_nameless (store_on c.args.blocks.now) c.args.file.now c.args.number (sym (c.in_ok-inode.ensures.inode told) ∙ c.in-None.is)

pub returns-in-Some-clause-nameless : goal.returns-in-Some-clause-nameless
returns-in-Some-clause-nameless g c told root =
    let disk = g.D.Device.disk (device_of c.args.blocks.now) in
    let used = sym (c.in_ok-inode.ensures.inode told) ∙ c.in-Some.is in
    c.is_unlinked.ensures
    ∙ nameless_is c.args.limits.now _ (reads disk) c.args.file.now (g.met.D.Device.whole (device_of c.args.blocks.now) told) (g.met.D.Device.count (device_of c.args.blocks.now) told) root c.args.number c.in-Some.inode used
