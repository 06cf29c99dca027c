use Rattle.std.proofs.Common.{Err, ap, sym, ◌∙◌}
use Rattle.sn_device.specs.Disk.{reads}
use Rattle.sn_block.specs.Lending.{device_of}
use Rattle.sn_rooted.specs.Roots.{store_on}
use Rattle.sn_rooted.proofs.RootLemmas.{nameless_is, records_read, was_damaged}
use Rattle.sn_rooted_tree.proofs.NumberingLemmas.{unused, used}
use Rattle.sn_rooted_tree.proofs.numbers.number_use.Goals as goal

pub returns-in_err-inode-clause-damaged : goal.returns-in_err-inode-clause-damaged
returns-in_err-inode-clause-damaged g c told root block is =
    let disk = g.D.Device.disk (device_of c.args.blocks.now) in
    (c.in_err-inode.ensures.damaged told block (ap (λ f. Err f) (was_damaged _ _ c.from_residual.ensures.1 is))).0
    (records_read c.args.limits.now _ (reads disk) c.args.file.now (g.met.D.Device.whole (device_of c.args.blocks.now) told) (g.met.D.Device.count (device_of c.args.blocks.now) told) root c.inode_laws.ensures.inodes c.args.number)

pub returns-in-None-clause-found : goal.returns-in-None-clause-found
returns-in-None-clause-found g c told root =
    unused (store_on c.args.blocks.now) c.args.file.now c.args.number (sym (c.in_ok-inode.ensures.inode told) ∙ c.in-None.is)

pub returns-in-Some-clause-found : goal.returns-in-Some-clause-found
returns-in-Some-clause-found g c told root =
    let disk = g.D.Device.disk (device_of c.args.blocks.now) in
    let there = sym (c.in_ok-inode.ensures.inode told) ∙ c.in-Some.is in
    used (store_on c.args.blocks.now) c.args.file.now c.args.number c.in-Some.inode c.use_of.result there c.use_of.ensures
    (nameless_is c.args.limits.now _ (reads disk) c.args.file.now (g.met.D.Device.whole (device_of c.args.blocks.now) told) (g.met.D.Device.count (device_of c.args.blocks.now) told) root c.args.number c.in-Some.inode there)
