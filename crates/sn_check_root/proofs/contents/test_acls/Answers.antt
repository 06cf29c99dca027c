use Rattle.std.proofs.Common.{Err, sym, ap, subst}
use Rattle.sn_device.specs.Disk.{reads}
use Rattle.sn_block.specs.Lending.{device_of}
use Rattle.sn_inode.specs.Reads.{CanReadAcls}
use Rattle.sn_ondisk.specs.Trees.{store_of}
use Rattle.sn_marks.specs.Fault.{Tells}
use Rattle.sn_marks.specs.declared.fault.CheckFault.{CheckFault}
use Rattle.sn_check_root.specs.Rules.{Breaks}
use Rattle.sn_check_root.proofs.WrongLemmas.{rule_told}
use Rattle.sn_check_root.proofs.contents.test_acls.Goals as goal

pub returns-in-Ok-clause-acls : goal.returns-in-Ok-clause-acls
returns-in-Ok-clause-acls g c told = (c.in-Ok.ensures.read told).has

pub returns-in-Err-clause-fault : goal.returns-in-Err-clause-fault
returns-in-Err-clause-fault g c told =
    let Rule = CanReadAcls (g.D.Device.status (device_of c.args.blocks.now)).sectors (store_of (reads (g.D.Device.disk (device_of c.args.blocks.now)))) c.args.inode.now in
    subst (λ (f : CheckFault). Tells f (Breaks Rule c.args.inode.now.acl_block)) (sym c.fault_at.ensures)
    (rule_told Rule c.args.inode.now.acl_block c.in-Err.fault (λ found is can. (c.in-Err.ensures.damaged told found (ap (λ f. Err f) is)).0 can))
