use Rattle.std.proofs.Common.{rules, ◌≡◌, ap, Err, refl}
use Rattle.std.proofs.lemmas.Result.{err_from_is_err_and}
use Rattle.sn_device.specs.Disk.{reads}
use Rattle.sn_block.specs.Lending.{device_of}
use Rattle.sn_block.specs.declared.fault.ReadFault.TheVariants.{Device}
use Rattle.sn_inode.specs.Reads.{CanReadAcls}
use Rattle.sn_ondisk.specs.Trees.{store_of}
use Rattle.sn_image.specs.Reach.{block_reach}
use Rattle.sn_image.specs.Sound.{HasAcls}
use Rattle.sn_marks.specs.Marks.{IsAstray}
use Rattle.sn_marks.specs.declared.fault.CheckFault.{CheckFault}
use Rattle.sn_marks.specs.declared.fault.CheckFault.TheVariants.{Read}
use Rattle.sn_marks.proofs.WalkLemmas.{tells_weaker, told_weaker}
use Rattle.sn_check_root.specs.Rules.{Breaks, IsWrong}
use Rattle.sn_check_root.proofs.InodeLemmas.{acls_lie, acls_wrong}
use Rattle.sn_check_root.proofs.WrongLemmas.{wrong_astray, wrong_rule}
use Rattle.sn_check_root.proofs.contents.check_acls.Goals as goal

pub returns-in_err-mark-clause-fault : goal.returns-in_err-mark-clause-fault
returns-in_err-mark-clause-fault g c told =
    let s = store_of (reads (g.D.Device.disk (device_of c.args.blocks.now))) in
    let p = err_from_is_err_and c.from_residual.result c.from_residual.ensures.1 in
    rw (p.1, p.2) (tells_weaker c.in_err-mark.field-0.0 (IsAstray c.args.root.now.geometry c.args.root.now.bit (block_reach c.args.inode.now.acl_block) c.args.map.now)
    (IsWrong c.args.root.now.geometry c.args.root.now.bit (block_reach c.args.inode.now.acl_block) c.args.map.now (λ block. (block ≡ c.args.inode.now.acl_block) × (HasAcls s c.args.inode.now → ⊥)))
    (λ damage block wrong. wrong_astray _ _ _ _ _ damage block wrong)
    c.in_err-mark.ensures.fault)

pub returns-in_err-mark-clause-counts : goal.returns-in_err-mark-clause-counts
returns-in_err-mark-clause-counts g c =
    let p = err_from_is_err_and c.from_residual.result c.from_residual.ensures.1 in
    record {
      done = search rules;
      sectors = refl;
      damaged = λ damage block is. refl;
      memory = λ is. refl;
      device = λ is. let same : c.in_err-mark.field-0.0 ≡ Read Device = cc (p.1, p.2) in absurd (c.in_err-mark.ensures.read Device (ap (λ (f : CheckFault). Err f) same));
    }

pub returns-clause-fault : goal.returns-clause-fault
returns-clause-fault g c told =
    let s = store_of (reads (g.D.Device.disk (device_of c.args.blocks.now))) in
    let n = (g.D.Device.status (device_of c.args.blocks.now)).sectors in
    let lies = acls_lie c.args.root.now.geometry c.args.root.now.bit n c.args.inode.now.acl_block c.args.map.now c.mark.new.map c.requires.room c.in_ok-mark.ensures.marks in
    told_weaker c.test_acls.result (Breaks (CanReadAcls n s c.args.inode.now) c.args.inode.now.acl_block)
    (IsWrong c.args.root.now.geometry c.args.root.now.bit (block_reach c.args.inode.now.acl_block) c.args.map.now (λ block. (block ≡ c.args.inode.now.acl_block) × (HasAcls s c.args.inode.now → ⊥)))
    (λ damage block broken. wrong_rule _ _ _ _ _ _ _ damage block (acls_wrong n s c.args.inode.now lies) broken)
    (c.test_acls.ensures.fault told)
