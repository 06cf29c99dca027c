use Rattle.std.proofs.Common.{◌≡◌, inl, inr, ◌++◌, ap, subst}
use Rattle.std.proofs.lemmas.Result.{err_from_is_err_and, on_ok_weaker}
use Rattle.sn_device.specs.Disk.{Disk, reads}
use Rattle.sn_block.specs.Lending.{device_of}
use Rattle.sn_ondisk.specs.Trees.{Store, store_of}
use Rattle.sn_image.specs.Contents.{content_reach}
use Rattle.sn_image.specs.Names.{names_by}
use Rattle.sn_image.specs.Reach.{block_reach}
use Rattle.sn_image.specs.Sound.{HasAcls}
use Rattle.sn_sound.specs.Faults.{IsContentFault}
use Rattle.sn_marks.specs.Marks.{Marks}
use Rattle.sn_marks.proofs.WalkLemmas.{tells_weaker, told_weaker}
use Rattle.sn_check_root.specs.Rules.{IsInodeFault, IsSoundContent, IsWrong}
use Rattle.sn_check_root.proofs.WrongLemmas.{marks_append, wrong_front, wrong_back}
use Rattle.sn_check_root.proofs.contents.check_used.Goals as goal

pub returns-in_err-check_acls-clause-fault : goal.returns-in_err-check_acls-clause-fault
returns-in_err-check_acls-clause-fault g c told =
    let s = store_of (reads (g.D.Device.disk (device_of c.args.blocks.now))) in
    let p = err_from_is_err_and c.from_residual.result c.from_residual.ensures.1 in
    rw (p.1, p.2) (tells_weaker c.in_err-check_acls.field-0.0
    (IsWrong c.args.root.now.geometry c.args.root.now.bit (block_reach c.args.inode.now.acl_block) c.args.map.now (λ block. (block ≡ c.args.inode.now.acl_block) × (HasAcls s c.args.inode.now → ⊥)))
    (IsWrong c.args.root.now.geometry c.args.root.now.bit (block_reach c.args.inode.now.acl_block ++ content_reach s c.args.inode.now.content) c.args.map.now (IsInodeFault c.args.limits.now s c.args.inode.now c.args.top))
    (λ damage block wrong. wrong_front _ _ _ _ _ _ _ damage block (λ x found. inl found) wrong)
    (c.in_err-check_acls.ensures.fault told))

pub returns-clause-marks : goal.returns-clause-marks
returns-clause-marks g c told =
    let s = store_of (reads (g.D.Device.disk (device_of c.args.blocks.now))) in
    let r = store_of (reads (g.D.Device.disk (device_of c.check_acls.new.blocks))) in
    let same : r ≡ s = ap (λ (d : Disk). store_of (reads d)) (c.check_acls.ensures.same told) in
    on_ok_weaker c.check_content.result
    (λ (marks : Marks c.args.root.now.geometry c.args.root.now.bit (content_reach r c.args.inode.now.content) c.check_acls.new.map c.check_content.new.map).
    marks_append c.args.root.now.geometry c.args.root.now.bit (block_reach c.args.inode.now.acl_block) (content_reach s c.args.inode.now.content) c.args.map.now c.check_acls.new.map c.check_content.new.map c.in_ok-check_acls.ensures.marks
    (subst (λ (q : Store). Marks c.args.root.now.geometry c.args.root.now.bit (content_reach q c.args.inode.now.content) c.check_acls.new.map c.check_content.new.map) same marks))
    (c.check_content.ensures.marks told)

pub returns-clause-sound : goal.returns-clause-sound
returns-clause-sound g c told =
    let s = store_of (reads (g.D.Device.disk (device_of c.args.blocks.now))) in
    let r = store_of (reads (g.D.Device.disk (device_of c.check_acls.new.blocks))) in
    let same : r ≡ s = ap (λ (d : Disk). store_of (reads d)) (c.check_acls.ensures.same told) in
    on_ok_weaker c.check_content.result
    (λ (sound : IsSoundContent c.args.limits.now r c.args.inode.now.kind c.args.inode.now.content). record {
      acls = c.in_ok-check_acls.ensures.acls told;
      content = subst (λ (q : Store). IsSoundContent c.args.limits.now q c.args.inode.now.kind c.args.inode.now.content) same sound;
    })
    (c.check_content.ensures.sound told)

pub returns-clause-fault : goal.returns-clause-fault
returns-clause-fault g c told =
    let s = store_of (reads (g.D.Device.disk (device_of c.args.blocks.now))) in
    let r = store_of (reads (g.D.Device.disk (device_of c.check_acls.new.blocks))) in
    let same : r ≡ s = ap (λ (d : Disk). store_of (reads d)) (c.check_acls.ensures.same told) in
    let Whole = λ (q : Store). IsWrong c.args.root.now.geometry c.args.root.now.bit (content_reach q c.args.inode.now.content) c.check_acls.new.map
    (IsContentFault c.args.limits.now q c.args.inode.now.kind c.args.inode.now.content (names_by q c.args.inode.now.kind c.args.inode.now.content) c.args.top) in
    told_weaker c.check_content.result (Whole r)
    (IsWrong c.args.root.now.geometry c.args.root.now.bit (block_reach c.args.inode.now.acl_block ++ content_reach s c.args.inode.now.content) c.args.map.now (IsInodeFault c.args.limits.now s c.args.inode.now c.args.top))
    (λ damage block wrong. wrong_back _ _ _ _ _ _ _ _ damage block (λ x found. inr found) c.in_ok-check_acls.ensures.marks
    (subst (λ (q : Store). Whole q damage block) same wrong))
    (c.check_content.ensures.fault told)
