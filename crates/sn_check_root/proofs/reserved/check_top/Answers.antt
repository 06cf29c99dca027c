use Rattle.std.proofs.Common.{◌≡◌, ℕ, ◌<◌, ◌/◌, Option, None, Some, ap, sym, subst, ◌∙◌}
use Rattle.std.specs.Prelude.{codes, IsSomeAnd}
use Rattle.std.proofs.lemmas.Result.{err_from_is_err_and, on_ok_weaker}
use Rattle.sn_device.specs.Disk.{Disk, reads}
use Rattle.sn_block.specs.Lending.{device_of}
use Rattle.sn_limits.specs.declared.kind.Kind.TheVariants.{Directory}
use Rattle.sn_layout_node.specs.Directory.{number_of}
use Rattle.sn_layout_node.specs.declared.inode.Inode.{Inode}
use Rattle.sn_ondisk.specs.Trees.{Store, store_of}
use Rattle.sn_image.specs.Inodes.{inode_at}
use Rattle.sn_image.specs.Names.{names_by}
use Rattle.sn_dir.specs.Blocks.{CanRead}
use Rattle.sn_inode.specs.Reads.{CanReadRecord}
use Rattle.sn_sound.specs.Faults.{IsMisspelt}
use Rattle.sn_marks.specs.Fault.{Tells}
use Rattle.sn_marks.specs.declared.fault.CheckFault.{CheckFault}
use Rattle.sn_marks.proofs.WalkLemmas.{tells_weaker, told_weaker}
use Rattle.sn_check_root.specs.Rules.{Breaks, IsRootInode, IsSpeltWrong, misspelt}
use Rattle.sn_check_root.proofs.DeviceLemmas.{stays_one, stays_more, at_start, at_now}
use Rattle.sn_check_root.proofs.InodeLemmas.{names_are, record_wrong}
use Rattle.sn_check_root.proofs.SoundLemmas.{root_gone, root_read, root_wrong}
use Rattle.sn_check_root.proofs.WrongLemmas.{spelt_rule}
use Rattle.sn_check_root.proofs.reserved.check_top.Goals as goal

pub returns-in_err-top-clause-fault : goal.returns-in_err-top-clause-fault
returns-in_err-top-clause-fault g c told =
    let s = store_of (reads (g.D.Device.disk (device_of c.args.blocks.now))) in
    let p = err_from_is_err_and c.from_residual.result c.from_residual.ensures.1 in
    rw (p.1, p.2) (tells_weaker c.in_err-top.field-0.0 (λ damage block. ⊥)
    (IsSpeltWrong (IsMisspelt c.args.limits.now s c.args.file.now c.args.body))
    (λ damage block never. absurd never) (c.in_err-top.ensures.fault told))

pub returns-in_err-inode-clause-fault : goal.returns-in_err-inode-clause-fault
returns-in_err-inode-clause-fault g c told =
    let s = store_of (reads (g.D.Device.disk (device_of c.args.blocks.now))) in
    let n = (g.D.Device.status (device_of c.args.blocks.now)).sectors in
    let stays = stays_one _ _ _ _ _ c.in_ok-top.ensures.counts.done c.record_block.ensures.same in
    let p = err_from_is_err_and c.from_residual-in_err-inode.result c.from_residual-in_err-inode.ensures.1 in
    rw (p.1, p.2) (tells_weaker c.in_err-inode.field-0.0
    (Breaks (CanReadRecord c.args.limits.now n s c.args.file.now 2) c.in_ok-top.top)
    (IsSpeltWrong (IsMisspelt c.args.limits.now s c.args.file.now c.args.body))
    (λ damage block broken. spelt_rule _ _ _ damage block (record_wrong c.args.limits.now s c.args.file.now 2 c.args.body n c.in_ok-top.top (c.requires.lies told) (c.in_ok-top.ensures.block told)) broken)
    (at_start _ _ _ _ _ stays (λ (m : ℕ) (q : Store). Tells c.in_err-inode.field-0.0 (Breaks (CanReadRecord c.args.limits.now m q c.args.file.now 2) c.in_ok-top.top)) told (c.in_err-inode.ensures.fault told)))

pub returns-in-None-clause-fault : goal.returns-in-None-clause-fault
returns-in-None-clause-fault g c told =
    let s = store_of (reads (g.D.Device.disk (device_of c.args.blocks.now))) in
    let stays = stays_one _ _ _ _ _ c.in_ok-top.ensures.counts.done c.record_block.ensures.same in
    let none = sym (at_start _ _ _ _ _ stays (λ (m : ℕ) (q : Store). None ≡ inode_at q c.args.file.now 2) told (sym c.in-None.is ∙ c.in_ok-inode.ensures.inode told)) in
    subst (λ (f : CheckFault). Tells f (IsSpeltWrong (IsMisspelt c.args.limits.now s c.args.file.now c.args.body))) (sym c.misspelt.ensures)
    (misspelt c.in_ok-top.top (root_gone c.args.limits.now s c.args.file.now c.args.body c.in_ok-top.top none (c.in_ok-top.ensures.block told)))

pub check_root_inode-requires : goal.check_root_inode-requires
check_root_inode-requires g c = record {
  read = λ told kind tree content.
      let s = store_of (reads (g.D.Device.disk (device_of c.args.blocks.now))) in
      let n = (g.D.Device.status (device_of c.args.blocks.now)).sectors in
      let first = stays_one _ _ _ _ _ c.in_ok-top.ensures.counts.done c.record_block.ensures.same in
      let stays = stays_more _ _ _ _ _ _ _ first c.in_ok-inode.ensures.counts.done c.inode_of.ensures.same in
      let some = sym (at_start _ _ _ _ _ first (λ (m : ℕ) (q : Store). Some c.in-Some.inode ≡ inode_at q c.args.file.now 2) told (sym c.in-Some.is ∙ c.in_ok-inode.ensures.inode told)) in
      at_now _ _ _ _ _ stays (λ (m : ℕ) (q : Store). (i : ℕ) → i < tree.size / 4096 → CanRead m q tree i) told
      (root_read c.directory_laws.ensures c.args.limits.now n s c.args.file.now c.in-Some.inode (c.requires.sound told) (c.requires.reached told) some kind tree content);
}

pub returns-in-Some-clause-root : goal.returns-in-Some-clause-root
returns-in-Some-clause-root g c told =
    let first = stays_one _ _ _ _ _ c.in_ok-top.ensures.counts.done c.record_block.ensures.same in
    let some = sym (at_start _ _ _ _ _ first (λ (m : ℕ) (q : Store). Some c.in-Some.inode ≡ inode_at q c.args.file.now 2) told (sym c.in-Some.is ∙ c.in_ok-inode.ensures.inode told)) in
    on_ok_weaker c.check_root_inode.result (λ directory. subst (λ (o : Option Inode). IsSomeAnd o (λ inode. inode.kind ≡ Directory)) (sym some) directory) (c.check_root_inode.ensures.directory told)

pub returns-in-Some-clause-hidden : goal.returns-in-Some-clause-hidden
returns-in-Some-clause-hidden g c told =
    let s = store_of (reads (g.D.Device.disk (device_of c.args.blocks.now))) in
    let r = store_of (reads (g.D.Device.disk (device_of c.inode_of.new.blocks))) in
    let first = stays_one _ _ _ _ _ c.in_ok-top.ensures.counts.done c.record_block.ensures.same in
    let same : r ≡ s = ap (λ (d : Disk). store_of (reads d)) (c.inode_of.ensures.same told ∙ c.record_block.ensures.same told) in
    let some = sym (at_start _ _ _ _ _ first (λ (m : ℕ) (q : Store). Some c.in-Some.inode ≡ inode_at q c.args.file.now 2) told (sym c.in-Some.is ∙ c.in_ok-inode.ensures.inode told)) in
    on_ok_weaker c.check_root_inode.result (λ hidden.
    ap (number_of (codes ".snapshot")) (sym (names_are c.args.limits.now s c.args.file.now 2 c.in-Some.inode some))
    ∙ ap (λ (q : Store). number_of (codes ".snapshot") (names_by q c.in-Some.inode.kind c.in-Some.inode.content)) (sym same) ∙ hidden)
    (c.check_root_inode.ensures.hidden told)

pub returns-in-Some-clause-fault : goal.returns-in-Some-clause-fault
returns-in-Some-clause-fault g c told =
    let s = store_of (reads (g.D.Device.disk (device_of c.args.blocks.now))) in
    let r = store_of (reads (g.D.Device.disk (device_of c.inode_of.new.blocks))) in
    let first = stays_one _ _ _ _ _ c.in_ok-top.ensures.counts.done c.record_block.ensures.same in
    let same : r ≡ s = ap (λ (d : Disk). store_of (reads d)) (c.inode_of.ensures.same told ∙ c.record_block.ensures.same told) in
    let some = sym (at_start _ _ _ _ _ first (λ (m : ℕ) (q : Store). Some c.in-Some.inode ≡ inode_at q c.args.file.now 2) told (sym c.in-Some.is ∙ c.in_ok-inode.ensures.inode told)) in
    told_weaker c.check_root_inode.result (Breaks (IsRootInode r c.in-Some.inode) c.in_ok-top.top)
    (IsSpeltWrong (IsMisspelt c.args.limits.now s c.args.file.now c.args.body))
    (λ damage block broken. spelt_rule _ _ _ damage block
    (λ wrong. root_wrong c.args.limits.now s c.args.file.now c.args.body c.in-Some.inode c.in_ok-top.top some ((c.requires.sound told).used c.in-Some.inode some).content.has (c.in_ok-top.ensures.block told)
    (subst (λ (q : Store). IsRootInode q c.in-Some.inode → ⊥) same wrong)) broken)
    (c.check_root_inode.ensures.fault told)
