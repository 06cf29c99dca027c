use Rattle.std.proofs.Common.{◌≡◌, ℕ, List, [], Some, None, ap, refl, sym, subst, ◌∙◌}
use Rattle.std.proofs.lemmas.Result.{err_from_is_err_and, on_ok_weaker}
use Rattle.sn_device.specs.Disk.{Disk, reads}
use Rattle.sn_block.specs.Lending.{device_of}
use Rattle.sn_ondisk.specs.Trees.{Store, store_of}
use Rattle.sn_image.specs.Inodes.{inode_at}
use Rattle.sn_image.specs.Reach.{inode_reach, reach_at}
use Rattle.sn_inode.specs.Reads.{CanReadRecord}
use Rattle.sn_sound.specs.Faults.{IsMisspelt, record_block}
use Rattle.sn_marks.specs.Marks.{Marks}
use Rattle.sn_marks.specs.Fault.{Tells}
use Rattle.sn_marks.proofs.MarkLemmas.{marks_none}
use Rattle.sn_marks.proofs.WalkLemmas.{tells_weaker, told_weaker}
use Rattle.sn_check_root.specs.Rules.{Breaks, IsInodeFault, IsSoundInode, IsWrong}
use Rattle.sn_check_root.proofs.DeviceLemmas.{stays_one, at_start}
use Rattle.sn_check_root.proofs.InodeLemmas.{inode_wrong, number_used, number_unused, reach_of, record_wrong}
use Rattle.sn_check_root.proofs.WrongLemmas.{wrong_rule, wrong_weaker}
use Rattle.sn_check_root.proofs.contents.check_inode.Goals as goal

pub returns-in_err-top-clause-fault : goal.returns-in_err-top-clause-fault
returns-in_err-top-clause-fault g c told =
    let s = store_of (reads (g.D.Device.disk (device_of c.args.blocks.now))) in
    let p = err_from_is_err_and c.from_residual.result c.from_residual.ensures.1 in
    rw (p.1, p.2) (tells_weaker c.in_err-top.field-0.0 (λ damage block. ⊥)
    (IsWrong c.args.root.now.geometry c.args.root.now.bit (reach_at s c.args.file.now c.args.number) c.args.map.now (IsMisspelt c.args.limits.now s c.args.file.now c.args.body))
    (λ damage block never. absurd never) (c.in_err-top.ensures.fault told))

pub returns-in_err-inode-clause-fault : goal.returns-in_err-inode-clause-fault
returns-in_err-inode-clause-fault g c told =
    let s = store_of (reads (g.D.Device.disk (device_of c.args.blocks.now))) in
    let n = (g.D.Device.status (device_of c.args.blocks.now)).sectors in
    let stays = stays_one _ _ _ _ _ c.in_ok-top.ensures.counts.done c.record_block.ensures.same in
    let p = err_from_is_err_and c.from_residual-in_err-inode.result c.from_residual-in_err-inode.ensures.1 in
    rw (p.1, p.2) (tells_weaker c.in_err-inode.field-0.0
    (Breaks (CanReadRecord c.args.limits.now n s c.args.file.now c.args.number) c.in_ok-top.top)
    (IsWrong c.args.root.now.geometry c.args.root.now.bit (reach_at s c.args.file.now c.args.number) c.args.map.now (IsMisspelt c.args.limits.now s c.args.file.now c.args.body))
    (λ damage block broken. wrong_rule _ _ _ _ _ _ _ damage block (record_wrong c.args.limits.now s c.args.file.now c.args.number c.args.body n c.in_ok-top.top (c.requires.lies told) (c.in_ok-top.ensures.block told ∙ ap (record_block s c.args.file.now c.args.body) c.from.ensures)) broken)
    (at_start _ _ _ _ _ stays (λ (m : ℕ) (q : Store). Tells c.in_err-inode.field-0.0 (Breaks (CanReadRecord c.args.limits.now m q c.args.file.now c.args.number) c.in_ok-top.top)) told (c.in_err-inode.ensures.fault told)))

pub returns-in-None-clause-marks : goal.returns-in-None-clause-marks
returns-in-None-clause-marks g c told =
    let s = store_of (reads (g.D.Device.disk (device_of c.args.blocks.now))) in
    let stays = stays_one _ _ _ _ _ c.in_ok-top.ensures.counts.done c.record_block.ensures.same in
    let none = sym (at_start _ _ _ _ _ stays (λ (m : ℕ) (q : Store). None ≡ inode_at q c.args.file.now c.args.number) told (sym c.in-None.is ∙ c.in_ok-inode.ensures.inode told)) in
    subst (λ (xs : List ℕ). Marks c.args.root.now.geometry c.args.root.now.bit xs c.args.map.now c.args.map.now) (reach_of c.args.limits.now s c.args.file.now c.args.number None none)
    (marks_none c.args.root.now.geometry c.args.root.now.bit [] c.args.map.now (λ x. refl))

pub returns-in-None-clause-sound : goal.returns-in-None-clause-sound
returns-in-None-clause-sound g c told =
    let s = store_of (reads (g.D.Device.disk (device_of c.args.blocks.now))) in
    let n = (g.D.Device.status (device_of c.args.blocks.now)).sectors in
    let stays = stays_one _ _ _ _ _ c.in_ok-top.ensures.counts.done c.record_block.ensures.same in
    let none = sym (at_start _ _ _ _ _ stays (λ (m : ℕ) (q : Store). None ≡ inode_at q c.args.file.now c.args.number) told (sym c.in-None.is ∙ c.in_ok-inode.ensures.inode told)) in
    let read = at_start _ _ _ _ _ stays (λ (m : ℕ) (q : Store). CanReadRecord c.args.limits.now m q c.args.file.now c.args.number) told (c.in_ok-inode.ensures.read told) in
    number_unused c.args.limits.now s c.args.file.now c.args.number n none read

pub returns-in-Some-clause-marks : goal.returns-in-Some-clause-marks
returns-in-Some-clause-marks g c told =
    let s = store_of (reads (g.D.Device.disk (device_of c.args.blocks.now))) in
    let r = store_of (reads (g.D.Device.disk (device_of c.inode_of.new.blocks))) in
    let stays = stays_one _ _ _ _ _ c.in_ok-top.ensures.counts.done c.record_block.ensures.same in
    let same : r ≡ s = ap (λ (d : Disk). store_of (reads d)) (c.inode_of.ensures.same told ∙ c.record_block.ensures.same told) in
    let some = sym (at_start _ _ _ _ _ stays (λ (m : ℕ) (q : Store). Some c.in-Some.inode ≡ inode_at q c.args.file.now c.args.number) told (sym c.in-Some.is ∙ c.in_ok-inode.ensures.inode told)) in
    on_ok_weaker c.check_used.result
    (λ (marks : Marks c.args.root.now.geometry c.args.root.now.bit (inode_reach r (Some c.in-Some.inode)) c.args.map.now c.check_used.new.map).
    subst (λ (xs : List ℕ). Marks c.args.root.now.geometry c.args.root.now.bit xs c.args.map.now c.check_used.new.map)
    (ap (λ (q : Store). inode_reach q (Some c.in-Some.inode)) same ∙ reach_of c.args.limits.now s c.args.file.now c.args.number (Some c.in-Some.inode) some) marks)
    (c.check_used.ensures.marks told)

pub returns-in-Some-clause-sound : goal.returns-in-Some-clause-sound
returns-in-Some-clause-sound g c told =
    let s = store_of (reads (g.D.Device.disk (device_of c.args.blocks.now))) in
    let r = store_of (reads (g.D.Device.disk (device_of c.inode_of.new.blocks))) in
    let n = (g.D.Device.status (device_of c.args.blocks.now)).sectors in
    let stays = stays_one _ _ _ _ _ c.in_ok-top.ensures.counts.done c.record_block.ensures.same in
    let same : r ≡ s = ap (λ (d : Disk). store_of (reads d)) (c.inode_of.ensures.same told ∙ c.record_block.ensures.same told) in
    let some = sym (at_start _ _ _ _ _ stays (λ (m : ℕ) (q : Store). Some c.in-Some.inode ≡ inode_at q c.args.file.now c.args.number) told (sym c.in-Some.is ∙ c.in_ok-inode.ensures.inode told)) in
    let read = at_start _ _ _ _ _ stays (λ (m : ℕ) (q : Store). CanReadRecord c.args.limits.now m q c.args.file.now c.args.number) told (c.in_ok-inode.ensures.read told) in
    on_ok_weaker c.check_used.result
    (λ (sound : IsSoundInode c.args.limits.now r c.in-Some.inode). number_used c.args.limits.now s c.args.file.now c.args.number n c.in-Some.inode some read
    (subst (λ (q : Store). IsSoundInode c.args.limits.now q c.in-Some.inode) same sound))
    (c.check_used.ensures.sound told)

pub returns-in-Some-clause-fault : goal.returns-in-Some-clause-fault
returns-in-Some-clause-fault g c told =
    let s = store_of (reads (g.D.Device.disk (device_of c.args.blocks.now))) in
    let r = store_of (reads (g.D.Device.disk (device_of c.inode_of.new.blocks))) in
    let stays = stays_one _ _ _ _ _ c.in_ok-top.ensures.counts.done c.record_block.ensures.same in
    let same : r ≡ s = ap (λ (d : Disk). store_of (reads d)) (c.inode_of.ensures.same told ∙ c.record_block.ensures.same told) in
    let some = sym (at_start _ _ _ _ _ stays (λ (m : ℕ) (q : Store). Some c.in-Some.inode ≡ inode_at q c.args.file.now c.args.number) told (sym c.in-Some.is ∙ c.in_ok-inode.ensures.inode told)) in
    let Whole = λ (q : Store). IsWrong c.args.root.now.geometry c.args.root.now.bit (inode_reach q (Some c.in-Some.inode)) c.args.map.now (IsInodeFault c.args.limits.now q c.in-Some.inode c.in_ok-top.top) in
    told_weaker c.check_used.result (Whole r)
    (IsWrong c.args.root.now.geometry c.args.root.now.bit (reach_at s c.args.file.now c.args.number) c.args.map.now (IsMisspelt c.args.limits.now s c.args.file.now c.args.body))
    (λ damage block wrong.
    subst (λ (xs : List ℕ). IsWrong c.args.root.now.geometry c.args.root.now.bit xs c.args.map.now (IsMisspelt c.args.limits.now s c.args.file.now c.args.body) damage block) (reach_of c.args.limits.now s c.args.file.now c.args.number (Some c.in-Some.inode) some)
    (wrong_weaker _ _ _ _ _ _ damage block
    (λ x found. inode_wrong c.args.limits.now s c.args.file.now c.args.number c.args.body c.in-Some.inode c.in_ok-top.top x some (c.in_ok-top.ensures.block told ∙ ap (record_block s c.args.file.now c.args.body) c.from.ensures) found)
    (subst (λ (q : Store). Whole q damage block) same wrong)))
    (c.check_used.ensures.fault told)
