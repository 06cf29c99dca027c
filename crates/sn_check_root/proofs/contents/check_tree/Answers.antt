use Rattle.std.proofs.Common.{◌≡◌, ℕ, ap, subst}
use Rattle.std.proofs.lemmas.Result.{err_from_is_err_and, on_ok_weaker}
use Rattle.sn_device.specs.Disk.{Disk, reads}
use Rattle.sn_block.specs.Lending.{device_of}
use Rattle.sn_layout_node.specs.declared.content.Content.TheVariants.{Tree}
use Rattle.sn_ondisk.specs.Trees.{Store, store_of, tree_reach}
use Rattle.sn_image.specs.Names.{names_by}
use Rattle.sn_image.specs.Sound.{EndsAtSize}
use Rattle.sn_sound.specs.Faults.{IsContentFault}
use Rattle.sn_marks.specs.Trees.{StandsInTree}
use Rattle.sn_marks.proofs.WalkLemmas.{tells_weaker, told_weaker}
use Rattle.sn_check_root.specs.Reading.{TreeLies}
use Rattle.sn_check_root.specs.Rules.{IsSoundContent, IsSpeltWrong, IsWrong}
use Rattle.sn_check_root.proofs.DeviceLemmas.{stays_one, at_now}
use Rattle.sn_check_root.proofs.InodeLemmas.{tree_wrong}
use Rattle.sn_check_root.proofs.WrongLemmas.{tree_lies, wrong_tree, wrong_spelt}
use Rattle.sn_check_root.proofs.contents.check_tree.Goals as goal

pub check_kind-requires : goal.check_kind-requires
check_kind-requires g c = record {
  whole = c.requires.whole;
  lies = λ told.
      let s = store_of (reads (g.D.Device.disk (device_of c.args.blocks.now))) in
      let n = (g.D.Device.status (device_of c.args.blocks.now)).sectors in
      let stays = stays_one _ _ _ _ _ c.in_ok-mark_tree.ensures.counts.done c.mark_tree.ensures.same in
      at_now _ _ _ _ _ stays (λ (m : ℕ) (q : Store). TreeLies m q c.args.tree.now) told
      (tree_lies c.args.root.now.geometry c.args.root.now.bit c.read_laws.ensures.blocks n s c.args.tree.now c.args.map.now c.mark_tree.new.map c.requires.room (c.in_ok-mark_tree.ensures.marks told));
}

pub returns-in_err-mark_tree-clause-fault : goal.returns-in_err-mark_tree-clause-fault
returns-in_err-mark_tree-clause-fault g c told =
    let s = store_of (reads (g.D.Device.disk (device_of c.args.blocks.now))) in
    let p = err_from_is_err_and c.from_residual.result c.from_residual.ensures.1 in
    rw (p.1, p.2) (tells_weaker c.in_err-mark_tree.field-0.0
    (StandsInTree c.args.root.now.geometry c.args.root.now.bit s c.args.tree.now c.args.top c.args.map.now)
    (IsWrong c.args.root.now.geometry c.args.root.now.bit (tree_reach s c.args.tree.now) c.args.map.now (IsContentFault c.args.limits.now s c.args.kind (Tree c.args.tree.now) (names_by s c.args.kind (Tree c.args.tree.now)) c.args.top))
    (λ damage block wrong. wrong_tree _ _ s c.args.tree.now c.args.top _ _ damage block (λ x found. tree_wrong c.args.limits.now s c.args.kind c.args.tree.now _ c.args.top x found) wrong)
    (c.in_err-mark_tree.ensures.fault told))

pub returns-clause-marks : goal.returns-clause-marks
returns-clause-marks g c told = on_ok_weaker c.check_kind.result (λ sound. c.in_ok-mark_tree.ensures.marks told) (c.check_kind.ensures.sound told)

pub returns-clause-sound : goal.returns-clause-sound
returns-clause-sound g c told =
    let s = store_of (reads (g.D.Device.disk (device_of c.args.blocks.now))) in
    let r = store_of (reads (g.D.Device.disk (device_of c.mark_tree.new.blocks))) in
    let same : r ≡ s = ap (λ (d : Disk). store_of (reads d)) (c.mark_tree.ensures.same told) in
    on_ok_weaker c.check_kind.result
    (λ (sound : EndsAtSize r c.args.tree.now → IsSoundContent c.args.limits.now r c.args.kind (Tree c.args.tree.now)).
    subst (λ (q : Store). EndsAtSize q c.args.tree.now → IsSoundContent c.args.limits.now q c.args.kind (Tree c.args.tree.now)) same sound (c.in_ok-mark_tree.ensures.ends told))
    (c.check_kind.ensures.sound told)

pub returns-clause-fault : goal.returns-clause-fault
returns-clause-fault g c told =
    let s = store_of (reads (g.D.Device.disk (device_of c.args.blocks.now))) in
    let r = store_of (reads (g.D.Device.disk (device_of c.mark_tree.new.blocks))) in
    let same : r ≡ s = ap (λ (d : Disk). store_of (reads d)) (c.mark_tree.ensures.same told) in
    told_weaker c.check_kind.result
    (IsSpeltWrong (IsContentFault c.args.limits.now r c.args.kind (Tree c.args.tree.now) (names_by r c.args.kind (Tree c.args.tree.now)) c.args.top))
    (IsWrong c.args.root.now.geometry c.args.root.now.bit (tree_reach s c.args.tree.now) c.args.map.now (IsContentFault c.args.limits.now s c.args.kind (Tree c.args.tree.now) (names_by s c.args.kind (Tree c.args.tree.now)) c.args.top))
    (λ damage block wrong. wrong_spelt _ _ _ _ _ _ damage block
    (λ x found. subst (λ (q : Store). IsContentFault c.args.limits.now q c.args.kind (Tree c.args.tree.now) (names_by q c.args.kind (Tree c.args.tree.now)) c.args.top x) same found) wrong)
    (c.check_kind.ensures.fault told)
