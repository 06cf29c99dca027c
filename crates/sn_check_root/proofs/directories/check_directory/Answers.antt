use Rattle.std.proofs.Common.{◌≡◌, ℕ, sym, ap, subst, arith}
use Rattle.std.specs.Prelude.{⊤}
use Rattle.std.proofs.lemmas.Result.{err_from_is_err_and, on_ok_weaker}
use Rattle.sn_device.specs.Disk.{Disk, reads}
use Rattle.sn_block.specs.Lending.{device_of}
use Rattle.sn_layout_node.specs.declared.content.Content.TheVariants.{Tree}
use Rattle.sn_ondisk.specs.Trees.{Store, store_of}
use Rattle.sn_image.specs.Names.{names_of}
use Rattle.sn_image.specs.Sound.{AreOnce}
use Rattle.sn_dir.specs.Blocks.{IsDamaged}
use Rattle.sn_sound.specs.Faults.{IsDirectoryFault}
use Rattle.sn_marks.specs.Fault.{Tells}
use Rattle.sn_marks.specs.declared.fault.CheckFault.{CheckFault}
use Rattle.sn_marks.proofs.WalkLemmas.{tells_weaker, told_weaker}
use Rattle.sn_check_root.specs.Rules.{HasBadBlock, IsSpeltWrong, misspelt, StandsTwice}
use Rattle.sn_check_root.proofs.BlockLemmas.{has_blocks, has_bad, has_twice, has_many, undamaged}
use Rattle.sn_check_root.proofs.DeviceLemmas.{stays_one, at_now}
use Rattle.sn_check_root.proofs.WrongLemmas.{spelt_weaker}
use Rattle.sn_check_root.proofs.directories.check_directory.Goals as goal

pub returns-in_err-count-clause-fault : goal.returns-in_err-count-clause-fault
returns-in_err-count-clause-fault g c told =
    let s = store_of (reads (g.D.Device.disk (device_of c.args.blocks.now))) in
    let p = err_from_is_err_and c.from_residual.result c.from_residual.ensures.1 in
    rw (p.1, p.2) (tells_weaker c.in_err-count.field-0.0
    (IsSpeltWrong (HasBadBlock s c.args.tree.now c.args.top))
    (IsSpeltWrong (IsDirectoryFault c.args.limits.now s c.args.tree.now (names_of s (Tree c.args.tree.now)) c.args.top))
    (λ damage block wrong. spelt_weaker _ _ damage block (has_bad s c.args.tree.now c.args.limits.now c.args.top (names_of s (Tree c.args.tree.now))) wrong)
    (c.in_err-count.ensures.fault told))

pub returns-then-count-from-clause-fault : goal.returns-then-count-from-clause-fault
returns-then-count-from-clause-fault g c told =
    let s = store_of (reads (g.D.Device.disk (device_of c.args.blocks.now))) in
    subst (λ (f : CheckFault). Tells f (IsSpeltWrong (IsDirectoryFault c.args.limits.now s c.args.tree.now (names_of s (Tree c.args.tree.now)) c.args.top))) (sym c.misspelt.ensures)
    (misspelt c.args.top (has_many s c.args.tree.now c.args.limits.now c.args.top (names_of s (Tree c.args.tree.now)) c.in_ok-count.count (c.in_ok-count.ensures.count told) (omega (arith, c.if-count-from.true, c.from.ensures))))

pub returns-clause-blocks : goal.returns-clause-blocks
returns-clause-blocks g c told =
    let s = store_of (reads (g.D.Device.disk (device_of c.args.blocks.now))) in
    on_ok_weaker c.check_listed.result (λ once. has_blocks s c.args.tree.now c.requires.whole (c.in_ok-count.ensures.sound told)) (c.check_listed.ensures.once told)

pub returns-clause-names : goal.returns-clause-names
returns-clause-names g c told =
    let s = store_of (reads (g.D.Device.disk (device_of c.args.blocks.now))) in
    let r = store_of (reads (g.D.Device.disk (device_of c.count_names.new.blocks))) in
    let same : r ≡ s = ap (λ (d : Disk). store_of (reads d)) (c.count_names.ensures.same told) in
    on_ok_weaker c.check_listed.result
    (λ (once : AreOnce (names_of r (Tree c.args.tree.now))). record {
      once = subst (λ (q : Store). AreOnce (names_of q (Tree c.args.tree.now))) same once;
      few = omega (arith, c.if-count-from.false, c.from.ensures, c.in_ok-count.ensures.count told);
    }) (c.check_listed.ensures.once told)

pub returns-clause-fault : goal.returns-clause-fault
returns-clause-fault g c told =
    let s = store_of (reads (g.D.Device.disk (device_of c.args.blocks.now))) in
    let n = (g.D.Device.status (device_of c.args.blocks.now)).sectors in
    let r = store_of (reads (g.D.Device.disk (device_of c.count_names.new.blocks))) in
    let same : r ≡ s = ap (λ (d : Disk). store_of (reads d)) (c.count_names.ensures.same told) in
    let stays = stays_one _ _ _ _ _ c.in_ok-count.ensures.counts.done c.count_names.ensures.same in
    let whole = at_now _ _ _ _ _ stays (λ (m : ℕ) (q : Store). IsDamaged (λ names. ⊤) m q c.args.tree.now → ⊥) told (undamaged n s c.args.tree.now (c.requires.lies told) (c.in_ok-count.ensures.sound told)) in
    told_weaker c.check_listed.result
    (IsSpeltWrong (λ block. (block ≡ c.args.top) × StandsTwice (names_of r (Tree c.args.tree.now))))
    (IsSpeltWrong (IsDirectoryFault c.args.limits.now s c.args.tree.now (names_of s (Tree c.args.tree.now)) c.args.top))
    (λ damage block wrong. spelt_weaker _ _ damage block
    (λ x found. has_twice s c.args.tree.now c.args.limits.now c.args.top (names_of s (Tree c.args.tree.now)) x
    (subst (λ (q : Store). (x ≡ c.args.top) × StandsTwice (names_of q (Tree c.args.tree.now))) same found)) wrong)
    (c.check_listed.ensures.fault told whole)
