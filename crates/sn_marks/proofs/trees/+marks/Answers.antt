use Rattle.std.proofs.Common.{rules, ◌≡◌, ℕ, suc, ◌+◌, ◌-◌, ◌*◌, ◌<◌, List, [], ◌∷◌, length, refl, sym, ap, subst, ◌∙◌, arith}
use Rattle.std.specs.Prelude.{◌^◌, Err}
use Rattle.std.proofs.lemmas.Result.{err_from_is_err_and, on_ok_weaker}
use Rattle.sn_device.specs.Disk.{Disk, reads}
use Rattle.sn_block.specs.Lending.{device_of}
use Rattle.sn_block.specs.declared.fault.ReadFault.TheVariants.{Device}
use Rattle.sn_ondisk.specs.Trees.{Store, store_of, below}
use Rattle.sn_tree_read.proofs.PointerLemmas.{below_read}
use Rattle.sn_marks.specs.Fault.{Tells}
use Rattle.sn_marks.specs.Marks.{IsAstray}
use Rattle.sn_marks.specs.Walks.{IsWalked, IsBroken, HasEnd, HasTail}
use Rattle.sn_marks.specs.declared.fault.CheckFault.{CheckFault}
use Rattle.sn_marks.specs.declared.fault.CheckFault.TheVariants.{Read}
use Rattle.sn_image.specs.Reach.{block_reach}
use Rattle.sn_marks.proofs.MarkLemmas.{marked_within}
use Rattle.sn_marks.proofs.WalkLemmas.{walked_none, walked_hole, walked_step, walked_down, walked_leaf, broken_past, broken_mark, broken_tail, broken_step, broken_down, span_down, tells_weaker, told_weaker}
use Rattle.sn_marks.proofs.trees.+marks.Goals as goal

pub mark_below-returns-then-pointer-eq0-clause-walked : goal.mark_below-returns-then-pointer-eq0-clause-walked
mark_below-returns-then-pointer-eq0-clause-walked g t c = λ told.
    walked_hole c.args.root.now.geometry c.args.root.now.bit (store_of (reads (g.D.Device.disk (device_of c.args.blocks.now)))) c.args.size c.args.spot.height c.args.spot.first c.args.pointer c.args.map.now c.if-pointer-eq0.true

pub mark_below-returns-then-spot-size-clause-fault : goal.mark_below-returns-then-spot-size-clause-fault
mark_below-returns-then-spot-size-clause-fault g t c = λ told.
    let s = store_of (reads (g.D.Device.disk (device_of c.args.blocks.now))) in
    subst (λ (f : CheckFault). Tells f (IsBroken c.args.root.now.geometry c.args.root.now.bit s c.args.size c.args.spot.height c.args.spot.first (c.args.pointer ∷ []) c.args.spot.holder c.args.map.now)) (sym c.misspelt.ensures)
    (broken_past c.args.root.now.geometry c.args.root.now.bit s c.args.size c.args.spot.height c.args.spot.first c.args.pointer c.args.spot.holder c.args.map.now c.if-spot-size.true c.if-pointer-eq0.false)

pub mark_below-returns-in_err-mark-clause-fault : goal.mark_below-returns-in_err-mark-clause-fault
mark_below-returns-in_err-mark-clause-fault g t c = λ told.
    let s = store_of (reads (g.D.Device.disk (device_of c.args.blocks.now))) in
    let p = err_from_is_err_and c.from_residual.result c.from_residual.ensures.1 in
    rw (p.1, p.2) (tells_weaker c.in_err-mark.field-0.0 (IsAstray c.args.root.now.geometry c.args.root.now.bit (block_reach c.args.pointer) c.args.map.now)
    (IsBroken c.args.root.now.geometry c.args.root.now.bit s c.args.size c.args.spot.height c.args.spot.first (c.args.pointer ∷ []) c.args.spot.holder c.args.map.now)
    (λ damage block. broken_mark c.args.root.now.geometry c.args.root.now.bit s c.args.size c.args.spot.height c.args.spot.first c.args.pointer c.args.spot.holder c.args.map.now damage block)
    c.in_err-mark.ensures.fault)

pub mark_below-returns-in_err-mark-clause-counts : goal.mark_below-returns-in_err-mark-clause-counts
mark_below-returns-in_err-mark-clause-counts g t c =
    let p = err_from_is_err_and c.from_residual.result c.from_residual.ensures.1 in
    record {
      done = search rules;
      sectors = refl;
      damaged = λ damage block is. refl;
      memory = λ is. refl;
      device = λ is. let same : c.in_err-mark.field-0.0 ≡ Read Device = cc (p.1, p.2) in absurd (c.in_err-mark.ensures.read Device (ap (λ (f : CheckFault). Err f) same));
    }

pub mark_below-test_end-requires : goal.mark_below-test_end-requires
mark_below-test_end-requires g t c =
    let under : c.args.pointer < c.args.root.now.geometry = marked_within c.args.root.now.geometry c.args.root.now.bit c.args.pointer c.args.map.now c.mark.new.map c.if-pointer-eq0.false c.in_ok-mark.ensures.marks in
    record { some = c.if-pointer-eq0.false; room = omega (arith, under, c.requires.room) }

pub mark_below-returns-then-spot-eq0-clause-walked : goal.mark_below-returns-then-spot-eq0-clause-walked
mark_below-returns-then-spot-eq0-clause-walked g t c = λ told.
    let s = store_of (reads (g.D.Device.disk (device_of c.args.blocks.now))) in
    on_ok_weaker c.test_end.result
    (λ (end : HasEnd s (c.args.size - c.args.spot.first) c.args.pointer). subst (λ (h : ℕ). IsWalked c.args.root.now.geometry c.args.root.now.bit s c.args.size h c.args.spot.first (c.args.pointer ∷ []) c.args.map.now c.mark.new.map) (sym c.if-spot-eq0.true)
    (walked_leaf c.args.root.now.geometry c.args.root.now.bit s c.args.size c.args.spot.first c.args.pointer c.args.map.now c.mark.new.map c.if-spot-size.false c.in_ok-mark.ensures.marks end))
    (c.test_end.ensures.zeros told)

pub mark_below-returns-then-spot-eq0-clause-fault : goal.mark_below-returns-then-spot-eq0-clause-fault
mark_below-returns-then-spot-eq0-clause-fault g t c = λ told.
    let s = store_of (reads (g.D.Device.disk (device_of c.args.blocks.now))) in
    told_weaker c.test_end.result (HasTail s (c.args.size - c.args.spot.first) c.args.pointer)
    (IsBroken c.args.root.now.geometry c.args.root.now.bit s c.args.size c.args.spot.height c.args.spot.first (c.args.pointer ∷ []) c.args.spot.holder c.args.map.now)
    (λ damage block found. subst (λ (h : ℕ). IsBroken c.args.root.now.geometry c.args.root.now.bit s c.args.size h c.args.spot.first (c.args.pointer ∷ []) c.args.spot.holder c.args.map.now damage block) (sym c.if-spot-eq0.true)
    (broken_tail c.args.root.now.geometry c.args.root.now.bit s c.args.size c.args.spot.first c.args.pointer c.args.spot.holder c.args.map.now damage block c.if-spot-size.false found))
    (c.test_end.ensures.fault told)

pub mark_below-copied-requires : goal.mark_below-copied-requires
mark_below-copied-requires g t c =
    let under : c.args.pointer < c.args.root.now.geometry = marked_within c.args.root.now.geometry c.args.root.now.bit c.args.pointer c.args.map.now c.mark.new.map c.if-pointer-eq0.false c.in_ok-mark.ensures.marks in
    omega (arith, under, c.requires.room)

pub mark_below-mark_indirect-requires : goal.mark_below-mark_indirect-requires
mark_below-mark_indirect-requires g t c κs within = (
  first_of (search rules, omega (arith, c.decreases)),
  (search rules, (omega (arith, c.requires.height), (c.decode.ensures.fits.count, (omega (arith, span_down c.args.spot.height c.if-spot-eq0.false, c.requires.reach), (c.mark.ensures.words ∙ c.requires.words, omega (arith, c.requires.room, c.copied.ensures.counts.sectors)))))),
)

pub mark_below-returns-clause-walked : goal.mark_below-returns-clause-walked
mark_below-returns-clause-walked g t c = λ told.
    let s = store_of (reads (g.D.Device.disk (device_of c.args.blocks.now))) in
    let r = store_of (reads (g.D.Device.disk (device_of c.copied.new.blocks))) in
    let same : r ≡ s = ap (λ (d : Disk). store_of (reads d)) (c.copied.ensures.same told) in
    let down : suc (c.args.spot.height - 1) ≡ c.args.spot.height = omega (arith, c.if-spot-eq0.false) in
    let read : below s c.args.pointer ≡ c.decode.result = below_read s c.args.pointer c.decode.result c.if-pointer-eq0.false c.decode.ensures.fits (sym (c.in_ok-block.ensures.bytes told) ∙ c.decode.ensures.read) in
    on_ok_weaker c.mark_indirect.result
    (λ (lower : IsWalked c.args.root.now.geometry c.args.root.now.bit r c.args.size (c.args.spot.height - 1) c.args.spot.first c.decode.result c.mark.new.map c.mark_indirect.new.map).
    subst (λ (h : ℕ). IsWalked c.args.root.now.geometry c.args.root.now.bit s c.args.size h c.args.spot.first (c.args.pointer ∷ []) c.args.map.now c.mark_indirect.new.map) down
    (walked_down c.args.root.now.geometry c.args.root.now.bit s c.args.size (c.args.spot.height - 1) c.args.spot.first c.args.pointer c.args.map.now c.mark.new.map c.mark_indirect.new.map c.if-spot-size.false c.in_ok-mark.ensures.marks
    (subst (λ (ps : List ℕ). IsWalked c.args.root.now.geometry c.args.root.now.bit s c.args.size (c.args.spot.height - 1) c.args.spot.first ps c.mark.new.map c.mark_indirect.new.map) (sym read)
    (subst (λ (q : Store). IsWalked c.args.root.now.geometry c.args.root.now.bit q c.args.size (c.args.spot.height - 1) c.args.spot.first c.decode.result c.mark.new.map c.mark_indirect.new.map) same lower))))
    (c.mark_indirect.ensures.walked told)

pub mark_below-returns-clause-fault : goal.mark_below-returns-clause-fault
mark_below-returns-clause-fault g t c = λ told.
    let s = store_of (reads (g.D.Device.disk (device_of c.args.blocks.now))) in
    let r = store_of (reads (g.D.Device.disk (device_of c.copied.new.blocks))) in
    let same : r ≡ s = ap (λ (d : Disk). store_of (reads d)) (c.copied.ensures.same told) in
    let down : suc (c.args.spot.height - 1) ≡ c.args.spot.height = omega (arith, c.if-spot-eq0.false) in
    let read : below s c.args.pointer ≡ c.decode.result = below_read s c.args.pointer c.decode.result c.if-pointer-eq0.false c.decode.ensures.fits (sym (c.in_ok-block.ensures.bytes told) ∙ c.decode.ensures.read) in
    told_weaker c.mark_indirect.result (IsBroken c.args.root.now.geometry c.args.root.now.bit r c.args.size (c.args.spot.height - 1) c.args.spot.first c.decode.result c.args.pointer c.mark.new.map)
    (IsBroken c.args.root.now.geometry c.args.root.now.bit s c.args.size c.args.spot.height c.args.spot.first (c.args.pointer ∷ []) c.args.spot.holder c.args.map.now)
    (λ damage block found.
    subst (λ (h : ℕ). IsBroken c.args.root.now.geometry c.args.root.now.bit s c.args.size h c.args.spot.first (c.args.pointer ∷ []) c.args.spot.holder c.args.map.now damage block) down
    (broken_down c.args.root.now.geometry c.args.root.now.bit s c.args.size (c.args.spot.height - 1) c.args.spot.first c.args.pointer c.args.spot.holder c.args.map.now c.mark.new.map damage block c.in_ok-mark.ensures.marks
    (subst (λ (ps : List ℕ). IsBroken c.args.root.now.geometry c.args.root.now.bit s c.args.size (c.args.spot.height - 1) c.args.spot.first ps c.args.pointer c.mark.new.map damage block) (sym read)
    (subst (λ (q : Store). IsBroken c.args.root.now.geometry c.args.root.now.bit q c.args.size (c.args.spot.height - 1) c.args.spot.first c.decode.result c.args.pointer c.mark.new.map damage block) same found))))
    (c.mark_indirect.ensures.fault told)

pub mark_indirect-loop-i-init : goal.mark_indirect-loop-i-init
mark_indirect-loop-i-init g t c = record {
  same = λ told. refl;
  status = refl;
  words = refl;
  walked = λ told. walked_none c.args.root.now.geometry c.args.root.now.bit (store_of (reads (g.D.Device.disk (device_of c.args.blocks.now)))) c.args.size c.args.spot.height c.args.spot.first c.args.map.now;
}

-- the place of a pointer
at_place : (first i span height : ℕ) → span ≡ 4096 * 1024 ^ height → first + i * span ≡ first + i * (4096 * 1024 ^ height)
at_place first i span height is = ap (λ (w : ℕ). first + i * w) is

pub mark_indirect-loop-i-preserved : goal.mark_indirect-loop-i-preserved
mark_indirect-loop-i-preserved g t c =
    let s = store_of (reads (g.D.Device.disk (device_of c.args.blocks.now))) in
    let r = store_of (reads (g.D.Device.disk (device_of c.loop-i.blocks))) in
    let within : c.loop-i.i < length c.args.pointers.now = omega (arith, c.requires.count) in
    record {
      same = λ told. c.mark_below.ensures.same told ∙ c.loop-i.invariant.same told;
      status = c.in_ok-mark_below.ensures.counts.done ∙ c.loop-i.invariant.status;
      words = c.mark_below.ensures.words ∙ c.loop-i.invariant.words;
      walked = λ told.
          let same : r ≡ s = ap (λ (d : Disk). store_of (reads d)) (c.loop-i.invariant.same told) in
          walked_step c.args.root.now.geometry c.args.root.now.bit s c.args.size c.args.spot.height c.args.spot.first c.args.pointers.now c.loop-i.i c.pointer.result c.args.map.now c.loop-i.map c.mark_below.new.map within c.pointer.ensures (c.loop-i.invariant.walked told)
          (subst (λ (at : ℕ). IsWalked c.args.root.now.geometry c.args.root.now.bit s c.args.size c.args.spot.height at (c.pointer.result ∷ []) c.loop-i.map c.mark_below.new.map) (at_place c.args.spot.first c.loop-i.i c.span_of-span.result c.args.spot.height c.span_of-span.ensures.value)
          (subst (λ (q : Store). IsWalked c.args.root.now.geometry c.args.root.now.bit q c.args.size c.args.spot.height (c.args.spot.first + c.loop-i.i * c.span_of-span.result) (c.pointer.result ∷ []) c.loop-i.map c.mark_below.new.map) same (c.in_ok-mark_below.ensures.walked told)));
    }

pub mark_indirect-returns-in_err-mark_below-clause-fault : goal.mark_indirect-returns-in_err-mark_below-clause-fault
mark_indirect-returns-in_err-mark_below-clause-fault g t c = λ told.
    let s = store_of (reads (g.D.Device.disk (device_of c.args.blocks.now))) in
    let r = store_of (reads (g.D.Device.disk (device_of c.loop-i.blocks))) in
    let same : r ≡ s = ap (λ (d : Disk). store_of (reads d)) (c.loop-i.invariant.same told) in
    let within : c.loop-i.i < length c.args.pointers.now = omega (arith, c.requires.count) in
    let p = err_from_is_err_and c.from_residual.result c.from_residual.ensures.1 in
    rw (p.1, p.2) (tells_weaker c.in_err-mark_below.field-0.0
    (IsBroken c.args.root.now.geometry c.args.root.now.bit r c.args.size c.args.spot.height (c.args.spot.first + c.loop-i.i * c.span_of-span.result) (c.pointer.result ∷ []) c.args.spot.holder c.loop-i.map)
    (IsBroken c.args.root.now.geometry c.args.root.now.bit s c.args.size c.args.spot.height c.args.spot.first c.args.pointers.now c.args.spot.holder c.args.map.now)
    (λ damage block found.
    broken_step c.args.root.now.geometry c.args.root.now.bit s c.args.size c.args.spot.height c.args.spot.first c.args.pointers.now c.loop-i.i c.pointer.result c.args.spot.holder c.args.map.now c.loop-i.map damage block within c.pointer.ensures (c.loop-i.invariant.walked told)
    (subst (λ (at : ℕ). IsBroken c.args.root.now.geometry c.args.root.now.bit s c.args.size c.args.spot.height at (c.pointer.result ∷ []) c.args.spot.holder c.loop-i.map damage block) (at_place c.args.spot.first c.loop-i.i c.span_of-span.result c.args.spot.height c.span_of-span.ensures.value)
    (subst (λ (q : Store). IsBroken c.args.root.now.geometry c.args.root.now.bit q c.args.size c.args.spot.height (c.args.spot.first + c.loop-i.i * c.span_of-span.result) (c.pointer.result ∷ []) c.args.spot.holder c.loop-i.map damage block) same found)))
    (c.in_err-mark_below.ensures.fault told))
