use Rattle.std.proofs.Common.{◌≡◌, ℕ, ◌+◌, ◌*◌, ◌<◌, List, [], ◌∷◌, length, take, refl, ap, subst, ◌∙◌, arith}
use Rattle.std.specs.Prelude.{◌^◌}
use Rattle.std.proofs.lemmas.List.{take_all}
use Rattle.std.proofs.lemmas.Result.{err_from_is_err_and}
use Rattle.sn_device.specs.Disk.{Disk, reads}
use Rattle.sn_block.specs.Lending.{device_of}
use Rattle.sn_layout.specs.Pointers.{levels_of}
use Rattle.sn_ondisk.specs.Trees.{Store, store_of}
use Rattle.sn_marks.specs.Trees.{StandsInTree}
use Rattle.sn_marks.specs.Walks.{IsWalked, IsBroken}
use Rattle.sn_marks.proofs.TreeLemmas.{tree_walked, tree_broken}
use Rattle.sn_marks.proofs.WalkLemmas.{walked_none, walked_step, broken_step, tells_weaker}
use Rattle.sn_marks.proofs.trees.mark_tree.Goals as goal

pub loop-i-init : goal.loop-i-init
loop-i-init g c = record {
  same = λ told. refl;
  status = refl;
  words = refl;
  walked = λ told. walked_none c.args.root.now.geometry c.args.root.now.bit (store_of (reads (g.D.Device.disk (device_of c.args.blocks.now)))) c.args.tree.now.size (levels_of c.args.tree.now.size) 0 c.args.map.now;
}

-- the place of a pointer, and its height
at_place : (P : ℕ → ℕ → Type 0) (height levels i span : ℕ) → height ≡ levels → span ≡ 4096 * 1024 ^ height → P height (i * span) → P levels (0 + i * (4096 * 1024 ^ levels))
at_place P height levels i span same is h =
    subst (λ (l : ℕ). P l (0 + i * (4096 * 1024 ^ l))) same
    (subst (P height) (let from : i * span ≡ 0 + i * span = omega arith in from ∙ ap (λ (w : ℕ). 0 + i * w) is) h)

pub loop-i-preserved : goal.loop-i-preserved
loop-i-preserved g c =
    let s = store_of (reads (g.D.Device.disk (device_of c.args.blocks.now))) in
    let r = store_of (reads (g.D.Device.disk (device_of c.loop-i.blocks))) in
    let within : c.loop-i.i < length c.args.tree.now.pointers = omega (arith, c.fits.ensures.pointers.count) in
    record {
      same = λ told. c.mark_below.ensures.same told ∙ c.loop-i.invariant.same told;
      status = c.in_ok-mark_below.ensures.counts.done ∙ c.loop-i.invariant.status;
      words = c.mark_below.ensures.words ∙ c.loop-i.invariant.words;
      walked = λ told.
          let same : r ≡ s = ap (λ (d : Disk). store_of (reads d)) (c.loop-i.invariant.same told) in
          walked_step c.args.root.now.geometry c.args.root.now.bit s c.args.tree.now.size (levels_of c.args.tree.now.size) 0 c.args.tree.now.pointers c.loop-i.i c.get.result c.args.map.now c.loop-i.map c.mark_below.new.map within c.get.ensures (c.loop-i.invariant.walked told)
          (at_place (λ (h at : ℕ). IsWalked c.args.root.now.geometry c.args.root.now.bit s c.args.tree.now.size h at (c.get.result ∷ []) c.loop-i.map c.mark_below.new.map) c.levels_of-height.result (levels_of c.args.tree.now.size) c.loop-i.i c.span_of-span.result c.levels_of-height.ensures.value c.span_of-span.ensures.value
          (subst (λ (q : Store). IsWalked c.args.root.now.geometry c.args.root.now.bit q c.args.tree.now.size c.levels_of-height.result (c.loop-i.i * c.span_of-span.result) (c.get.result ∷ []) c.loop-i.map c.mark_below.new.map) same (c.in_ok-mark_below.ensures.walked told)));
    }

pub returns-in_err-mark_below-clause-fault : goal.returns-in_err-mark_below-clause-fault
returns-in_err-mark_below-clause-fault g c = λ told.
    let s = store_of (reads (g.D.Device.disk (device_of c.args.blocks.now))) in
    let r = store_of (reads (g.D.Device.disk (device_of c.loop-i.blocks))) in
    let same : r ≡ s = ap (λ (d : Disk). store_of (reads d)) (c.loop-i.invariant.same told) in
    let within : c.loop-i.i < length c.args.tree.now.pointers = omega (arith, c.fits.ensures.pointers.count) in
    let p = err_from_is_err_and c.from_residual.result c.from_residual.ensures.1 in
    rw (p.1, p.2) (tells_weaker c.in_err-mark_below.field-0.0
    (IsBroken c.args.root.now.geometry c.args.root.now.bit r c.args.tree.now.size c.levels_of-height.result (c.loop-i.i * c.span_of-span.result) (c.get.result ∷ []) c.args.top c.loop-i.map)
    (StandsInTree c.args.root.now.geometry c.args.root.now.bit s c.args.tree.now c.args.top c.args.map.now)
    (λ damage block found. tree_broken s c.args.tree.now c.args.root.now.geometry c.args.root.now.bit c.args.top c.args.map.now damage block
    (broken_step c.args.root.now.geometry c.args.root.now.bit s c.args.tree.now.size (levels_of c.args.tree.now.size) 0 c.args.tree.now.pointers c.loop-i.i c.get.result c.args.top c.args.map.now c.loop-i.map damage block within c.get.ensures (c.loop-i.invariant.walked told)
    (at_place (λ (h at : ℕ). IsBroken c.args.root.now.geometry c.args.root.now.bit s c.args.tree.now.size h at (c.get.result ∷ []) c.args.top c.loop-i.map damage block) c.levels_of-height.result (levels_of c.args.tree.now.size) c.loop-i.i c.span_of-span.result c.levels_of-height.ensures.value c.span_of-span.ensures.value
    (subst (λ (q : Store). IsBroken c.args.root.now.geometry c.args.root.now.bit q c.args.tree.now.size c.levels_of-height.result (c.loop-i.i * c.span_of-span.result) (c.get.result ∷ []) c.args.top c.loop-i.map damage block) same found))))
    (c.in_err-mark_below.ensures.fault told))

pub returns-clause-marks : goal.returns-clause-marks
returns-clause-marks g c = λ told.
    let s = store_of (reads (g.D.Device.disk (device_of c.args.blocks.now))) in
    let all : take c.loop-i.i c.args.tree.now.pointers ≡ c.args.tree.now.pointers = take_all c.loop-i.i c.args.tree.now.pointers (omega (arith, c.fits.ensures.pointers.count)) in
    (tree_walked s c.args.tree.now c.args.root.now.geometry c.args.root.now.bit c.args.map.now c.loop-i.map
    (subst (λ (ps : List ℕ). IsWalked c.args.root.now.geometry c.args.root.now.bit s c.args.tree.now.size (levels_of c.args.tree.now.size) 0 ps c.args.map.now c.loop-i.map) all (c.loop-i.invariant.walked told))).0

pub returns-clause-ends : goal.returns-clause-ends
returns-clause-ends g c = λ told.
    let s = store_of (reads (g.D.Device.disk (device_of c.args.blocks.now))) in
    let all : take c.loop-i.i c.args.tree.now.pointers ≡ c.args.tree.now.pointers = take_all c.loop-i.i c.args.tree.now.pointers (omega (arith, c.fits.ensures.pointers.count)) in
    (tree_walked s c.args.tree.now c.args.root.now.geometry c.args.root.now.bit c.args.map.now c.loop-i.map
    (subst (λ (ps : List ℕ). IsWalked c.args.root.now.geometry c.args.root.now.bit s c.args.tree.now.size (levels_of c.args.tree.now.size) 0 ps c.args.map.now c.loop-i.map) all (c.loop-i.invariant.walked told))).1
