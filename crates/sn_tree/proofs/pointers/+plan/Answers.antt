use Rattle.std.proofs.Common.{rules, ◌≡◌, ◌⊎◌, ℕ, suc, ◌+◌, ◌-◌, ◌*◌, ◌<◌, ◌≤◌, ◌==◌, List, [], ◌∷◌, length, take, drop, refl, sym, ap, subst, ◌∙◌, arith, IsTrue}
use Rattle.std.specs.Prelude.{◌^◌, Err, IfOk}
use Rattle.std.proofs.lemmas.Bool.{and_parts, eqb-true}
use Rattle.std.proofs.lemmas.List.{length-set}
use Rattle.std.proofs.lemmas.Result.{err_from_is_err_and}
use Rattle.sn_device.specs.Disk.{Disk, reads}
use Rattle.sn_device.specs.declared.status.Status.{Status}
use Rattle.sn_alloc.specs.Taking.{free_data}
use Rattle.sn_block.specs.Lending.{device_of}
use Rattle.sn_ondisk.specs.Trees.{store_of, all_pointers}
use Rattle.sn_tree_read.specs.declared.fault.TreeFault.TheVariants.{Damaged}
use Rattle.sn_tree.specs.Dirty.{IsFrom, after}
use Rattle.sn_tree.specs.Plans.{contents, most_added}
use Rattle.sn_tree.specs.Steps.{Planned, LeadsOutsideAt}
use Rattle.sn_tree.specs.declared.fault.PlanFault.TheVariants.{Tree, Full}
use Rattle.sn_tree.proofs.SpanLemmas.{span_some, indirect_end}
use Rattle.sn_tree.proofs.FaultLemmas.{outside_here, outside_indirect}
use Rattle.sn_tree.proofs.StepLemmas.{planned_stays, planned_leaf, planned_under, planned_unchanged, planned_indirect, leaf_full, too_full_indirect}
use Rattle.sn_tree.proofs.ProgressLemmas.{progress_begun, progress_at, progress_step, progress_run, progress_full, progress_outside}
use Rattle.sn_tree.proofs.pointers.+plan.Goals as goal

pub plan_pointer-returns-then-stays-clause-planned : goal.plan_pointer-returns-then-stays-clause-planned
plan_pointer-returns-then-stays-clause-planned g t c =
    let s = store_of (reads (g.D.Device.disk (device_of c.args.blocks.now))) in
    let items = c.args.dirty.now.items in
    let end : c.args.first + c.span_of.result ≡ c.args.first + 1024 ^ c.args.depth = ap (λ (n : ℕ). c.args.first + n) c.span_of.ensures.value in
    let w = subst (λ (n : ℕ). IsFrom n items × ((n ≤ c.args.keep) ⊎ (c.args.pointer ≡ 0))) end (c.stays.ensures.stays c.if-stays.true c.args.first c.requires.rise) in
    planned_stays (IsTrue g.D.Device.tells_bytes) s c.args.keep c.args.depth c.args.first (c.args.first + 1024 ^ c.args.depth) c.args.pointer items c.args.build.now refl (omega (arith, span_some c.args.depth)) w.0 w.1

pub plan_pointer-returns-then-depth-eq0-clause-planned : goal.plan_pointer-returns-then-depth-eq0-clause-planned
plan_pointer-returns-then-depth-eq0-clause-planned g t c =
    let Told = IsTrue g.D.Device.tells_bytes in
    let s = store_of (reads (g.D.Device.disk (device_of c.args.blocks.now))) in
    let items = c.args.dirty.now.items in
    let left = c.take_before-block.new.dirty.items in
    let end = c.args.first + c.span_of.result in
    let one : end ≡ c.args.first + 1 = ap (λ (n : ℕ). c.args.first + n) (c.span_of.ensures.value ∙ ap (λ (d : ℕ). 1024 ^ d) c.if-depth-eq0.true) in
    let leaf = planned_leaf Told s c.args.keep c.args.first end c.args.pointer items left c.args.build.now c.replace_block.new.build c.replace_block.result c.take_before-block.result one c.requires.rise c.take_before-block.ensures.some c.take_before-block.ensures.none c.take_before-block.ensures.clean (c.stays.ensures.touched c.if-stays.false) c.replace_block.ensures.none c.replace_block.ensures.some in
    subst (λ (n : ℕ). IfOk c.replace_block.result (λ new. Planned Told s (all_pointers s c.args.depth (c.args.pointer ∷ [])) (contents s c.args.depth (c.args.pointer ∷ [])) c.args.depth c.args.first n c.args.keep items left (new ∷ []) c.args.build.now c.replace_block.new.build))
    (ap (λ (n : ℕ). c.args.first + n) c.span_of.ensures.value)
    (subst (λ (d : ℕ). IfOk c.replace_block.result (λ new. Planned Told s (all_pointers s d (c.args.pointer ∷ [])) (contents s d (c.args.pointer ∷ [])) d c.args.first end c.args.keep items left (new ∷ []) c.args.build.now c.replace_block.new.build))
    (sym c.if-depth-eq0.true) leaf)

pub plan_pointer-returns-then-depth-eq0-clause-full : goal.plan_pointer-returns-then-depth-eq0-clause-full
plan_pointer-returns-then-depth-eq0-clause-full g t c = λ is.
    let free = free_data c.args.build.now.words c.args.build.now.first in
    let count = length c.args.build.now.added in
    let end = c.args.first + c.span_of.result in
    let items = c.args.dirty.now.items in
    subst (λ (n : ℕ). free < count + most_added c.args.depth c.args.first n c.args.keep items) (ap (λ (n : ℕ). c.args.first + n) c.span_of.ensures.value)
    (subst (λ (d : ℕ). free < count + most_added d c.args.first end c.args.keep items) (sym c.if-depth-eq0.true)
    (leaf_full c.take_before-block.result c.args.first end c.args.keep items c.take_before-block.new.dirty.items free count (c.replace_block.ensures.filled is) c.take_before-block.ensures.some (c.replace_block.ensures.full is)))

pub plan_pointer-returns-in_err-copy-clause-damaged : goal.plan_pointer-returns-in_err-copy-clause-damaged
plan_pointer-returns-in_err-copy-clause-damaged g t c told block is =
    let sectors = (g.D.Device.status (device_of c.args.blocks.now)).sectors in
    let s = store_of (reads (g.D.Device.disk (device_of c.args.blocks.now))) in
    let p = err_from_is_err_and c.from_residual.result c.from_residual.ensures.1 in
    let fault : c.in_err-copy.field-0.0 ≡ Damaged block = cc (p.1, p.2) in
    let up : suc (c.args.depth - 1) ≡ c.args.depth = omega (arith, c.if-depth-eq0.false) in
    subst (λ (d : ℕ). LeadsOutsideAt sectors (all_pointers s d (c.args.pointer ∷ [])) block) up
    (outside_here sectors s (c.args.depth - 1) c.args.pointer (c.in_err-copy.ensures.damaged block (ap (λ fault. Err fault) fault)))

pub plan_pointer-plan_copy-requires : goal.plan_pointer-plan_copy-requires
plan_pointer-plan_copy-requires g t c κs within =
    let count = c.in_ok-copy.ensures.count in
    let room : c.args.first + length c.in_ok-copy.copy * 1024 ^ (c.args.depth - 1) ≤ 2 ^ 62 = omega (arith, indirect_end c.args.first c.args.depth (length c.in_ok-copy.copy) c.if-depth-eq0.false count, c.requires.room) in
    (first_of (search rules, omega (arith, c.decreases)), (search rules, (omega arith, (count, (room, c.requires.rise)))))

pub plan_pointer-returns-in_err-plan_copy-clause-damaged : goal.plan_pointer-returns-in_err-plan_copy-clause-damaged
plan_pointer-returns-in_err-plan_copy-clause-damaged g t c told block is =
    let sectors = (g.D.Device.status (device_of c.args.blocks.now)).sectors in
    let s = store_of (reads (g.D.Device.disk (device_of c.args.blocks.now))) in
    let r = store_of (reads (g.D.Device.disk (device_of c.copy_below.new.blocks))) in
    let p = err_from_is_err_and c.from_residual-in_err-plan_copy.result c.from_residual-in_err-plan_copy.ensures.1 in
    let fault : c.in_err-plan_copy.field-0.0 ≡ Tree (Damaged block) = cc (p.1, p.2) in
    outside_indirect sectors (g.D.Device.status (device_of c.copy_below.new.blocks)).sectors s r c.args.depth c.args.pointer c.in_ok-copy.copy c.if-depth-eq0.false c.copy_below.ensures.counts.sectors (ap (λ (d : Disk). store_of (reads d)) (c.copy_below.ensures.same told)) (c.in_ok-copy.ensures.pointers told)
    (c.in_err-plan_copy.ensures.damaged told block (ap (λ fault. Err fault) fault))

pub plan_pointer-returns-clause-planned : goal.plan_pointer-returns-clause-planned
plan_pointer-returns-clause-planned g t c =
    let Told = IsTrue g.D.Device.tells_bytes in
    let s = store_of (reads (g.D.Device.disk (device_of c.args.blocks.now))) in
    let r = store_of (reads (g.D.Device.disk (device_of c.copy_below.new.blocks))) in
    let items = c.args.dirty.now.items in
    let olds = c.in_ok-copy.copy in
    let end = c.args.first + 1024 ^ c.args.depth in
    let touched = subst (λ (n : ℕ). length (after n items) ≡ length items → c.args.keep < n) (ap (λ (n : ℕ). c.args.first + n) c.span_of.ensures.value) (c.stays.ensures.touched c.if-stays.false) in
    planned_indirect Told s r c.args.keep c.args.depth c.args.first end (c.args.first + length olds * 1024 ^ (c.args.depth - 1)) c.args.pointer olds c.plan_copy.new.copy items c.plan_copy.new.dirty.items c.args.build.now c.plan_copy.new.build c.replace_copy.new.build c.replace_copy.result c.if-depth-eq0.false
    (λ told. ap (λ (d : Disk). store_of (reads d)) (c.copy_below.ensures.same told)) c.in_ok-copy.ensures.pointers (indirect_end c.args.first c.args.depth (length olds) c.if-depth-eq0.false c.in_ok-copy.ensures.count) touched c.in_ok-plan_copy.ensures.planned c.replace_copy.ensures.replaced

pub plan_pointer-returns-clause-full : goal.plan_pointer-returns-clause-full
plan_pointer-returns-clause-full g t c = λ is.
    let r = store_of (reads (g.D.Device.disk (device_of c.copy_below.new.blocks))) in
    let items = c.args.dirty.now.items in
    let olds = c.in_ok-copy.copy in
    let touched = subst (λ (n : ℕ). length (after n items) ≡ length items → c.args.keep < n) (ap (λ (n : ℕ). c.args.first + n) c.span_of.ensures.value) (c.stays.ensures.touched c.if-stays.false) in
    too_full_indirect (IsTrue g.D.Device.tells_bytes) r c.args.keep c.args.depth c.args.first (c.args.first + 1024 ^ c.args.depth) (c.args.first + length olds * 1024 ^ (c.args.depth - 1)) olds c.plan_copy.new.copy items c.plan_copy.new.dirty.items c.args.build.now c.plan_copy.new.build c.if-depth-eq0.false (indirect_end c.args.first c.args.depth (length olds) c.if-depth-eq0.false c.in_ok-copy.ensures.count) touched
    c.in_ok-plan_copy.ensures.planned (c.replace_copy.ensures.filled is) (c.replace_copy.ensures.full is)

pub plan_pointer-returns-then-eq-clause-planned : goal.plan_pointer-returns-then-eq-clause-planned
plan_pointer-returns-then-eq-clause-planned g t c =
    let Told = IsTrue g.D.Device.tells_bytes in
    let s = store_of (reads (g.D.Device.disk (device_of c.args.blocks.now))) in
    let r = store_of (reads (g.D.Device.disk (device_of c.copy_below.new.blocks))) in
    let items = c.args.dirty.now.items in
    let olds = c.in_ok-copy.copy in
    let news = c.plan_copy.new.copy in
    let left = c.plan_copy.new.dirty.items in
    let old = c.args.build.now in
    let new = c.plan_copy.new.build in
    let depth = c.args.depth - 1 in
    let end = c.args.first + 1024 ^ c.args.depth in
    let up : suc depth ≡ c.args.depth = omega (arith, c.if-depth-eq0.false) in
    let step = planned_under Told s r c.args.keep depth c.args.first end (c.args.first + length olds * 1024 ^ depth) c.args.pointer olds news items left old new (λ told. ap (λ (d : Disk). store_of (reads d)) (c.copy_below.ensures.same told)) c.in_ok-copy.ensures.pointers
    (indirect_end c.args.first c.args.depth (length olds) c.if-depth-eq0.false c.in_ok-copy.ensures.count) c.in_ok-plan_copy.ensures.planned in
    let parts = and_parts (c.counts.result.0 == c.counts-counts.result.0) (c.counts.result.1 == c.counts-counts.result.1) (sym c.eq.ensures ∙ c.if-eq.true) in
    let added : length new.added ≡ length old.added = omega (arith, eqb-true c.counts.result.0 c.counts-counts.result.0 parts.0, c.counts.ensures.added, c.counts-counts.ensures.added) in
    let released : length new.released ≡ length old.released = omega (arith, eqb-true c.counts.result.1 c.counts-counts.result.1 parts.1, c.counts.ensures.released, c.counts-counts.ensures.released) in
    subst (λ (d : ℕ). Planned Told s (all_pointers s d (c.args.pointer ∷ [])) (contents s d (c.args.pointer ∷ [])) d c.args.first end c.args.keep items left (c.args.pointer ∷ []) old new) up
    (planned_unchanged Told s c.args.keep depth c.args.first end c.args.pointer items left news old new (omega (arith, c.if-first-keep.true)) added released (λ same told. c.in_ok-plan_copy.ensures.still same ∙ c.in_ok-copy.ensures.pointers told) step)

pub plan_copy-loop-k-init : goal.plan_copy-loop-k-init
plan_copy-loop-k-init g t c =
    let s = store_of (reads (g.D.Device.disk (device_of c.args.blocks.now))) in
    record {
      same = λ _. refl;
      status = refl;
      within = omega arith;
      done = progress_begun (IsTrue g.D.Device.tells_bytes) s c.args.depth c.args.first c.args.keep c.args.dirty.now.items c.args.copy.now c.args.build.now c.requires.rise;
    }

pub plan_copy-plan_pointer-requires : goal.plan_copy-plan_pointer-requires
plan_copy-plan_pointer-requires g t c κs within =
    let s = store_of (reads (g.D.Device.disk (device_of c.args.blocks.now))) in
    let inside : c.loop-k.k < length c.loop-k.copy = omega (arith, c.loop-k.invariant.done.count, c.requires.count) in
    let at = progress_at (IsTrue g.D.Device.tells_bytes) s c.args.depth c.args.first c.args.keep c.span_of-span.result c.args.dirty.now.items c.loop-k.dirty.items c.args.copy.now c.loop-k.copy c.args.build.now c.loop-k.build c.loop-k.k c.span_of-span.ensures.value c.loop-k.invariant.done inside in
    (first_of (search rules, omega (arith, c.decreases)), (search rules, (c.requires.depth, (omega (arith, at.0, c.requires.room), at.1))))

pub plan_copy-returns-in_err-new-clause-full : goal.plan_copy-returns-in_err-new-clause-full
plan_copy-returns-in_err-new-clause-full g t c = λ is.
    let s = store_of (reads (g.D.Device.disk (device_of c.args.blocks.now))) in
    let within : c.loop-k.k < length c.loop-k.copy = omega (arith, c.loop-k.invariant.done.count, c.requires.count) in
    let p = err_from_is_err_and c.from_residual.result c.from_residual.ensures.1 in
    let fault : c.in_err-new.field-0.0 ≡ Full = cc (p.1, p.2) in
    progress_full (IsTrue g.D.Device.tells_bytes) s c.args.depth c.args.first c.args.keep c.span_of-span.result c.args.dirty.now.items c.loop-k.dirty.items c.args.copy.now c.loop-k.copy c.args.build.now c.loop-k.build c.loop-k.k c.span_of-span.ensures.value c.loop-k.invariant.done within (c.in_err-new.ensures.full (ap (λ fault. Err fault) fault))

pub plan_copy-returns-in_err-new-clause-damaged : goal.plan_copy-returns-in_err-new-clause-damaged
plan_copy-returns-in_err-new-clause-damaged g t c told block is =
    let s = store_of (reads (g.D.Device.disk (device_of c.args.blocks.now))) in
    let r = store_of (reads (g.D.Device.disk (device_of c.loop-k.blocks))) in
    let within : c.loop-k.k < length c.loop-k.copy = omega (arith, c.loop-k.invariant.done.count, c.requires.count) in
    let p = err_from_is_err_and c.from_residual.result c.from_residual.ensures.1 in
    let fault : c.in_err-new.field-0.0 ≡ Tree (Damaged block) = cc (p.1, p.2) in
    progress_outside (IsTrue g.D.Device.tells_bytes) s c.args.depth c.args.first c.args.keep c.span_of-span.result c.args.dirty.now.items c.loop-k.dirty.items c.args.copy.now c.loop-k.copy c.args.build.now c.loop-k.build c.loop-k.k c.span_of-span.ensures.value c.loop-k.invariant.done within r (ap (λ (d : Disk). store_of (reads d)) (c.loop-k.invariant.same told))
    (g.D.Device.status (device_of c.args.blocks.now)).sectors (g.D.Device.status (device_of c.loop-k.blocks)).sectors (ap (λ (t : Status). t.sectors) c.loop-k.invariant.status) c.pointer.result c.pointer.ensures (c.in_err-new.ensures.damaged told block (ap (λ fault. Err fault) fault))

pub plan_copy-loop-k-preserved : goal.plan_copy-loop-k-preserved
plan_copy-loop-k-preserved g t c =
    let s = store_of (reads (g.D.Device.disk (device_of c.args.blocks.now))) in
    let r = store_of (reads (g.D.Device.disk (device_of c.loop-k.blocks))) in
    let within : c.loop-k.k < length c.loop-k.copy = omega (arith, c.loop-k.invariant.done.count, c.requires.count) in
    record {
      same = λ told. c.plan_pointer.ensures.same told ∙ c.loop-k.invariant.same told;
      status = c.in_ok-new.ensures.counts.other (λ failed. absurd cc) ∙ c.loop-k.invariant.status;
      within = omega (arith, within, ap (λ (qs : List ℕ). length qs) c.set.ensures, length-set c.loop-k.copy c.loop-k.k c.in_ok-new.new);
      done = progress_step (IsTrue g.D.Device.tells_bytes) s c.args.depth c.args.first c.args.keep c.span_of-span.result c.args.dirty.now.items c.loop-k.dirty.items c.args.copy.now c.loop-k.copy c.args.build.now c.loop-k.build c.loop-k.k c.span_of-span.ensures.value c.loop-k.invariant.done within r (λ told. ap (λ (d : Disk). store_of (reads d)) (c.loop-k.invariant.same told)) c.pointer.result c.in_ok-new.new c.pointer.ensures c.plan_pointer.new.dirty.items c.plan_pointer.new.build c.in_ok-new.ensures.planned c.in_ok-new.ensures.still c.set.new.self c.set.ensures;
    }

pub plan_copy-loop-k-preserved-then-staying-gt0 : goal.plan_copy-loop-k-preserved-then-staying-gt0
plan_copy-loop-k-preserved-then-staying-gt0 g t c =
    let s = store_of (reads (g.D.Device.disk (device_of c.args.blocks.now))) in
    let k = c.loop-k.k in
    let n = c.count_staying_in-staying.result in
    let ps = c.loop-k.copy in
    let some : 0 < n = omega arith in
    let within : k + n ≤ length ps = omega (arith, c.count_staying_in-staying.ensures.most, c.loop-k.invariant.done.count, c.requires.count) in
    record {
      same = c.loop-k.invariant.same;
      status = c.loop-k.invariant.status;
      within = within;
      done = progress_run (IsTrue g.D.Device.tells_bytes) s c.args.depth c.args.first c.args.keep c.span_of-span.result c.args.dirty.now.items c.loop-k.dirty.items c.args.copy.now c.loop-k.copy c.args.build.now c.loop-k.build c.loop-k.k c.span_of-span.ensures.value c.loop-k.invariant.done n some within (take n (drop k ps)) refl (c.count_staying_in-staying.ensures.stay some (c.args.first + k * 1024 ^ c.args.depth) c.loop-k.invariant.done.rise);
    }
