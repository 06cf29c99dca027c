use Rattle.std.proofs.Common.{◌≡◌, ◌+◌, ◌-◌, ◌*◌, ◌<◌, ◌≤◌, length, get_or, set, take, drop, refl, ap, ◌∙◌, arith, IsTrue}
use Rattle.std.specs.Prelude.{◌^◌, Err}
use Rattle.std.proofs.lemmas.List.{length-drop, length-set, take_all}
use Rattle.std.proofs.lemmas.Result.{err_from_is_err_and}
use Rattle.sn_device.specs.Disk.{Disk, reads}
use Rattle.sn_device.specs.declared.status.Status.{Status}
use Rattle.sn_block.specs.Lending.{device_of}
use Rattle.sn_ondisk.specs.Trees.{store_of}
use Rattle.sn_tree_read.specs.declared.fault.TreeFault.TheVariants.{Damaged}
use Rattle.sn_tree.specs.declared.fault.PlanFault.TheVariants.{Tree, Full}
use Rattle.sn_tree.proofs.ProgressLemmas.{progress_begun, progress_step, progress_run, progress_full, progress_outside}
use Rattle.sn_tree.proofs.pointers.plan_pointers.Goals as goal

pub loop-k-init : goal.loop-k-init
loop-k-init g c =
    let s = store_of (reads (g.D.Device.disk (device_of c.args.blocks.now))) in
    record {
      same = λ _. refl;
      status = refl;
      within = omega arith;
      done = progress_begun (IsTrue g.D.Device.tells_bytes) s c.args.depth c.args.first c.args.keep c.args.dirty.now.items c.args.pointers.now c.args.build.now c.requires.rise;
    }

pub returns-in_err-new-clause-full : goal.returns-in_err-new-clause-full
returns-in_err-new-clause-full g c = λ is.
    let s = store_of (reads (g.D.Device.disk (device_of c.args.blocks.now))) in
    let within : c.loop-k.k < length c.loop-k.pointers = omega arith in
    let p = err_from_is_err_and c.from_residual.result c.from_residual.ensures.1 in
    let fault : c.in_err-new.field-0.0 ≡ Full = cc (p.1, p.2) in
    progress_full (IsTrue g.D.Device.tells_bytes) s c.args.depth c.args.first c.args.keep c.span_of-span.result c.args.dirty.now.items c.loop-k.dirty.items c.args.pointers.now c.loop-k.pointers c.args.build.now c.loop-k.build c.loop-k.k c.span_of-span.ensures.value c.loop-k.invariant.done within (c.in_err-new.ensures.full (ap (λ fault. Err fault) fault))

pub returns-in_err-new-clause-damaged : goal.returns-in_err-new-clause-damaged
returns-in_err-new-clause-damaged g c told block is =
    let s = store_of (reads (g.D.Device.disk (device_of c.args.blocks.now))) in
    let r = store_of (reads (g.D.Device.disk (device_of c.loop-k.blocks))) in
    let within : c.loop-k.k < length c.loop-k.pointers = omega arith in
    let p = err_from_is_err_and c.from_residual.result c.from_residual.ensures.1 in
    let fault : c.in_err-new.field-0.0 ≡ Tree (Damaged block) = cc (p.1, p.2) in
    progress_outside (IsTrue g.D.Device.tells_bytes) s c.args.depth c.args.first c.args.keep c.span_of-span.result c.args.dirty.now.items c.loop-k.dirty.items c.args.pointers.now c.loop-k.pointers c.args.build.now c.loop-k.build c.loop-k.k c.span_of-span.ensures.value c.loop-k.invariant.done within r (ap (λ (d : Disk). store_of (reads d)) (c.loop-k.invariant.same told))
    (g.D.Device.status (device_of c.args.blocks.now)).sectors (g.D.Device.status (device_of c.loop-k.blocks)).sectors (ap (λ (t : Status). t.sectors) c.loop-k.invariant.status) (get_or c.loop-k.pointers c.loop-k.k 0) refl (c.in_err-new.ensures.damaged told block (ap (λ fault. Err fault) fault))

pub loop-k-preserved : goal.loop-k-preserved
loop-k-preserved g c =
    let s = store_of (reads (g.D.Device.disk (device_of c.args.blocks.now))) in
    let r = store_of (reads (g.D.Device.disk (device_of c.loop-k.blocks))) in
    let within : c.loop-k.k < length c.loop-k.pointers = omega arith in
    record {
      same = λ told. c.plan_pointer.ensures.same told ∙ c.loop-k.invariant.same told;
      status = c.in_ok-new.ensures.counts.other (λ failed. absurd cc) ∙ c.loop-k.invariant.status;
      within = omega (arith, within, length-set c.loop-k.pointers c.loop-k.k c.in_ok-new.new);
      done = progress_step (IsTrue g.D.Device.tells_bytes) s c.args.depth c.args.first c.args.keep c.span_of-span.result c.args.dirty.now.items c.loop-k.dirty.items c.args.pointers.now c.loop-k.pointers c.args.build.now c.loop-k.build c.loop-k.k c.span_of-span.ensures.value c.loop-k.invariant.done within r (λ told. ap (λ (d : Disk). store_of (reads d)) (c.loop-k.invariant.same told)) (get_or c.loop-k.pointers c.loop-k.k 0) c.in_ok-new.new refl c.plan_pointer.new.dirty.items c.plan_pointer.new.build c.in_ok-new.ensures.planned c.in_ok-new.ensures.still (set c.loop-k.pointers c.loop-k.k c.in_ok-new.new) refl;
    }

pub loop-k-preserved-then-staying-gt0 : goal.loop-k-preserved-then-staying-gt0
loop-k-preserved-then-staying-gt0 g c =
    let s = store_of (reads (g.D.Device.disk (device_of c.args.blocks.now))) in
    let k = c.loop-k.k in
    let n = c.count_staying-staying.result in
    let ps = c.loop-k.pointers in
    let some : 0 < n = omega arith in
    let within : k + n ≤ length ps = omega (arith, c.count_staying-staying.ensures.most, length-drop k ps) in
    let whole : take (length ps - k) (drop k ps) ≡ drop k ps = take_all (length ps - k) (drop k ps) (omega (arith, length-drop k ps)) in
    record {
      same = c.loop-k.invariant.same;
      status = c.loop-k.invariant.status;
      within = within;
      done = progress_run (IsTrue g.D.Device.tells_bytes) s c.args.depth c.args.first c.args.keep c.span_of-span.result c.args.dirty.now.items c.loop-k.dirty.items c.args.pointers.now c.loop-k.pointers c.args.build.now c.loop-k.build c.loop-k.k c.span_of-span.ensures.value c.loop-k.invariant.done n some within (take n (take (length ps - k) (drop k ps))) (ap (take n) whole) (c.count_staying-staying.ensures.stay some (c.args.first + k * 1024 ^ c.args.depth) c.loop-k.invariant.done.rise);
    }
