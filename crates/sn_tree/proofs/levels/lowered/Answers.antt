use Rattle.std.proofs.Common.{◌≡◌, ℕ, suc, ◌+◌, ◌-◌, List, length, refl, sym, ap, subst, ◌∙◌, arith, IsTrue}
use Rattle.std.specs.Prelude.{Err}
use Rattle.std.proofs.lemmas.Result.{err_from_is_err_and}
use Rattle.sn_device.specs.Disk.{Disk, reads}
use Rattle.sn_device.specs.declared.status.Status.{Status}
use Rattle.sn_block.specs.Lending.{device_of}
use Rattle.sn_layout.specs.Pointers.{levels_of}
use Rattle.sn_ondisk.specs.Trees.{Store, store_of, all_pointers}
use Rattle.sn_tree_read.specs.declared.fault.TreeFault.TheVariants.{Damaged}
use Rattle.sn_tree.specs.Fronts.{IsFirstOf}
use Rattle.sn_tree.specs.Steps.{LeadsOutsideAt}
use Rattle.sn_tree.specs.declared.fault.PlanFault.TheVariants.{Tree, Full}
use Rattle.sn_tree.proofs.LevelLemmas.{first_begun, first_lowered, first_outside, first_full}
use Rattle.sn_tree.proofs.ReplannedLemmas.{tree_outside}
use Rattle.sn_tree.proofs.levels.lowered.Goals as goal

pub loop-depth-init : goal.loop-depth-init
loop-depth-init g c =
    let Told = IsTrue g.D.Device.tells_bytes in
    let s = store_of (reads (g.D.Device.disk (device_of c.args.blocks.now))) in
    let tree = c.args.tree.now in
    let pointers : c.copy_from_slice.new.self ≡ tree.pointers = c.copy_from_slice.ensures.after ∙ c.as_slice.ensures.value in
    record {
      same = λ _. refl;
      status = refl;
      least = omega (arith, c.levels_of-depth.ensures.value, c.requires);
      most = omega (arith, c.levels_of-depth.ensures.most);
      count = ap (λ (ps : List ℕ). length ps) pointers ∙ c.as_slice.ensures.fits.count;
      first = subst (λ (n : ℕ). IsFirstOf Told s tree n c.copy_from_slice.new.self c.args.build.now c.args.build.now) (sym c.levels_of-depth.ensures.value)
          (subst (λ (ps : List ℕ). IsFirstOf Told s tree (levels_of tree.size) ps c.args.build.now c.args.build.now) (sym pointers) (first_begun Told s tree c.args.build.now));
    }

pub loop-depth-preserved : goal.loop-depth-preserved
loop-depth-preserved g c =
    let Told = IsTrue g.D.Device.tells_bytes in
    let inv = c.loop-depth.invariant in
    let depth = c.loop-depth.depth in
    let s = store_of (reads (g.D.Device.disk (device_of c.args.blocks.now))) in
    let t = store_of (reads (g.D.Device.disk (device_of c.loop-depth.blocks))) in
    let same : Told → t ≡ s = (λ told. ap (λ (d : Disk). store_of (reads d)) (inv.same told)) in
    let up : depth ≡ suc (depth - 1) = omega arith in
    record {
      same = λ told. c.lower.ensures.same told ∙ inv.same told;
      status = c.in_ok-pointers.ensures.counts.other (λ failed. absurd cc) ∙ inv.status;
      least = omega arith;
      most = omega arith;
      count = c.in_ok-pointers.ensures.count;
      first = first_lowered Told s t c.args.tree.now (depth - 1) depth c.loop-depth.pointers _ c.args.build.now c.loop-depth.build c.lower.new.build up same inv.first c.in_ok-pointers.ensures.lowered;
    }

pub returns-in_err-pointers-clause-full : goal.returns-in_err-pointers-clause-full
returns-in_err-pointers-clause-full g c = λ is.
    let Told = IsTrue g.D.Device.tells_bytes in
    let s = store_of (reads (g.D.Device.disk (device_of c.args.blocks.now))) in
    let f = err_from_is_err_and c.from_residual.result c.from_residual.ensures.1 in
    let fault : c.in_err-pointers.field-0.0 ≡ Full = cc (f.1, f.2) in
    first_full Told s c.args.tree.now c.loop-depth.depth 0 c.loop-depth.pointers c.args.build.now c.loop-depth.build c.loop-depth.invariant.first (c.in_err-pointers.ensures.full (ap (λ fault. Err fault) fault))

pub returns-in_err-pointers-clause-damaged : goal.returns-in_err-pointers-clause-damaged
returns-in_err-pointers-clause-damaged g c told block is =
    let Told = IsTrue g.D.Device.tells_bytes in
    let inv = c.loop-depth.invariant in
    let depth = c.loop-depth.depth in
    let pointers = c.loop-depth.pointers in
    let sectors = (g.D.Device.status (device_of c.args.blocks.now)).sectors in
    let s = store_of (reads (g.D.Device.disk (device_of c.args.blocks.now))) in
    let t = store_of (reads (g.D.Device.disk (device_of c.loop-depth.blocks))) in
    let same : t ≡ s = ap (λ (d : Disk). store_of (reads d)) (inv.same told) in
    let f = err_from_is_err_and c.from_residual.result c.from_residual.ensures.1 in
    let fault : c.in_err-pointers.field-0.0 ≡ Tree (Damaged block) = cc (f.1, f.2) in
    let leads = c.in_err-pointers.ensures.damaged told block (ap (λ fault. Err fault) fault) in
    let up : depth - 1 + 1 ≡ depth = omega arith in
    tree_outside s c.args.tree.now sectors
    (first_outside Told s c.args.tree.now depth sectors pointers c.args.build.now c.loop-depth.build inv.first told
    (subst (λ (d : ℕ). LeadsOutsideAt sectors (all_pointers s d pointers) block) up
    (subst (λ (q : Store). LeadsOutsideAt sectors (all_pointers q (depth - 1 + 1) pointers) block) same
    (subst (λ (n : ℕ). LeadsOutsideAt n (all_pointers t (depth - 1 + 1) pointers) block) (ap (λ (x : Status). x.sectors) inv.status) leads))))

pub returns-clause-lowered : goal.returns-clause-lowered
returns-clause-lowered g c =
    let Told = IsTrue g.D.Device.tells_bytes in
    let inv = c.loop-depth.invariant in
    let s = store_of (reads (g.D.Device.disk (device_of c.args.blocks.now))) in
    let least : c.loop-depth.depth ≡ c.args.levels = omega (arith, inv.least, c.loop-depth-test.false) in
    subst (λ (n : ℕ). IsFirstOf Told s c.args.tree.now n c.loop-depth.pointers c.args.build.now c.loop-depth.build) least inv.first
