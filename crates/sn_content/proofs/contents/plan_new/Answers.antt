use Rattle.std.proofs.Common.{◌≡◌, ℕ, ◌+◌, ◌*◌, List, length, replicate, sym, ap, subst, ◌∙◌, IsTrue}
use Rattle.std.specs.Prelude.{◌^◌, Err}
use Rattle.std.proofs.lemmas.Result.{err_from_is_err_and}
use Rattle.sn_device.specs.Disk.{reads}
use Rattle.sn_block.specs.Lending.{device_of}
use Rattle.sn_layout.specs.declared.tree.BlockTree.{BlockTree}
use Rattle.sn_ondisk.specs.Trees.{store_of, all_pointers}
use Rattle.sn_tree_read.specs.declared.fault.TreeFault.TheVariants.{Damaged}
use Rattle.sn_tree.specs.Plans.{contents}
use Rattle.sn_tree.specs.Steps.{Planned}
use Rattle.sn_tree.specs.declared.fault.PlanFault.TheVariants.{Tree}
use Rattle.sn_content.proofs.ContentLemmas.{new_built}
use Rattle.sn_tree.proofs.DirtyLemmas.{AreHoles-replicate}
use Rattle.sn_tree.proofs.FrontLemmas.{no_outside}
use Rattle.sn_content.proofs.contents.plan_new.Goals as goal

pub returns-in_err-plan_pointers-clause-sound : goal.returns-in_err-plan_pointers-clause-sound
returns-in_err-plan_pointers-clause-sound g c told block is =
    let sectors = (g.D.Device.status (device_of c.args.blocks.now)).sectors in
    let s = store_of (reads (g.D.Device.disk (device_of c.args.blocks.now))) in
    let f = err_from_is_err_and c.from_residual.result c.from_residual.ensures.1 in
    let fault : c.in_err-plan_pointers.field-0.0 ≡ Tree (Damaged block) = cc (f.1, f.2) in
    no_outside sectors s c.levels_of-levels.result (replicate 16 0) (AreHoles-replicate 16) (c.in_err-plan_pointers.ensures.damaged told block (ap (λ fault. Err fault) fault))

pub returns-clause-built : goal.returns-clause-built
returns-clause-built g c =
    let Told = IsTrue g.D.Device.tells_bytes in
    let s = store_of (reads (g.D.Device.disk (device_of c.args.blocks.now))) in
    let new : BlockTree = record { size = c.args.size; pointers = c.new.result } in
    let levels = c.levels_of-levels.result in
    let count : length c.new.result ≡ 16 = ap (λ (ps : List ℕ). length ps) c.new.ensures ∙ search in
    let step : Planned Told s (all_pointers s levels (replicate 16 0)) (contents s levels (replicate 16 0)) levels 0 (0 + 16 * 1024 ^ levels) 0 c.args.dirty.items c.plan_pointers.new.dirty.items c.new.result c.args.build.now c.plan_pointers.new.build =
    subst (λ (ps : List ℕ). Planned Told s (all_pointers s levels (replicate 16 0)) (contents s levels (replicate 16 0)) levels 0 (0 + 16 * 1024 ^ levels) 0 c.args.dirty.items c.plan_pointers.new.dirty.items ps c.args.build.now c.plan_pointers.new.build) (sym c.new.ensures) c.in_ok-plan_pointers.ensures.planned in
    new_built Told s new c.args.dirty.items c.args.build.now c.plan_pointers.new.build (0 + 16 * 1024 ^ levels) c.plan_pointers.new.dirty.items count
    (subst (λ (n : ℕ). Planned Told s (all_pointers s n (replicate 16 0)) (contents s n (replicate 16 0)) n 0 (0 + 16 * 1024 ^ levels) 0 c.args.dirty.items c.plan_pointers.new.dirty.items c.new.result c.args.build.now c.plan_pointers.new.build) c.levels_of-levels.ensures.value step)
