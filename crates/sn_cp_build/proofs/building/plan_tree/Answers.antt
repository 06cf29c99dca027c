use Rattle.std.proofs.Common.{◌≡◌, ◌≢◌, ℕ, ◌+◌, ◌*◌, ◌<◌, List, [], Err, length, IsTrue, sym, ap, subst, ◌∙◌}
use Rattle.std.proofs.lemmas.Bool.{eqb-true, eqb-false, true≢false}
use Rattle.std.proofs.lemmas.List.{nil_from_length}
use Rattle.std.proofs.lemmas.Result.{err_from_is_err_and}
use Rattle.sn_alloc.specs.Taking.{free_data}
use Rattle.sn_device.specs.Disk.{Disk, reads}
use Rattle.sn_block.specs.Lending.{device_of}
use Rattle.sn_ondisk.specs.Trees.{store_of}
use Rattle.sn_overlay.specs.Overlays.{layer_of}
use Rattle.sn_inode.specs.Changes.{IsUnreadableAt}
use Rattle.sn_inode.specs.declared.changes.InodeChange.{InodeChange}
use Rattle.sn_tree.specs.declared.fault.PlanFault.TheVariants.{Full, Tree}
use Rattle.sn_tree_read.specs.declared.fault.TreeFault.TheVariants.{Damaged}
use Rattle.sn_cp_nodes.proofs.CanLemmas.{readable}
use Rattle.sn_cp_build.proofs.NeedLemmas.{inodes_full, needs_most}
use Rattle.sn_cp_build.proofs.NoneLemmas.{none_planned}
use Rattle.sn_cp_build.proofs.WholeLemmas.{tree_planned}
use Rattle.sn_cp_build.proofs.building.plan_tree.Goals as goal

pub returns-clause-planned : goal.returns-clause-planned
returns-clause-planned g c =
    tree_planned (IsTrue g.D.Device.tells_bytes) c.args.limits.now (store_of (reads (g.D.Device.disk (device_of c.args.blocks.now)))) (store_of (reads (g.D.Device.disk (device_of c.plan_nodes.new.blocks)))) c.args.file.now (layer_of c.args.changes.now)
    c.args.build.now c.plan_nodes.new.build c.with.new.build c.in_ok-planned.planned.items c.as_slice-inodes.result.now c.with.result
    (λ told. ap (λ (d : Disk). store_of (reads d)) (c.plan_nodes.ensures.same told)) c.requires.version c.as_slice-inodes.ensures.value c.in_ok-planned.ensures.built
    c.with.ensures.with c.with.ensures.larger c.with.ensures.file

pub returns-in_err-planned-clause-full : goal.returns-in_err-planned-clause-full
returns-in_err-planned-clause-full g c = λ told full n ground.
    let p = err_from_is_err_and c.from_residual.result c.from_residual.ensures.1 in
    let fault : c.in_err-planned.field-0.0 ≡ Full = cc (p.1, p.2) in
    needs_most c.args.limits.now (layer_of c.args.changes.now) c.args.build.now (c.in_err-planned.ensures.full told (ap (λ f. Err f) fault) n ground)

pub returns-then-is_empty-clause-planned : goal.returns-then-is_empty-clause-planned
returns-then-is_empty-clause-planned g c =
    none_planned (IsTrue g.D.Device.tells_bytes) c.args.limits.now (store_of (reads (g.D.Device.disk (device_of c.args.blocks.now)))) c.args.file.now (layer_of c.args.changes.now) c.args.build.now c.plan_nodes.new.build c.in_ok-planned.planned.items
    (sym c.as_slice-inodes.ensures.value ∙ nil_from_length c.as_slice-inodes.result.now (eqb-true (length c.as_slice-inodes.result.now) 0 (sym c.is_empty.ensures ∙ c.if-is_empty.true)))
    (c.is_inode_file.ensures.0 c.if-not-is_inode_file.false) c.in_ok-planned.ensures.built

pub returns-clause-full : goal.returns-clause-full
returns-clause-full g c = λ told full n ground.
    let some : c.in_ok-planned.planned.items ≢ [] = λ nothing. eqb-false (length c.as_slice-inodes.result.now) 0 (sym c.is_empty.ensures ∙ c.if-is_empty.false) (ap (λ (cs : List InodeChange). length cs) (c.as_slice-inodes.ensures.value ∙ nothing)) in
    inodes_full c.args.limits.now (layer_of c.args.changes.now) (IsTrue g.D.Device.tells_bytes) (store_of (reads (g.D.Device.disk (device_of c.args.blocks.now)))) c.args.file.now c.args.build.now c.plan_nodes.new.build c.in_ok-planned.planned.items
    c.in_ok-planned.ensures.built some
    (subst (λ (cs : List InodeChange). free_data c.plan_nodes.new.build.words c.plan_nodes.new.build.first < length c.plan_nodes.new.build.added + (3 * length cs + 2)) c.as_slice-inodes.ensures.value (c.with.ensures.full full))

pub returns-then-not-is_inode_file-clause-damaged : goal.returns-then-not-is_inode_file-clause-damaged
returns-then-not-is_inode_file-clause-damaged g c = λ told block damaged n safe. true≢false (sym (c.is_inode_file.ensures.1 safe.ground.sound.file) ∙ c.if-not-is_inode_file.true)

pub returns-in_err-planned-clause-damaged : goal.returns-in_err-planned-clause-damaged
returns-in_err-planned-clause-damaged g c = λ told block damaged n safe.
    let p = err_from_is_err_and c.from_residual.result c.from_residual.ensures.1 in
    let fault : c.in_err-planned.field-0.0 ≡ Tree (Damaged block) = cc (p.1, p.2) in
    c.in_err-planned.ensures.damaged told block (ap (λ f. Err f) fault) n safe

pub returns-clause-damaged : goal.returns-clause-damaged
returns-clause-damaged g c = λ told block damaged n safe.
    let file = c.args.file.now in
    let changes = c.as_slice-inodes.result.now in
    let sectors = (g.D.Device.status (device_of c.args.blocks.now)).sectors in
    let there = store_of (reads (g.D.Device.disk (device_of c.plan_nodes.new.blocks))) in
    readable c.inode_laws.ensures.inodes c.args.limits.now n sectors (store_of (reads (g.D.Device.disk (device_of c.args.blocks.now)))) file (layer_of c.args.changes.now) c.args.build.now safe changes block
    (subst (λ (d : Disk). IsUnreadableAt c.args.limits.now sectors (store_of (reads d)) file changes block) (c.plan_nodes.ensures.same told)
    (subst (λ (k : ℕ). IsUnreadableAt c.args.limits.now k there file changes block) c.plan_nodes.ensures.counts.sectors (c.with.ensures.damaged told block damaged)))
