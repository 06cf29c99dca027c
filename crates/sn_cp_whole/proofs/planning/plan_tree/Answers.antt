use Rattle.std.proofs.Common.{◌≡◌, ℕ, Err, refl, sym, subst, ◌∙◌}
use Rattle.sn_block.specs.Lending.{device_of}
use Rattle.sn_device.specs.Disk.{reads}
use Rattle.sn_layout.specs.declared.root.RootBody.{RootBody}
use Rattle.sn_ondisk.specs.Trees.{store_of}
use Rattle.sn_overlay.specs.Overlays.{layer_of}
use Rattle.sn_cp_whole.specs.Asking.{CanBeMadeWith, bit_in}
use Rattle.sn_cp_whole.specs.Planning.{kept_in, point_fault_of}
use Rattle.sn_cp_whole.specs.declared.fault.PointFault.TheVariants as fault
use Rattle.sn_cp_whole.proofs.AskingLemmas.{made_written}
use Rattle.sn_cp_whole.proofs.PlanningLemmas.{is_planned, never_damaged}
use Rattle.sn_cp_whole.proofs.planning.plan_tree.Goals as goal

pub with_snapshots-requires-clause-bit : goal.with_snapshots-requires-clause-bit
with_snapshots-requires-clause-bit g c =
    let asked = c.args.asked.now in
    let next = c.with_inode_file-next.result in
    let start = c.in-Some-start_for.field-0 in
    let can = made_written c.args.base.now.root c.requires.body asked (bit_in start.edit) c.in-Some-start_for.ensures.fits.fits in
    let is = c.with_inode_file-next.ensures.is ∙ (λ i. record (c.in-Some.ensures.is i) { inode_file = c.in-Ok-build.built.inode_file }) in
    subst (λ (bit : ℕ). CanBeMadeWith asked bit next.limits next.snapshots) (sym c.bit_in-bit.ensures)
    (subst (λ (r : RootBody). CanBeMadeWith asked (bit_in start.edit) r.limits r.snapshots) (sym is) can)

pub returns-in-Ok-build-clause-planned : goal.returns-in-Ok-build-clause-planned
returns-in-Ok-build-clause-planned g c =
    let k = kept_in c.args.base.now (layer_of c.args.changed.now) in
    let start = c.in-Some-start_for.field-0 in
    is_planned c.args.geometry (store_of (reads (g.D.Device.disk (device_of c.args.blocks.now)))) k c.args.asked.now start.edit start.inode_file (layer_of c.in-Ok.copy) c.in-Some-start_for.ensures.fits c.in-Ok.ensures
    c.args.kind c.bit_in-bit.result c.in-Ok-build.built c.in-Some.next c.with_inode_file-next.result c.with_snapshots.result c.bit_in-bit.ensures c.in-Some.ensures.is c.with_inode_file-next.ensures.is c.with_snapshots.ensures.is
    c.with_snapshots.ensures.snapshots c.with_snapshots.ensures.body c.in-Some.ensures.age c.in-Ok-build.ensures.well c.in-Ok-build.ensures.builds

pub returns-in-Err-clause-damaged : goal.returns-in-Err-clause-damaged
returns-in-Err-clause-damaged g c told damages can made =
    let k = kept_in c.args.base.now (layer_of c.args.changed.now) in
    let start = c.in-Some-start_for.field-0 in
    let same : point_fault_of c.in-Err.fault ≡ fault.Damaged = sym c.plan_fault.ensures ∙ cc in
    never_damaged c.args.geometry (store_of (reads (g.D.Device.disk (device_of c.args.blocks.now)))) k c.args.asked.now start.edit start.inode_file (layer_of c.in-Ok.copy) c.in-Some-start_for.ensures.fits c.in-Ok.ensures
    (Err c.in-Err.fault) c.in-Err.fault refl same c.requires.disk can (c.in-Err.ensures.full told) (c.in-Err.ensures.damaged told)
