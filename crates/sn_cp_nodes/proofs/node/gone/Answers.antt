use Rattle.std.proofs.Common.{◌≡◌, Option, Err, IfSome, ap, subst}
use Rattle.std.proofs.lemmas.Result.{err_from_is_err_and}
use Rattle.sn_device.specs.Disk.{reads}
use Rattle.sn_block.specs.Lending.{device_of}
use Rattle.sn_layout_node.specs.declared.inode.Inode.{Inode}
use Rattle.sn_ondisk.specs.Trees.{store_of}
use Rattle.sn_tree.proofs.FaultLemmas.{leads_outside}
use Rattle.sn_tree.specs.declared.fault.PlanFault.TheVariants.{Tree}
use Rattle.sn_tree_read.specs.declared.fault.TreeFault.TheVariants.{Damaged}
use Rattle.sn_cp_nodes.specs.Made.{CanRelease}
use Rattle.sn_cp_nodes.proofs.node.gone.Goals as goal

pub returns-in_err-release_all-clause-damaged : goal.returns-in_err-release_all-clause-damaged
returns-in_err-release_all-clause-damaged g c = λ told block is can.
    let sectors = (g.D.Device.status (device_of c.args.blocks.now)).sectors in
    let s = store_of (reads (g.D.Device.disk (device_of c.args.blocks.now))) in
    let p = err_from_is_err_and c.from_residual.result c.from_residual.ensures.1 in
    let fault : c.in_err-release_all.field-0.0 ≡ Tree (Damaged block) = cc (p.1, p.2) in
    let release : CanRelease c.args.limits.now sectors s c.args.number c.in-Some.inode = subst (λ (was : Option Inode). IfSome was (CanRelease c.args.limits.now sectors s c.args.number)) c.in-Some.is can in
    release.lies (leads_outside (c.in_err-release_all.ensures.damaged told block (ap (λ f. Err f) fault)))
