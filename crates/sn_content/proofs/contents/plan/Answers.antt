use Rattle.std.proofs.Common.{◌≡◌, IsTrue, ◌<◌, Err, sym, ap, subst, arith}
use Rattle.std.proofs.lemmas.Result.{err_from_is_err_and}
use Rattle.sn_device.specs.Disk.{reads}
use Rattle.sn_block.specs.Lending.{device_of}
use Rattle.sn_layout_node.specs.declared.content.Content.{Content}
use Rattle.sn_layout_node.specs.declared.content.Content.TheVariants.{Tree}
use Rattle.sn_ondisk.specs.Trees.{store_of}
use Rattle.sn_content.specs.Contents.{IsContentPlanned}
use Rattle.sn_content.proofs.ContentLemmas.{inline_planned, tree_content_planned}
use Rattle.sn_image.specs.Contents.{content_reach}
use Rattle.sn_tree_read.specs.declared.fault.TreeFault.TheVariants.{Damaged}
use Rattle.sn_tree.specs.Steps.{LeadsOutsideAt}
use Rattle.sn_tree.specs.declared.fault.PlanFault.TheVariants as plan
use Rattle.sn_content.proofs.contents.plan.Goals as goal

pub returns-then-dirty-clause-planned : goal.returns-then-dirty-clause-planned
returns-then-dirty-clause-planned g c =
    let Told = IsTrue g.D.Device.tells_bytes in
    let s = store_of (reads (g.D.Device.disk (device_of c.args.blocks.now))) in
    inline_planned Told s c.args.dirty.keep c.args.dirty.blocks.items c.args.build.now c.plan_inline.new.build c.args.content.now c.args.dirty.size c.in_ok-bytes.bytes
    c.if-dirty.true c.in_ok-bytes.ensures.count c.in_ok-bytes.ensures.bytes c.in_ok-bytes.ensures.released

pub returns-in_ok-tree-in-Tree-clause-planned : goal.returns-in_ok-tree-in-Tree-clause-planned
returns-in_ok-tree-in-Tree-clause-planned g c =
    let Told = IsTrue g.D.Device.tells_bytes in
    let s = store_of (reads (g.D.Device.disk (device_of c.args.blocks.now))) in
    let items = c.args.dirty.blocks.items in
    let new = c.in_ok-tree-in-Tree.tree in
    let more : 64 < new.size = omega (arith, c.if-dirty.false, c.in_ok-tree-in-Tree.ensures.size) in
    subst (λ (old : Content). IsContentPlanned Told s old (Tree new) c.args.dirty.keep items c.args.build.now c.plan_tree.new.build) (sym c.in-Tree.is)
    (tree_content_planned Told s c.args.dirty.keep items c.args.build.now c.plan_tree.new.build c.in-Tree.tree new more c.in_ok-tree-in-Tree.ensures.planned)

pub returns-in_err-tree-in-Tree-clause-damaged : goal.returns-in_err-tree-in-Tree-clause-damaged
returns-in_err-tree-in-Tree-clause-damaged g c told block is =
    let sectors = (g.D.Device.status (device_of c.args.blocks.now)).sectors in
    let s = store_of (reads (g.D.Device.disk (device_of c.args.blocks.now))) in
    let f = err_from_is_err_and c.from_residual-in_err-tree-in-Tree.result c.from_residual-in_err-tree-in-Tree.ensures.1 in
    let fault : c.in_err-tree-in-Tree.field-0.0 ≡ plan.Tree (Damaged block) = cc (f.1, f.2) in
    subst (λ (x : Content). LeadsOutsideAt sectors (content_reach s x) block) (sym c.in-Tree.is) (c.in_err-tree-in-Tree.ensures.damaged told block (ap (λ f. Err f) fault))
