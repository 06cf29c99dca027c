use Rattle.std.proofs.Common.{List, IsTrue, sym, subst, ◌∙◌, ◌≡◌, Err, ap}
use Rattle.std.specs.Prelude.{All}
use Rattle.std.specs.List.Sorted.{IsStrictlyIncreasing}
use Rattle.std.proofs.lemmas.Bool.{true≢false}
use Rattle.sn_alloc.specs.Taking.{IsFreeData}
use Rattle.sn_device.specs.Disk.{reads}
use Rattle.sn_block.specs.Lending.{device_of}
use Rattle.sn_inode.specs.declared.changes.RecordChange.TheVariants.{Used}
use Rattle.sn_ondisk.specs.Trees.{store_of}
use Rattle.sn_tree.specs.Drafts.{numbers_of}
use Rattle.sn_tree.specs.declared.new_block.NewBlock.{NewBlock}
use Rattle.sn_cp_nodes.specs.Made.{HasTaken, CanMakeContent}
use Rattle.sn_cp_nodes.proofs.FaultLemmas.{inode_made}
use Rattle.std.proofs.lemmas.Result.{err_from_is_err_and}
use Rattle.sn_layout_node.specs.declared.content.Content.{Content}
use Rattle.sn_tree_read.specs.declared.fault.TreeFault.TheVariants.{Damaged}
use Rattle.sn_tree.specs.declared.fault.PlanFault.TheVariants.{Tree}
use Rattle.sn_cp_nodes.proofs.node.changed.Goals as goal

pub returns-clause-made : goal.returns-clause-made
returns-clause-made g c =
    inode_made (IsTrue g.D.Device.tells_bytes) (store_of (reads (g.D.Device.disk (device_of c.args.blocks.now)))) c.args.was.now c.args.state.now c.args.names.now c.args.written.items
    c.content_of-old.result c.in_ok-content.content c.inode_for-inode.result.0 c.inode_for-inode.result.1 c.args.build.now c.content_for.new.build c.content_of-old.ensures c.inode_for-inode.ensures.made c.inode_for-inode.ensures.fits c.in_ok-content.ensures.made

pub returns-then-not-is_change-clause-damaged : goal.returns-then-not-is_change-clause-damaged
returns-then-not-is_change-clause-damaged g c = λ told block damaged can.
    let behind = c.content_for.new.build in
    let taken : HasTaken behind = record {
      free = subst (λ (added : List NewBlock). All (IsFreeData behind.words behind.first) (numbers_of added)) c.added.ensures.value c.added.ensures.free;
      rise = subst (λ (added : List NewBlock). IsStrictlyIncreasing (numbers_of added)) c.added.ensures.value c.added.ensures.ascending;
    } in
    let made =
    inode_made (IsTrue g.D.Device.tells_bytes) (store_of (reads (g.D.Device.disk (device_of c.args.blocks.now)))) c.args.was.now c.args.state.now c.args.names.now c.args.written.items
    c.content_of-old.result c.in_ok-content.content c.inode_for-inode.result.0 c.inode_for-inode.result.1 c.args.build.now behind c.content_of-old.ensures c.inode_for-inode.ensures.made c.inode_for-inode.ensures.fits c.in_ok-content.ensures.made in
    true≢false (sym (c.is_change.ensures.1 (can.fits (Used c.inode_for-inode.result.0 c.inode_for-inode.result.1) behind taken made)) ∙ c.if-not-is_change.true)

pub returns-in_err-content-clause-damaged : goal.returns-in_err-content-clause-damaged
returns-in_err-content-clause-damaged g c = λ told block is can.
    let sectors = (g.D.Device.status (device_of c.args.blocks.now)).sectors in
    let s = store_of (reads (g.D.Device.disk (device_of c.args.blocks.now))) in
    let p = err_from_is_err_and c.from_residual.result c.from_residual.ensures.1 in
    let fault : c.in_err-content.field-0.0 ≡ Tree (Damaged block) = cc (p.1, p.2) in
    c.in_err-content.ensures.damaged told block (ap (λ f. Err f) fault)
    (subst (λ (old : Content). CanMakeContent sectors s old c.args.state.now c.args.names.now c.args.written.items) (sym c.content_of-old.ensures) can.content)
