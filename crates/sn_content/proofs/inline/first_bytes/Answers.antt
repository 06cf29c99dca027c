use Rattle.std.proofs.Common.{◌≡◌, sym, ap, subst}
use Rattle.std.specs.Prelude.{Err}
use Rattle.std.proofs.lemmas.Result.{err_from_is_err_and}
use Rattle.sn_device.specs.Disk.{reads}
use Rattle.sn_block.specs.Lending.{device_of}
use Rattle.sn_image.specs.Contents.{content_reach}
use Rattle.sn_layout_node.specs.declared.content.Content.{Content}
use Rattle.sn_ondisk.specs.Trees.{store_of}
use Rattle.sn_tree_read.specs.declared.fault.TreeFault.TheVariants.{Damaged}
use Rattle.sn_tree.specs.Steps.{LeadsOutsideAt}
use Rattle.sn_content.proofs.ContentLemmas.{block_off}
use Rattle.sn_content.proofs.inline.first_bytes.Goals as goal

pub returns-in_err-fetch_data-in-Tree-clause-damaged : goal.returns-in_err-fetch_data-in-Tree-clause-damaged
returns-in_err-fetch_data-in-Tree-clause-damaged g c told block is =
    let sectors = (g.D.Device.status (device_of c.args.blocks.now)).sectors in
    let s = store_of (reads (g.D.Device.disk (device_of c.args.blocks.now))) in
    let f = err_from_is_err_and c.from_residual.result c.from_residual.ensures.1 in
    let fault : c.in_err-fetch_data-in-Tree.field-0.0 ≡ Damaged block = cc (f.1, f.2) in
    let off = c.in_err-fetch_data-in-Tree.ensures.damaged told block (ap (λ fault. Err fault) fault) in
    subst (λ (x : Content). LeadsOutsideAt sectors (content_reach s x) block) (sym c.in-Tree.is) (block_off sectors s c.in-Tree.tree 0 off)
