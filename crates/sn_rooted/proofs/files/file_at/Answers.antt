use Rattle.std.proofs.Common.{Err, IfSome, Option, sym, subst, ap, ◌∙◌}
use Rattle.sn_device.specs.Disk.{reads}
use Rattle.sn_block.specs.Lending.{device_of}
use Rattle.sn_layout_node.specs.Inode.{IsInode}
use Rattle.sn_layout_node.specs.declared.content.Content.{Content}
use Rattle.sn_rooted.specs.Nodes.{bytes_if, file_content_if}
use Rattle.sn_rooted.specs.Roots.{IsWhole, store_on}
use Rattle.sn_rooted.proofs.RootLemmas.{bytes_read, bytes_shown, no_bytes, was_damaged}
use Rattle.sn_rooted.proofs.files.file_at.Goals as goal

pub returns-in_default-clause-bytes : goal.returns-in_default-clause-bytes
returns-in_default-clause-bytes g c told =
    no_bytes (store_on c.args.blocks.now) c.args.file.now c.args.number (sym (c.in_ok-inode.ensures.inode told) ∙ c.in_default.is)

pub returns-in_err-inode-clause-damaged : goal.returns-in_err-inode-clause-damaged
returns-in_err-inode-clause-damaged g c told root block is =
    c.in_err-inode.ensures.damaged told root block (ap (λ f. Err f) (was_damaged _ _ c.from_residual.ensures.1 is))

pub returns-clause-bytes : goal.returns-clause-bytes
returns-clause-bytes g c told =
    let s = store_on c.args.blocks.now in
    let used = sym (c.in_ok-inode.ensures.inode told) ∙ c.in-Some.is in
    bytes_shown s c.args.file.now c.args.number c.in-Some.inode used ∙ ap (bytes_if s) (sym c.file_content.ensures)

pub returns-clause-sound : goal.returns-clause-sound
returns-clause-sound g c told root =
    let disk = g.D.Device.disk (device_of c.args.blocks.now) in
    let sectors = (g.D.Device.status (device_of c.args.blocks.now)).sectors in
    let used = sym (c.in_ok-inode.ensures.inode told) ∙ c.in-Some.is in
    let valid : IsInode c.args.limits.now c.in-Some.inode = subst (λ o. IfSome o (λ i. IsInode c.args.limits.now i)) c.in-Some.is c.in_ok-inode.ensures.valid in
    subst (λ (o : Option Content). IfSome o (λ content. IsWhole sectors (store_on c.args.blocks.now) content)) (sym c.file_content.ensures)
    (bytes_read c.args.limits.now _ (reads disk) c.args.file.now (g.met.D.Device.whole (device_of c.args.blocks.now) told) (g.met.D.Device.count (device_of c.args.blocks.now) told) root c.args.number c.in-Some.inode used c.read_laws.ensures.blocks valid)

pub returns-in_default-clause-content : goal.returns-in_default-clause-content
returns-in_default-clause-content g c told = sym (ap file_content_if (sym (c.in_ok-inode.ensures.inode told) ∙ c.in_default.is))

pub returns-clause-content : goal.returns-clause-content
returns-clause-content g c told = c.file_content.ensures ∙ sym (ap file_content_if (sym (c.in_ok-inode.ensures.inode told) ∙ c.in-Some.is))

pub returns-in_err-inode-clause-unread : goal.returns-in_err-inode-clause-unread
returns-in_err-inode-clause-unread g c told block is =
    c.in_err-inode.ensures.unread told block (ap (λ f. Err f) (was_damaged _ _ c.from_residual.ensures.1 is))
