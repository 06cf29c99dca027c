use Rattle.std.proofs.Common.{◌≡◌, [], IfOk, IfSome, Some, Err, ap, arith, subst, sym, inl, ◌∙◌}
use Rattle.sn_device.specs.Disk.{reads}
use Rattle.sn_block.specs.Lending.{device_of}
use Rattle.sn_image.specs.Acls.{acls_at}
use Rattle.sn_image.specs.Image.{image}
use Rattle.sn_layout_acl.specs.declared.acl_block.AclBlock.{AclBlock}
use Rattle.sn_layout_node.specs.Inode.{IsInode}
use Rattle.sn_model.specs.Tree.{viewed}
use Rattle.sn_rooted.specs.Roots.{IsSoundRoot, store_on}
use Rattle.sn_rooted.specs.Unread.{IsUnreadInode}
use Rattle.sn_rooted.proofs.RootLemmas.{at_now, at_start, attributes_are, no_access, nothing_shown, was_damaged}
use Rattle.sn_rooted.proofs.nodes.attributes.Goals as goal

pub returns-in_default-clause-found : goal.returns-in_default-clause-found
returns-in_default-clause-found g c told root =
    nothing_shown (store_on c.args.blocks.now) c.args.file.now c.args.number (sym (c.in_ok-inode.ensures.inode told) ∙ c.in_default.is)

pub returns-then-inode-ne0-clause-found : goal.returns-then-inode-ne0-clause-found
returns-then-inode-ne0-clause-found g c told root =
    let sound = at_now _ _ _ _ _ c.in_ok-inode.ensures.counts.done c.inode_of.ensures.same (λ k r. IsSoundRoot c.args.limits.now k r c.args.file.now) told root in
    at_start _ _ _ _ _ c.in_ok-inode.ensures.counts.done c.inode_of.ensures.same (λ k r. IfOk c.whole_attributes.result (λ a. a ≡ (viewed (image r c.args.file.now)).node c.args.number)) told (c.whole_attributes.ensures.found told sound)

pub returns-then-inode-ne0-clause-unread : goal.returns-then-inode-ne0-clause-unread
returns-then-inode-ne0-clause-unread g c told block is =
    at_start _ _ _ _ _ c.in_ok-inode.ensures.counts.done c.inode_of.ensures.same (λ k r. IsUnreadInode c.args.limits.now k r c.args.file.now c.args.number block) told (c.whole_attributes.ensures.unread told block is)

pub returns-in_err-inode-clause-unread : goal.returns-in_err-inode-clause-unread
returns-in_err-inode-clause-unread g c told block is =
    inl (c.in_err-inode.ensures.unread told block (ap (λ f. Err f) (was_damaged _ _ c.from_residual.ensures.1 is)))

pub returns-clause-found : goal.returns-clause-found
returns-clause-found g c told root =
    let disk = g.D.Device.disk (device_of c.args.blocks.now) in
    let inode = c.in-Some.inode in
    let used = sym (c.in_ok-inode.ensures.inode told) ∙ c.in-Some.is in
    let none : inode.acl_block ≡ 0 = omega (arith, c.if-inode-ne0.false) in
    let valid : IsInode c.args.limits.now inode = subst (λ o. IfSome o (IsInode c.args.limits.now)) c.in-Some.is c.in_ok-inode.ensures.valid in
    ap (λ a. Some a) c.plain_attributes.ensures
    ∙ attributes_are c.args.limits.now _ (reads disk) c.args.file.now (g.met.D.Device.whole (device_of c.args.blocks.now) told) (g.met.D.Device.count (device_of c.args.blocks.now) told) root c.args.number inode used [] valid (no_access (store_on c.args.blocks.now) inode.acl_block none)
