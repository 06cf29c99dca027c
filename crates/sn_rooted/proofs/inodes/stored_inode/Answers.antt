use Rattle.std.proofs.Common.{Err, Option, inl, inr, sym, ap, subst, ◌∙◌}
use Rattle.std.specs.Prelude.{IsSomeAnd}
use Rattle.sn_device.specs.Disk.{Disk, reads}
use Rattle.sn_block.specs.Lending.{device_of}
use Rattle.sn_ondisk.specs.Trees.{store_of}
use Rattle.sn_image.specs.Acls.{acls_at}
use Rattle.sn_inode.specs.Reads.{CanReadAcls}
use Rattle.sn_inode.specs.Unread.{AreUnreadAcls}
use Rattle.sn_layout_node.specs.declared.inode.Inode.{Inode}
use Rattle.sn_rooted.specs.Roots.{store_on}
use Rattle.sn_rooted.proofs.RootLemmas.{acls_read, at_now, at_start, was_damaged}
use Rattle.sn_rooted.proofs.inodes.stored_inode.Goals as goal

pub returns-in_default-clause-inode : goal.returns-in_default-clause-inode
returns-in_default-clause-inode g c told = sym c.in_default.is ∙ c.in_ok-inode.ensures.inode told

pub returns-in_err-inode-clause-damaged : goal.returns-in_err-inode-clause-damaged
returns-in_err-inode-clause-damaged g c told root block is =
    c.in_err-inode.ensures.damaged told root block (ap (λ f. Err f) (was_damaged _ _ c.from_residual.ensures.1 is))

pub returns-in_err-acls-clause-damaged : goal.returns-in_err-acls-clause-damaged
returns-in_err-acls-clause-damaged g c told root block is =
    let bad = ap (λ f. Err f) (was_damaged _ _ c.from_residual-in_err-acls.ensures.1 is) in
    let disk = g.D.Device.disk (device_of c.args.blocks.now) in
    let used = sym (c.in_ok-inode.ensures.inode told) ∙ c.in-Some.is in
    (c.in_err-acls.ensures.damaged told block bad).0
    (at_now _ _ _ _ _ c.in_ok-inode.ensures.counts.done c.inode_of.ensures.same (λ k r. CanReadAcls k r c.in-Some.inode) told
    (acls_read c.args.limits.now _ (reads disk) c.args.file.now (g.met.D.Device.whole (device_of c.args.blocks.now) told) (g.met.D.Device.count (device_of c.args.blocks.now) told) root c.inode_laws.ensures.acls c.args.number c.in-Some.inode used))

pub returns-clause-inode : goal.returns-clause-inode
returns-clause-inode g c told = sym c.in-Some.is ∙ c.in_ok-inode.ensures.inode told

pub returns-clause-acls : goal.returns-clause-acls
returns-clause-acls g c told =
    c.in_ok-acls.ensures.acls told ∙ ap (λ (d : Disk). acls_at (store_of (reads d)) c.in-Some.inode.acl_block) (c.inode_of.ensures.same told)

pub returns-in_err-inode-clause-unread : goal.returns-in_err-inode-clause-unread
returns-in_err-inode-clause-unread g c told block is =
    inl (c.in_err-inode.ensures.unread told block (ap (λ f. Err f) (was_damaged _ _ c.from_residual.ensures.1 is)))

pub returns-in_err-acls-clause-unread : goal.returns-in_err-acls-clause-unread
returns-in_err-acls-clause-unread g c told block is =
    let bad = c.in_err-acls.ensures.damaged told block (ap (λ f. Err f) (was_damaged _ _ c.from_residual-in_err-acls.ensures.1 is)) in
    let sectors = (g.D.Device.status (device_of c.args.blocks.now)).sectors in
    let used = sym (c.in_ok-inode.ensures.inode told) ∙ c.in-Some.is in
    let now : AreUnreadAcls sectors (store_on c.args.blocks.now) c.in-Some.inode block =
    at_start _ _ _ _ _ c.in_ok-inode.ensures.counts.done c.inode_of.ensures.same (λ k r. AreUnreadAcls k r c.in-Some.inode block) told (record { unread = bad.0; named = bad.1 }) in
    inr (subst (λ (o : Option Inode). IsSomeAnd o (λ inode. AreUnreadAcls sectors (store_on c.args.blocks.now) inode block)) (sym used) now)
