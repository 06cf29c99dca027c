use Rattle.std.proofs.Common.{◌≡◌, IfSome, Some, subst, sym, ap, ◌∙◌}
use Rattle.std.specs.Option.{option_map}
use Rattle.sn_device.specs.Disk.{reads}
use Rattle.sn_block.specs.Lending.{device_of}
use Rattle.sn_image.specs.Acls.{acls_at}
use Rattle.sn_layout_acl.specs.declared.acl_block.AclBlock.{AclBlock}
use Rattle.sn_layout_node.specs.Inode.{IsInode}
use Rattle.sn_rooted.specs.Roots.{store_on}
use Rattle.sn_rooted.specs.declared.inodes.StoredInode.{StoredInode}
use Rattle.sn_rooted.proofs.RootLemmas.{attributes_are, nothing_shown}
use Rattle.sn_rooted.proofs.nodes.whole_attributes.Goals as goal

pub returns-in-None-clause-found : goal.returns-in-None-clause-found
returns-in-None-clause-found g c told root =
    nothing_shown (store_on c.args.blocks.now) c.args.file.now c.args.number (sym (c.in_ok-stored.ensures.inode told) ∙ ap (option_map (λ (stored : StoredInode). stored.inode)) c.in-None.is)

pub returns-in-Some-clause-found : goal.returns-in-Some-clause-found
returns-in-Some-clause-found g c told root =
    let disk = g.D.Device.disk (device_of c.args.blocks.now) in
    let stored = c.in-Some.stored in
    let used = sym (c.in_ok-stored.ensures.inode told) ∙ ap (option_map (λ (stored : StoredInode). stored.inode)) c.in-Some.is in
    let valid : IsInode c.args.limits.now stored.inode = subst (λ o. IfSome o (λ (x : StoredInode). IsInode c.args.limits.now x.inode)) c.in-Some.is c.in_ok-stored.ensures.valid in
    let read = subst (λ o. IfSome o (λ (x : StoredInode). x.acls ≡ acls_at (store_on c.args.blocks.now) x.inode.acl_block)) c.in-Some.is (c.in_ok-stored.ensures.acls told) in
    ap (λ a. Some a) c.attributes_in.ensures
    ∙ attributes_are c.args.limits.now _ (reads disk) c.args.file.now (g.met.D.Device.whole (device_of c.args.blocks.now) told) (g.met.D.Device.count (device_of c.args.blocks.now) told) root c.args.number stored.inode used stored.acls.access valid (ap (λ (a : AclBlock). a.access) read)
