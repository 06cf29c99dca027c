use Rattle.std.proofs.Common.{◌≡◌, IfOk, IfSome, Some, ap, arith, subst, sym, ◌∙◌}
use Rattle.sn_device.specs.Disk.{reads}
use Rattle.sn_block.specs.Lending.{device_of}
use Rattle.sn_image.specs.Acls.{no_acls}
use Rattle.sn_image.specs.Image.{image}
use Rattle.sn_layout_node.specs.Inode.{IsInode}
use Rattle.sn_overlay.specs.Seen.{seen_node}
use Rattle.sn_rooted.specs.Roots.{IsSoundRoot, store_on}
use Rattle.sn_rooted.proofs.RootLemmas.{at_now, at_start}
use Rattle.sn_rooted_tree.proofs.SeenLemmas.{none_seen, plain_acls, seen_is}
use Rattle.sn_rooted_tree.proofs.seeing.seen_node.Goals as goal

pub returns-in_default-clause-found : goal.returns-in_default-clause-found
returns-in_default-clause-found g c told root =
    none_seen (reads (g.D.Device.disk (device_of c.args.blocks.now))) c.args.file.now c.args.number (sym (c.in_ok-inode.ensures.inode told) ∙ c.in_default.is)

pub returns-then-inode-ne0-clause-found : goal.returns-then-inode-ne0-clause-found
returns-then-inode-ne0-clause-found g c told root =
    let sound = at_now _ _ _ _ _ c.in_ok-inode.ensures.counts.done c.inode_of.ensures.same (λ k r. IsSoundRoot c.args.limits.now k r c.args.file.now) told root in
    at_start _ _ _ _ _ c.in_ok-inode.ensures.counts.done c.inode_of.ensures.same (λ k r. IfOk c.seen_whole.result (λ node. node ≡ seen_node (image r c.args.file.now) c.args.number)) told (c.seen_whole.ensures.found told sound)

pub returns-clause-found : goal.returns-clause-found
returns-clause-found g c told root =
    let disk = g.D.Device.disk (device_of c.args.blocks.now) in
    let inode = c.in-Some.inode in
    let used = sym (c.in_ok-inode.ensures.inode told) ∙ c.in-Some.is in
    let none : inode.acl_block ≡ 0 = omega (arith, c.if-inode-ne0.false) in
    let valid : IsInode c.args.limits.now inode = subst (λ o. IfSome o (IsInode c.args.limits.now)) c.in-Some.is c.in_ok-inode.ensures.valid in
    ap (λ a. Some a) c.seen_plain.ensures
    ∙ seen_is c.args.limits.now _ (reads disk) c.args.file.now (g.met.D.Device.whole (device_of c.args.blocks.now) told) (g.met.D.Device.count (device_of c.args.blocks.now) told) root c.args.number inode used no_acls valid (plain_acls (store_on c.args.blocks.now) inode.acl_block none)
