use Rattle.std.proofs.Common.{◌≡◌, IfSome, subst, sym, ap, ◌∙◌}
use Rattle.std.specs.Option.{option_map}
use Rattle.sn_image.specs.Acls.{acls_at}
use Rattle.sn_rooted.specs.Roots.{store_on}
use Rattle.sn_rooted.specs.declared.inodes.StoredInode.{StoredInode}
use Rattle.sn_rooted.proofs.RootLemmas.{default_is, no_default}
use Rattle.sn_rooted.proofs.nodes.default_acl.Goals as goal

pub returns-in-None-clause-found : goal.returns-in-None-clause-found
returns-in-None-clause-found g c told =
    no_default (store_on c.args.blocks.now) c.args.file.now c.args.number (sym (c.in_ok-stored.ensures.inode told) ∙ ap (option_map (λ (stored : StoredInode). stored.inode)) c.in-None.is)

pub returns-in-Some-clause-found : goal.returns-in-Some-clause-found
returns-in-Some-clause-found g c told =
    let stored = c.in-Some.stored in
    let read = subst (λ o. IfSome o (λ (x : StoredInode). x.acls ≡ acls_at (store_on c.args.blocks.now) x.inode.acl_block)) c.in-Some.is (c.in_ok-stored.ensures.acls told) in
    default_is (store_on c.args.blocks.now) c.args.file.now c.args.number stored.inode stored.acls (sym (c.in_ok-stored.ensures.inode told) ∙ ap (option_map (λ (x : StoredInode). x.inode)) c.in-Some.is) read
