use Rattle.std.proofs.Common.{ℕ, IfOk, sym, subst}
use Rattle.sn_inode.specs.Changes.{acl_pointer, AclsStandAt, HasAclsOf}
use Rattle.sn_inode.specs.Stored.{IsPlaced}
use Rattle.sn_inode.specs.declared.changes.AclChange.{AclChange}
use Rattle.sn_inode.proofs.acl_changes.place_acls.Goals as goal

pub returns-in-Set-clause-placed : goal.returns-in-Set-clause-placed
returns-in-Set-clause-placed c =
    let placed = subst (λ (p : ℕ). IfOk c.replace_acls.result (λ new. IsPlaced (λ s. AclsStandAt s c.in-Set.acls new) p new c.args.build.now c.replace_acls.new.build)) c.acl_pointer.ensures c.replace_acls.ensures.placed in
    subst (λ (change : AclChange). IfOk c.replace_acls.result (λ new. IsPlaced (λ s. HasAclsOf s c.args.old.now c.args.kind change new) (acl_pointer c.args.old.now) new c.args.build.now c.replace_acls.new.build)) (sym c.in-Set.is) placed
