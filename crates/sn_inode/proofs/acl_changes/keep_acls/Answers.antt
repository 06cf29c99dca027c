use Rattle.sn_inode.proofs.PlacedLemmas.{kept_stays, kept_leaves}
use Rattle.sn_inode.proofs.acl_changes.keep_acls.Goals as goal

pub returns-then-kept-pointer-clause-placed : goal.returns-then-kept-pointer-clause-placed
returns-then-kept-pointer-clause-placed c =
    kept_stays c.args.old.now c.args.kind c.kept_pointer-kept.result c.acl_pointer-pointer.result c.kept_pointer-kept.ensures c.acl_pointer-pointer.ensures c.args.build.now c.if-kept-pointer.true

pub returns-clause-placed : goal.returns-clause-placed
returns-clause-placed c =
    kept_leaves c.args.old.now c.args.kind c.kept_pointer-kept.result c.acl_pointer-pointer.result c.kept_pointer-kept.ensures c.acl_pointer-pointer.ensures c.args.build.now c.release.new.self c.if-kept-pointer.false c.in_ok-release.ensures.ok
