use Rattle.sn_inode.proofs.AclLemmas.{spelled_acls, held, not_held}
use Rattle.sn_inode.proofs.acl_blocks.decoded.Goals as goal

pub returns-then-not-can_have-clause-damaged : goal.returns-then-not-can_have-clause-damaged
returns-then-not-can_have-clause-damaged c = (
  c.at.ensures,
  not_held c.args.kind c.args.block.now c.in-Some.acls c.in-Some.ensures.found.0 c.in-Some.ensures.found.1
      (λ allowed. absurd (cc (c.can_have.ensures.1 allowed, c.if-not-can_have.true))),
)

pub returns-else-not-can_have-clause-acls : goal.returns-else-not-can_have-clause-acls
returns-else-not-can_have-clause-acls c = spelled_acls c.args.kind c.args.block.now c.in-Some.acls c.in-Some.ensures.found.0 c.in-Some.ensures.found.1

pub returns-else-not-can_have-clause-spelled : goal.returns-else-not-can_have-clause-spelled
returns-else-not-can_have-clause-spelled c =
    held c.args.kind c.args.block.now c.in-Some.acls c.in-Some.ensures.found.0 c.in-Some.ensures.found.1 (c.can_have.ensures.0 c.if-not-can_have.false)
