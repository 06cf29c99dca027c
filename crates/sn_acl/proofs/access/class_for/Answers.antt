use Rattle.std.proofs.Common.{arith, sym, ◌∙◌}
use Rattle.sn_acl.proofs.Classes.{for-owner, for-user, for-groups, for-others}
use Rattle.sn_acl.proofs.access.class_for.Goals as goal

pub returns-then-uid-owner : goal.returns-then-uid-owner
returns-then-uid-owner c =
    for-owner c.args.cred.now c.args.owner c.args.group c.args.entries.now
    (sym c.uid-2.ensures ∙ c.if-uid-owner.true) (omega (arith, c.requires.objects.user_obj))

pub returns-then-is_in : goal.returns-then-is_in
returns-then-is_in c =
    rw c.uid.ensures
    (for-user c.args.cred.now c.args.owner c.args.group c.args.entries.now
    (λ same. c.if-uid-owner.false (c.uid-2.ensures ∙ same))
    (rw c.uid.ensures at (sym c.is_in.ensures ∙ c.if-is_in.true)))

pub returns-then-is_in-2 : goal.returns-then-is_in-2
returns-then-is_in-2 c =
    for-groups c.args.cred.now c.args.owner c.args.group c.args.entries.now
    (λ same. c.if-uid-owner.false (c.uid-2.ensures ∙ same))
    (rw c.uid.ensures at (sym c.is_in.ensures ∙ c.if-is_in.false))
    (sym c.is_in-else-is_in.ensures ∙ c.if-is_in-2.true)

pub returns-else-is_in-2 : goal.returns-else-is_in-2
returns-else-is_in-2 c =
    for-others c.args.cred.now c.args.owner c.args.group c.args.entries.now
    (λ same. c.if-uid-owner.false (c.uid-2.ensures ∙ same))
    (rw c.uid.ensures at (sym c.is_in.ensures ∙ c.if-is_in.false))
    (sym c.is_in-else-is_in.ensures ∙ c.if-is_in-2.false)
