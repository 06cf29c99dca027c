use Rattle.std.proofs.Common.{sym, ap, ◌∙◌}
use Rattle.sn_acl.specs.Access.{is_within}
use Rattle.sn_acl.proofs.Classes.{denied-by_first, denied-by_mask, granted}
use Rattle.sn_acl.proofs.access.check.Goals as goal
use Rattle.sn_acl.proofs.access.check.Goals.{in_default-via-in-Some+else-not-contains, in_default-via-in_default}

pub returns-then-not-grants : goal.returns-then-not-grants
returns-then-not-grants c =
    rw (← c.entries-entries.ensures.value)
    (denied-by_first c.args.cred.now c.args.owner c.args.group c.entries-entries.result.now c.args.want c.class_for-class.result
    (λ root. c.if-uid-eq0.false (c.uid.ensures ∙ root)) c.class_for-class.ensures
    c.first.result c.unwrap_or_default.result
    (sym c.grants.ensures ∙ c.if-not-grants.true) c.first.ensures c.unwrap_or_default.ensures)

pub returns-in-Some : goal.returns-in-Some
returns-in-Some c =
    rw (← c.entries-entries.ensures.value)
    (sym c.in-Some.is ∙ denied-by_mask c.args.cred.now c.args.owner c.args.group c.entries-entries.result.now c.args.want c.class_for-class.result
    (λ root. c.if-uid-eq0.false (c.uid.ensures ∙ root)) c.class_for-class.ensures
    c.limit.result
    (sym c.grants.ensures ∙ c.if-not-grants.false) (rw (← c.entries-entries.ensures.value) at c.limit.ensures)
    (ap (is_within c.args.want) c.in-Some.is ∙ sym c.contains.ensures ∙ c.if-not-contains.true))

pub returns-in_default : goal.returns-in_default
returns-in_default c =
    rw (← c.entries-entries.ensures.value)
    (granted c.args.cred.now c.args.owner c.args.group c.entries-entries.result.now c.args.want c.class_for-class.result
    (λ root. c.if-uid-eq0.false (c.uid.ensures ∙ root)) c.class_for-class.ensures
    c.limit.result
    (sym c.grants.ensures ∙ c.if-not-grants.false) (rw (← c.entries-entries.ensures.value) at c.limit.ensures)
    (elim c.in_default.branch [
      | in_default-via-in-Some+else-not-contains w ↦
          ap (is_within c.args.want) w.in-Some.is ∙ sym w.contains.ensures ∙ w.if-not-contains.false
      | in_default-via-in_default w ↦ ap (is_within c.args.want) w.in_default.is
    ]))
