use Rattle.std.proofs.Common.{◌≡◌, Bool, IfOk, sym, ap, subst, ◌∙◌}
use Rattle.sn_model.specs.Tree.{Tree, link_to}
use Rattle.sn_applies.specs.Tests.{can_get}
use Rattle.sn_applies.proofs.TestLemmas.{made_free, made_taken, made_unowned}
use Rattle.sn_applies.proofs.naming.make.Goals as goal

pub returns-then-not-is_ownership-clause-found : goal.returns-then-not-is_ownership-clause-found
returns-then-not-is_ownership-clause-found g c told h =
    made_unowned c.args.limits.now (g.T.Below.shows c.args.tree.now) (link_to c.args.directory c.args.name.now) c.args.number c.args.kind c.args.ownership.now h (sym c.is_ownership.ensures ∙ c.if-not-is_ownership.true)

pub returns-then-not-is_free-clause-found : goal.returns-then-not-is_free-clause-found
returns-then-not-is_free-clause-found g c told h =
    made_taken c.args.limits.now (g.T.Below.shows c.args.tree.now) (link_to c.args.directory c.args.name.now) c.args.number c.args.kind c.args.ownership.now h (sym (c.in_ok-is_free.ensures.found told) ∙ c.if-not-is_free.true)

pub returns-clause-found : goal.returns-clause-found
returns-clause-found g c told h =
    let tree = g.T.Below.shows c.args.tree.now in
    let link = link_to c.args.directory c.args.name.now in
    subst (λ (can : Bool). IfOk c.can_get.result (λ b. b ≡ can))
    (ap (λ (t : Tree). can_get c.args.limits.now t link 0) (c.in_ok-is_free.ensures.left.2 told)
    ∙ made_free c.args.limits.now tree link c.args.number c.args.kind c.args.ownership.now h (sym c.is_ownership.ensures ∙ c.if-not-is_ownership.false) (sym (c.in_ok-is_free.ensures.found told) ∙ c.if-not-is_free.false))
    (c.can_get.ensures.found told)
