use Rattle.std.proofs.Common.{◌≡◌, Bool, IfOk, sym, ap, subst, ◌∙◌}
use Rattle.std.specs.FinMap as map
use Rattle.sn_model.specs.Tree.{Tree, link_to}
use Rattle.sn_applies.specs.Tests.{can_move}
use Rattle.sn_applies.proofs.MoveLemmas.{renamed_nothing, renamed_other, renamed_same}
use Rattle.sn_applies.proofs.moving.move_number.Goals as goal

pub returns-in_default-clause-found : goal.returns-in_default-clause-found
returns-in_default-clause-found g c told h old_name named =
    renamed_nothing c.args.limits.now (g.T.Below.shows c.args.tree.now) (link_to c.args.from old_name) (link_to c.args.to c.args.name.now) c.args.number named (sym (c.in_ok-standing.ensures.found told) ∙ c.in_default.is)

pub returns-then-eq-clause-found : goal.returns-then-eq-clause-found
returns-then-eq-clause-found g c told h old_name named =
    let tree = g.T.Below.shows c.args.tree.now in
    let new = link_to c.args.to c.args.name.now in
    let there = sym (c.in_ok-target.ensures.found told ∙ ap (λ (t : Tree). map.get t.links new) (c.in_ok-standing.ensures.left.2 told)) in
    renamed_same c.args.limits.now tree (link_to c.args.from old_name) new c.args.number named c.in-Some.standing c.in_ok-target.target (sym (c.in_ok-standing.ensures.found told) ∙ c.in-Some.is) there (sym c.eq.ensures ∙ c.if-eq.true)

pub returns-clause-found : goal.returns-clause-found
returns-clause-found g c told h old_name named =
    let tree = g.T.Below.shows c.args.tree.now in
    let new = link_to c.args.to c.args.name.now in
    let there = sym (c.in_ok-target.ensures.found told ∙ ap (λ (t : Tree). map.get t.links new) (c.in_ok-standing.ensures.left.2 told)) in
    subst (λ (can : Bool). IfOk c.can_move.result (λ b. b ≡ can))
    (ap (λ (t : Tree). can_move c.args.limits.now t c.args.from new c.args.number c.in-Some.standing c.in_ok-target.target) (c.in_ok-target.ensures.left.2 told ∙ c.in_ok-standing.ensures.left.2 told)
    ∙ renamed_other c.args.limits.now tree (link_to c.args.from old_name) new c.args.number named c.in-Some.standing c.in_ok-target.target (sym (c.in_ok-standing.ensures.found told) ∙ c.in-Some.is) there h (sym c.eq.ensures ∙ c.if-eq.false))
    (c.can_move.ensures.found told)
