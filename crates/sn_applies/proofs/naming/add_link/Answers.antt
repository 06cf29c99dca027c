use Rattle.std.proofs.Common.{◌≡◌, Bool, IfOk, sym, ap, subst, ◌∙◌}
use Rattle.sn_model.specs.Tree.{Tree, link_to}
use Rattle.sn_applies.specs.Tests.{can_get}
use Rattle.sn_applies.proofs.TestLemmas.{linked_none, linked_some}
use Rattle.sn_applies.proofs.naming.add_link.Goals as goal

pub returns-in_default-clause-found : goal.returns-in_default-clause-found
returns-in_default-clause-found g c told =
    linked_none c.args.limits.now (g.T.Below.shows c.args.tree.now) (link_to c.args.directory c.args.name.now) c.args.number (sym (c.in_ok-links.ensures.found told) ∙ c.in_default.is)

pub returns-clause-found : goal.returns-clause-found
returns-clause-found g c told =
    let tree = g.T.Below.shows c.args.tree.now in
    let link = link_to c.args.directory c.args.name.now in
    subst (λ (can : Bool). IfOk c.can_get.result (λ b. b ≡ can))
    (ap (λ (t : Tree). can_get c.args.limits.now t link c.in-Some.links) (c.in_ok-links.ensures.left.2 told) ∙ linked_some c.args.limits.now tree link c.args.number c.in-Some.links (sym (c.in_ok-links.ensures.found told) ∙ c.in-Some.is))
    (c.can_get.ensures.found told)
