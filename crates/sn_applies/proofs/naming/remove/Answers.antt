use Rattle.std.proofs.Common.{◌≡◌, Bool, IfOk, is_some, sym, ap, subst, ◌∙◌}
use Rattle.sn_model.specs.Tree.{Tree, link_to}
use Rattle.sn_applies.specs.Tests.{losing}
use Rattle.sn_applies.proofs.TestLemmas.{removed_none, removed_some}
use Rattle.sn_applies.proofs.naming.remove.Goals as goal

pub returns-in_default-clause-found : goal.returns-in_default-clause-found
returns-in_default-clause-found g c told =
    removed_none (g.T.Below.shows c.args.tree.now) (link_to c.args.directory c.args.name.now) (sym (c.in_ok-number.ensures.found told) ∙ c.in_default.is)

pub returns-clause-found : goal.returns-clause-found
returns-clause-found g c told =
    let tree = g.T.Below.shows c.args.tree.now in
    subst (λ (can : Bool). IfOk c.can_lose.result (λ b. b ≡ can))
    (ap (λ (t : Tree). is_some (losing t c.in-Some.number)) (c.in_ok-number.ensures.left.2 told)
    ∙ removed_some tree (link_to c.args.directory c.args.name.now) c.in-Some.number (sym (c.in_ok-number.ensures.found told) ∙ c.in-Some.is))
    (c.can_lose.ensures.found told)
