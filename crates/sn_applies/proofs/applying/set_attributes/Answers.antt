use Rattle.std.proofs.Common.{sym, ◌∙◌}
use Rattle.sn_applies.proofs.ContentLemmas.{owned_none, owned_some}
use Rattle.sn_applies.proofs.applying.set_attributes.Goals as goal

pub returns-in-Some-clause-found : goal.returns-in-Some-clause-found
returns-in-Some-clause-found g c told =
    c.is_ownership.ensures ∙ owned_some (g.T.Below.shows c.args.tree.now) c.args.number c.args.ownership.now c.in-Some.standing (sym (c.in_ok-standing.ensures.found told) ∙ c.in-Some.is)

pub returns-in-None-clause-found : goal.returns-in-None-clause-found
returns-in-None-clause-found g c told =
    owned_none (g.T.Below.shows c.args.tree.now) c.args.number c.args.ownership.now (sym (c.in_ok-standing.ensures.found told) ∙ c.in-None.is)
