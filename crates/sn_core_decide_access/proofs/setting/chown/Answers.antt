use Rattle.std.proofs.Common.{rules, ◌∙◌}
use Rattle.sn_model.specs.AccessCalls.{chown_outcome}
use Rattle.sn_core_decide_access.proofs.setting.chown.Goals as goal

pub returns-in_err-found-clause-exact : goal.returns-in_err-found-clause-exact
unfolding chown_outcome
returns-in_err-found-clause-exact g c = search rules

pub returns-in_err-number-clause-exact : goal.returns-in_err-number-clause-exact
unfolding chown_outcome
returns-in_err-number-clause-exact g c = search rules

pub returns-in_err-by_owner-clause-exact : goal.returns-in_err-by_owner-clause-exact
unfolding chown_outcome
returns-in_err-by_owner-clause-exact g c = search rules

pub returns-in_err-to_owner-clause-exact : goal.returns-in_err-to_owner-clause-exact
unfolding chown_outcome
returns-in_err-to_owner-clause-exact g c = search rules

pub returns-in_err-to_group-clause-exact : goal.returns-in_err-to_group-clause-exact
unfolding chown_outcome
returns-in_err-to_group-clause-exact g c = search rules

pub returns-in-Err-clause-exact : goal.returns-in-Err-clause-exact
unfolding chown_outcome
returns-in-Err-clause-exact g c = search rules

pub returns-clause-exact : goal.returns-clause-exact
unfolding chown_outcome
returns-clause-exact g c = search rules

pub returns-in-Err-clause-left : goal.returns-in-Err-clause-left
returns-in-Err-clause-left g c = (c.ownership_at.ensures.left.0, g.met.V.TreeView.follows_on _ _ _ c.full.ensures.left.1 c.ownership_at.ensures.left.1, λ told. c.ownership_at.ensures.left.2 told ∙ c.full.ensures.left.2 told)

pub returns-clause-left : goal.returns-clause-left
returns-clause-left g c = (c.ownership_at.ensures.left.0, g.met.V.TreeView.follows_on _ _ _ c.full.ensures.left.1 c.ownership_at.ensures.left.1, λ told. c.ownership_at.ensures.left.2 told ∙ c.full.ensures.left.2 told)
