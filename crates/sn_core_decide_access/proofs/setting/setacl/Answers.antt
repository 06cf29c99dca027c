use Rattle.std.proofs.Common.{rules, ◌∙◌}
use Rattle.sn_model.specs.AccessCalls.{setacl_outcome}
use Rattle.sn_core_decide_access.proofs.setting.setacl.Goals as goal

pub returns-in_err-found-clause-exact : goal.returns-in_err-found-clause-exact
unfolding setacl_outcome
returns-in_err-found-clause-exact g c = search rules

pub returns-in_err-has_acl-clause-exact : goal.returns-in_err-has_acl-clause-exact
unfolding setacl_outcome
returns-in_err-has_acl-clause-exact g c = search rules

pub returns-in_err-number-clause-exact : goal.returns-in_err-number-clause-exact
unfolding setacl_outcome
returns-in_err-number-clause-exact g c = search rules

pub returns-in_err-by_owner-clause-exact : goal.returns-in_err-by_owner-clause-exact
unfolding setacl_outcome
returns-in_err-by_owner-clause-exact g c = search rules

pub returns-in-Err-clause-exact : goal.returns-in-Err-clause-exact
unfolding setacl_outcome
returns-in-Err-clause-exact g c = search rules

pub returns-clause-exact : goal.returns-clause-exact
unfolding setacl_outcome
returns-clause-exact g c = search rules

pub returns-in-Err-clause-left : goal.returns-in-Err-clause-left
returns-in-Err-clause-left g c = (c.ownership_at.ensures.left.0, g.met.V.TreeView.follows_on _ _ _ c.full.ensures.left.1 c.ownership_at.ensures.left.1, λ told. c.ownership_at.ensures.left.2 told ∙ c.full.ensures.left.2 told)

pub returns-clause-left : goal.returns-clause-left
returns-clause-left g c = (c.ownership_at.ensures.left.0, g.met.V.TreeView.follows_on _ _ _ c.full.ensures.left.1 c.ownership_at.ensures.left.1, λ told. c.ownership_at.ensures.left.2 told ∙ c.full.ensures.left.2 told)
