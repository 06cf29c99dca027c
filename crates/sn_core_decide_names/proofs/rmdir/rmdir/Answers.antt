use Rattle.std.proofs.Common.{rules, ◌∙◌}
use Rattle.sn_model.specs.NameCalls.{rmdir_outcome}
use Rattle.sn_core_decide_names.proofs.rmdir.rmdir.Goals as goal

pub returns-in_err-walked-clause-exact : goal.returns-in_err-walked-clause-exact
unfolding rmdir_outcome
returns-in_err-walked-clause-exact g c = search rules

pub returns-in_err-parent-clause-exact : goal.returns-in_err-parent-clause-exact
unfolding rmdir_outcome
returns-in_err-parent-clause-exact g c = search rules

pub returns-in_err-found-clause-exact : goal.returns-in_err-found-clause-exact
unfolding rmdir_outcome
returns-in_err-found-clause-exact g c = search rules

pub returns-in_err-is_listable-clause-exact : goal.returns-in_err-is_listable-clause-exact
unfolding rmdir_outcome
returns-in_err-is_listable-clause-exact g c = search rules

pub returns-in_err-found-clause-left : goal.returns-in_err-found-clause-left
returns-in_err-found-clause-left g c = (c.there.ensures.left.0, g.met.V.TreeView.follows_on _ _ _ c.prefix.ensures.left.1 c.there.ensures.left.1, λ told. c.there.ensures.left.2 told ∙ c.prefix.ensures.left.2 told)

pub returns-in_err-is_listable-clause-left : goal.returns-in_err-is_listable-clause-left
returns-in_err-is_listable-clause-left g c = (c.there.ensures.left.0, g.met.V.TreeView.follows_on _ _ _ c.prefix.ensures.left.1 c.there.ensures.left.1, λ told. c.there.ensures.left.2 told ∙ c.prefix.ensures.left.2 told)

pub returns-clause-left : goal.returns-clause-left
returns-clause-left g c = (c.rmdir_in.ensures.left.0, g.met.V.TreeView.follows_on _ _ _ (g.met.V.TreeView.follows_on _ _ _ c.prefix.ensures.left.1 c.there.ensures.left.1) c.rmdir_in.ensures.left.1, λ told. c.rmdir_in.ensures.left.2 told ∙ c.there.ensures.left.2 told ∙ c.prefix.ensures.left.2 told)
