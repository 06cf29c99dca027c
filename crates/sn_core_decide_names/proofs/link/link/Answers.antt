use Rattle.std.proofs.Common.{rules, ◌∙◌}
use Rattle.sn_model.specs.NameCalls.{link_outcome}
use Rattle.sn_core_decide_names.proofs.link.link.Goals as goal

pub returns-in_err-found-clause-exact : goal.returns-in_err-found-clause-exact
unfolding link_outcome
returns-in_err-found-clause-exact g c = search rules

pub returns-in_err-no_directory-clause-exact : goal.returns-in_err-no_directory-clause-exact
unfolding link_outcome
returns-in_err-no_directory-clause-exact g c = search rules

pub returns-in_err-walked-clause-exact : goal.returns-in_err-walked-clause-exact
unfolding link_outcome
returns-in_err-walked-clause-exact g c = search rules

pub returns-in_err-one_tree-clause-exact : goal.returns-in_err-one_tree-clause-exact
unfolding link_outcome
returns-in_err-one_tree-clause-exact g c = search rules

pub returns-in_err-number-clause-exact : goal.returns-in_err-number-clause-exact
unfolding link_outcome
returns-in_err-number-clause-exact g c = search rules

pub returns-in_err-parent-clause-exact : goal.returns-in_err-parent-clause-exact
unfolding link_outcome
returns-in_err-parent-clause-exact g c = search rules

pub returns-in_err-one_tree-clause-left : goal.returns-in_err-one_tree-clause-left
returns-in_err-one_tree-clause-left g c = (c.prefix.ensures.left.0, g.met.V.TreeView.follows_on _ _ _ c.full.ensures.left.1 c.prefix.ensures.left.1, λ told. c.prefix.ensures.left.2 told ∙ c.full.ensures.left.2 told)

pub returns-in_err-number-clause-left : goal.returns-in_err-number-clause-left
returns-in_err-number-clause-left g c = (c.prefix.ensures.left.0, g.met.V.TreeView.follows_on _ _ _ c.full.ensures.left.1 c.prefix.ensures.left.1, λ told. c.prefix.ensures.left.2 told ∙ c.full.ensures.left.2 told)

pub returns-in_err-parent-clause-left : goal.returns-in_err-parent-clause-left
returns-in_err-parent-clause-left g c = (c.prefix.ensures.left.0, g.met.V.TreeView.follows_on _ _ _ c.full.ensures.left.1 c.prefix.ensures.left.1, λ told. c.prefix.ensures.left.2 told ∙ c.full.ensures.left.2 told)

pub returns-clause-left : goal.returns-clause-left
returns-clause-left g c = (c.link_in.ensures.left.0, g.met.V.TreeView.follows_on _ _ _ (g.met.V.TreeView.follows_on _ _ _ c.full.ensures.left.1 c.prefix.ensures.left.1) c.link_in.ensures.left.1, λ told. c.link_in.ensures.left.2 told ∙ c.prefix.ensures.left.2 told ∙ c.full.ensures.left.2 told)
