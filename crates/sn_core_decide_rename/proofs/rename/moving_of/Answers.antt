use Rattle.std.proofs.Common.{rules, ◌∙◌}
use Rattle.sn_model.specs.NameCalls.{moving_of}
use Rattle.sn_core_decide_rename.proofs.rename.moving_of.Goals as goal

pub returns-in_err-walked-clause-exact : goal.returns-in_err-walked-clause-exact
unfolding moving_of
returns-in_err-walked-clause-exact g c = search rules

pub returns-in_err-found-clause-exact : goal.returns-in_err-found-clause-exact
unfolding moving_of
returns-in_err-found-clause-exact g c = search rules

pub returns-in_err-old_directory-clause-exact : goal.returns-in_err-old_directory-clause-exact
unfolding moving_of
returns-in_err-old_directory-clause-exact g c = search rules

pub returns-in_err-new_directory-clause-exact : goal.returns-in_err-new_directory-clause-exact
unfolding moving_of
returns-in_err-new_directory-clause-exact g c = search rules

pub returns-clause-exact : goal.returns-clause-exact
unfolding moving_of
returns-clause-exact g c = search rules

pub returns-in_err-found-clause-left : goal.returns-in_err-found-clause-left
returns-in_err-found-clause-left g c = (c.there.ensures.left.0, g.met.V.TreeView.follows_on _ _ _ c.prefix.ensures.left.1 c.there.ensures.left.1, λ told. c.there.ensures.left.2 told ∙ c.prefix.ensures.left.2 told)

pub returns-in_err-old_directory-clause-left : goal.returns-in_err-old_directory-clause-left
returns-in_err-old_directory-clause-left g c = (c.there.ensures.left.0, g.met.V.TreeView.follows_on _ _ _ c.prefix.ensures.left.1 c.there.ensures.left.1, λ told. c.there.ensures.left.2 told ∙ c.prefix.ensures.left.2 told)

pub returns-in_err-new_directory-clause-left : goal.returns-in_err-new_directory-clause-left
returns-in_err-new_directory-clause-left g c = (c.moving_to.ensures.left.0, g.met.V.TreeView.follows_on _ _ _ (g.met.V.TreeView.follows_on _ _ _ c.prefix.ensures.left.1 c.there.ensures.left.1) c.moving_to.ensures.left.1, λ told. c.moving_to.ensures.left.2 told ∙ c.there.ensures.left.2 told ∙ c.prefix.ensures.left.2 told)

pub returns-clause-left : goal.returns-clause-left
returns-clause-left g c = (c.moving_to.ensures.left.0, g.met.V.TreeView.follows_on _ _ _ (g.met.V.TreeView.follows_on _ _ _ c.prefix.ensures.left.1 c.there.ensures.left.1) c.moving_to.ensures.left.1, λ told. c.moving_to.ensures.left.2 told ∙ c.there.ensures.left.2 told ∙ c.prefix.ensures.left.2 told)
