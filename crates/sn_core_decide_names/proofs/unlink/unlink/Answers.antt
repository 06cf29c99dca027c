use Rattle.std.proofs.Common.{rules, ◌∙◌}
use Rattle.sn_model.specs.FileCalls.{unlink_outcome}
use Rattle.sn_core_decide_names.proofs.unlink.unlink.Goals as goal

pub returns-in_err-walked-clause-exact : goal.returns-in_err-walked-clause-exact
unfolding unlink_outcome
returns-in_err-walked-clause-exact g c = search rules

pub returns-in_err-found-clause-exact : goal.returns-in_err-found-clause-exact
unfolding unlink_outcome
returns-in_err-found-clause-exact g c = search rules

pub returns-in_err-no_directory-clause-exact : goal.returns-in_err-no_directory-clause-exact
unfolding unlink_outcome
returns-in_err-no_directory-clause-exact g c = search rules

pub returns-in_err-live-clause-exact : goal.returns-in_err-live-clause-exact
unfolding unlink_outcome
returns-in_err-live-clause-exact g c = search rules

pub returns-in_err-parent-clause-exact : goal.returns-in_err-parent-clause-exact
unfolding unlink_outcome
returns-in_err-parent-clause-exact g c = search rules

pub returns-in_err-found-clause-left : goal.returns-in_err-found-clause-left
returns-in_err-found-clause-left g c = (c.there.ensures.left.0, g.met.V.TreeView.follows_on _ _ _ c.prefix.ensures.left.1 c.there.ensures.left.1, λ told. c.there.ensures.left.2 told ∙ c.prefix.ensures.left.2 told)

pub returns-in_err-no_directory-clause-left : goal.returns-in_err-no_directory-clause-left
returns-in_err-no_directory-clause-left g c = (c.there.ensures.left.0, g.met.V.TreeView.follows_on _ _ _ c.prefix.ensures.left.1 c.there.ensures.left.1, λ told. c.there.ensures.left.2 told ∙ c.prefix.ensures.left.2 told)

pub returns-in_err-live-clause-left : goal.returns-in_err-live-clause-left
returns-in_err-live-clause-left g c = (c.there.ensures.left.0, g.met.V.TreeView.follows_on _ _ _ c.prefix.ensures.left.1 c.there.ensures.left.1, λ told. c.there.ensures.left.2 told ∙ c.prefix.ensures.left.2 told)

pub returns-in_err-parent-clause-left : goal.returns-in_err-parent-clause-left
returns-in_err-parent-clause-left g c = (c.there.ensures.left.0, g.met.V.TreeView.follows_on _ _ _ c.prefix.ensures.left.1 c.there.ensures.left.1, λ told. c.there.ensures.left.2 told ∙ c.prefix.ensures.left.2 told)

pub returns-clause-left : goal.returns-clause-left
returns-clause-left g c = (c.unlink_in.ensures.left.0, g.met.V.TreeView.follows_on _ _ _ (g.met.V.TreeView.follows_on _ _ _ c.prefix.ensures.left.1 c.there.ensures.left.1) c.unlink_in.ensures.left.1, λ told. c.unlink_in.ensures.left.2 told ∙ c.there.ensures.left.2 told ∙ c.prefix.ensures.left.2 told)
