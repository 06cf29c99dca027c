use Rattle.std.proofs.Common.{rules, ◌∙◌}
use Rattle.sn_model.specs.NameCalls.{moved_outcome}
use Rattle.sn_core_decide_rename.proofs.rename.moved.Goals as goal

pub returns-in_err-not_below-clause-exact : goal.returns-in_err-not_below-clause-exact
unfolding moved_outcome
returns-in_err-not_below-clause-exact g c = search rules

pub returns-in_err-from-clause-exact : goal.returns-in_err-from-clause-exact
unfolding moved_outcome
returns-in_err-from-clause-exact g c = search rules

pub returns-in_err-to-clause-exact : goal.returns-in_err-to-clause-exact
unfolding moved_outcome
returns-in_err-to-clause-exact g c = search rules

pub returns-in_err-from-clause-left : goal.returns-in_err-from-clause-left
returns-in_err-from-clause-left g c = (c.writable_parent.ensures.left.0, g.met.V.TreeView.follows_on _ _ _ c.not_below.ensures.left.1 c.writable_parent.ensures.left.1, λ told. c.writable_parent.ensures.left.2 told ∙ c.not_below.ensures.left.2 told)

pub returns-in_err-to-clause-left : goal.returns-in_err-to-clause-left
returns-in_err-to-clause-left g c = (c.writable_parent-2.ensures.left.0, g.met.V.TreeView.follows_on _ _ _ (g.met.V.TreeView.follows_on _ _ _ c.not_below.ensures.left.1 c.writable_parent.ensures.left.1) c.writable_parent-2.ensures.left.1, λ told. c.writable_parent-2.ensures.left.2 told ∙ c.writable_parent.ensures.left.2 told ∙ c.not_below.ensures.left.2 told)

pub returns-clause-left : goal.returns-clause-left
returns-clause-left g c = (c.moved_in.ensures.left.0, g.met.V.TreeView.follows_on _ _ _ (g.met.V.TreeView.follows_on _ _ _ (g.met.V.TreeView.follows_on _ _ _ c.not_below.ensures.left.1 c.writable_parent.ensures.left.1) c.writable_parent-2.ensures.left.1) c.moved_in.ensures.left.1, λ told. c.moved_in.ensures.left.2 told ∙ c.writable_parent-2.ensures.left.2 told ∙ c.writable_parent.ensures.left.2 told ∙ c.not_below.ensures.left.2 told)
