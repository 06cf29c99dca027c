use Rattle.std.proofs.Common.{rules, ◌∙◌}
use Rattle.sn_model.specs.NameCalls.{rename_outcome}
use Rattle.sn_core_decide_rename.proofs.rename.rename.Goals as goal

pub returns-in_err-movable-clause-exact : goal.returns-in_err-movable-clause-exact
unfolding rename_outcome
returns-in_err-movable-clause-exact g c = search rules

pub returns-in_err-movable-2-clause-exact : goal.returns-in_err-movable-2-clause-exact
unfolding rename_outcome
returns-in_err-movable-2-clause-exact g c = search rules

pub returns-in_err-moving-clause-exact : goal.returns-in_err-moving-clause-exact
unfolding rename_outcome
returns-in_err-moving-clause-exact g c = search rules

pub returns-clause-left : goal.returns-clause-left
returns-clause-left g c = (c.moved.ensures.left.0, g.met.V.TreeView.follows_on _ _ _ c.moving_of.ensures.left.1 c.moved.ensures.left.1, λ told. c.moved.ensures.left.2 told ∙ c.moving_of.ensures.left.2 told)
