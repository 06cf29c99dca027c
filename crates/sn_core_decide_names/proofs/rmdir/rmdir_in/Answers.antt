use Rattle.std.proofs.Common.{rules, ◌∙◌}
use Rattle.sn_core_decide_names.proofs.rmdir.rmdir_in.Goals as goal

pub returns-in_err-number-clause-exact : goal.returns-in_err-number-clause-exact
returns-in_err-number-clause-exact g c = search rules

pub returns-in_err-attributes-clause-exact : goal.returns-in_err-attributes-clause-exact
returns-in_err-attributes-clause-exact g c = search rules

pub returns-in_err-sticky-clause-exact : goal.returns-in_err-sticky-clause-exact
returns-in_err-sticky-clause-exact g c = search rules

pub returns-clause-exact : goal.returns-clause-exact
returns-clause-exact g c = search rules

pub returns-in_err-empty-clause-left : goal.returns-in_err-empty-clause-left
returns-in_err-empty-clause-left g c = (c.empty.ensures.left.0, g.met.V.TreeView.follows_on _ _ _ c.writable_parent.ensures.left.1 c.empty.ensures.left.1, λ told. c.empty.ensures.left.2 told ∙ c.writable_parent.ensures.left.2 told)

pub returns-clause-left : goal.returns-clause-left
returns-clause-left g c = (c.empty.ensures.left.0, g.met.V.TreeView.follows_on _ _ _ c.writable_parent.ensures.left.1 c.empty.ensures.left.1, λ told. c.empty.ensures.left.2 told ∙ c.writable_parent.ensures.left.2 told)
