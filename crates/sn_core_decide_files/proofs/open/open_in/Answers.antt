use Rattle.std.proofs.Common.{rules, ◌∙◌}
use Rattle.sn_core_decide_files.proofs.open.open_in.Goals as goal

pub returns-in_err-directory-clause-exact : goal.returns-in_err-directory-clause-exact
returns-in_err-directory-clause-exact g c = search rules

pub returns-in_err-attributes-clause-exact : goal.returns-in_err-attributes-clause-exact
returns-in_err-attributes-clause-exact g c = search rules

pub returns-clause-exact : goal.returns-clause-exact
returns-clause-exact g c = search rules

pub returns-in_err-default_acl-clause-left : goal.returns-in_err-default_acl-clause-left
returns-in_err-default_acl-clause-left g c = (c.given_in.ensures.left.0, g.met.V.TreeView.follows_on _ _ _ c.writable_parent.ensures.left.1 c.given_in.ensures.left.1, λ told. c.given_in.ensures.left.2 told ∙ c.writable_parent.ensures.left.2 told)

pub returns-clause-left : goal.returns-clause-left
returns-clause-left g c = (c.given_in.ensures.left.0, g.met.V.TreeView.follows_on _ _ _ c.writable_parent.ensures.left.1 c.given_in.ensures.left.1, λ told. c.given_in.ensures.left.2 told ∙ c.writable_parent.ensures.left.2 told)
