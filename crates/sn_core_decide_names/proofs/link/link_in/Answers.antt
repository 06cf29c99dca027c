use Rattle.std.proofs.Common.{rules, ◌∙◌}
use Rattle.sn_core_decide_names.proofs.link.link_in.Goals as goal

pub returns-in_err-writable_parent-clause-exact : goal.returns-in_err-writable_parent-clause-exact
returns-in_err-writable_parent-clause-exact g c = search rules

pub returns-in_err-may_link-clause-exact : goal.returns-in_err-may_link-clause-exact
returns-in_err-may_link-clause-exact g c = search rules

pub returns-clause-exact : goal.returns-clause-exact
returns-clause-exact g c = search rules

pub returns-in_err-has_room_for_name-clause-left : goal.returns-in_err-has_room_for_name-clause-left
returns-in_err-has_room_for_name-clause-left g c = (c.has_room_for_name.ensures.left.0, g.met.V.TreeView.follows_on _ _ _ c.writable_parent.ensures.left.1 c.has_room_for_name.ensures.left.1, λ told. c.has_room_for_name.ensures.left.2 told ∙ c.writable_parent.ensures.left.2 told)

pub returns-clause-left : goal.returns-clause-left
returns-clause-left g c = (c.has_room_for_name.ensures.left.0, g.met.V.TreeView.follows_on _ _ _ c.writable_parent.ensures.left.1 c.has_room_for_name.ensures.left.1, λ told. c.has_room_for_name.ensures.left.2 told ∙ c.writable_parent.ensures.left.2 told)
