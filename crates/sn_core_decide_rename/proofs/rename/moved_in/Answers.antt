use Rattle.std.proofs.Common.{rules, ◌∙◌}
use Rattle.sn_core_decide_rename.proofs.rename.moved_in.Goals as goal

pub returns-in_err-sticky-clause-exact : goal.returns-in_err-sticky-clause-exact
returns-in_err-sticky-clause-exact g c = search rules

pub returns-in_err-gives_way-clause-exact : goal.returns-in_err-gives_way-clause-exact
returns-in_err-gives_way-clause-exact g c = search rules

pub returns-clause-exact : goal.returns-clause-exact
returns-clause-exact g c = search rules

pub returns-in_err-room_to_move-clause-left : goal.returns-in_err-room_to_move-clause-left
returns-in_err-room_to_move-clause-left g c = (c.room_to_move.ensures.left.0, g.met.V.TreeView.follows_on _ _ _ c.gives_way.ensures.left.1 c.room_to_move.ensures.left.1, λ told. c.room_to_move.ensures.left.2 told ∙ c.gives_way.ensures.left.2 told)

pub returns-clause-left : goal.returns-clause-left
returns-clause-left g c = (c.room_to_move.ensures.left.0, g.met.V.TreeView.follows_on _ _ _ c.gives_way.ensures.left.1 c.room_to_move.ensures.left.1, λ told. c.room_to_move.ensures.left.2 told ∙ c.gives_way.ensures.left.2 told)
