use Rattle.std.proofs.Common.{◌∙◌}
use Rattle.sn_core_decide_rename.proofs.rename.moving_to.Goals as goal

pub returns-in-Ok-clause-left : goal.returns-in-Ok-clause-left
returns-in-Ok-clause-left g c = (c.reached.ensures.left.0, g.met.V.TreeView.follows_on _ _ _ c.prefix.ensures.left.1 c.reached.ensures.left.1, λ told. c.reached.ensures.left.2 told ∙ c.prefix.ensures.left.2 told)

pub returns-in-Err-clause-left : goal.returns-in-Err-clause-left
returns-in-Err-clause-left g c = (c.reached.ensures.left.0, g.met.V.TreeView.follows_on _ _ _ c.prefix.ensures.left.1 c.reached.ensures.left.1, λ told. c.reached.ensures.left.2 told ∙ c.prefix.ensures.left.2 told)
