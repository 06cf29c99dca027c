use Rattle.std.proofs.Common.{◌∙◌, refl, sym}
use Rattle.sn_plan.proofs.Following.{chosen, gives_it, not_chosen}
use Rattle.sn_serve_looks.specs.Acls.{acl_at}
use Rattle.sn_serve_looks.proofs.acls.acl_at.Goals as goal

pub returns-then-can_have : goal.returns-then-can_have
unfolding acl_at
returns-then-can_have g c = chosen _ (sym c.can_have.ensures ∙ c.if-can_have.true) c.acl_told.ensures

pub returns-else-can_have : goal.returns-else-can_have
unfolding acl_at
returns-else-can_have g c = not_chosen _ (sym c.can_have.ensures ∙ c.if-can_have.false) (gives_it refl)
