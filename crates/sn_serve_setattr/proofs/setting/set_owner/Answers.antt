use Rattle.std.proofs.Common.{◌∙◌, refl, sym}
use Rattle.sn_plan.proofs.Following.{chosen, gives_it, not_chosen}
use Rattle.sn_serve_setattr.proofs.setting.set_owner.Goals as goal

pub returns-then-changes_owner : goal.returns-then-changes_owner
returns-then-changes_owner g c = chosen _ (sym c.changes_owner.ensures ∙ c.if-changes_owner.true) c.new_owner.ensures

pub returns-else-changes_owner : goal.returns-else-changes_owner
returns-else-changes_owner g c = not_chosen _ (sym c.changes_owner.ensures ∙ c.if-changes_owner.false) (gives_it refl)
