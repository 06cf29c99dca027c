use Rattle.std.proofs.Common.{◌∙◌, refl, sym}
use Rattle.sn_plan.proofs.Following.{chosen, gives_it, not_chosen}
use Rattle.sn_serve_setattr.proofs.setting.permit_times.Goals as goal

pub returns-then-sets_times : goal.returns-then-sets_times
returns-then-sets_times g c = chosen _ (sym c.sets_times.ensures ∙ c.if-sets_times.true) c.may_date.ensures

pub returns-else-sets_times : goal.returns-else-sets_times
returns-else-sets_times g c = not_chosen _ (sym c.sets_times.ensures ∙ c.if-sets_times.false) (gives_it refl)
