use Rattle.std.proofs.Common.{◌∙◌, refl, sym}
use Rattle.sn_plan.proofs.Following.{chosen, gives_it, not_chosen}
use Rattle.sn_serve_setattr.proofs.setting.set_size.Goals as goal

pub returns-then-sets_size : goal.returns-then-sets_size
returns-then-sets_size g c = chosen _ (sym c.sets_size.ensures ∙ c.if-sets_size.true) c.new_size.ensures

pub returns-else-sets_size : goal.returns-else-sets_size
returns-else-sets_size g c = not_chosen _ (sym c.sets_size.ensures ∙ c.if-sets_size.false) (gives_it refl)
