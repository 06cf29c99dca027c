use Rattle.std.proofs.Common.{◌∙◌, refl, sym}
use Rattle.sn_plan.proofs.Following.{chosen, gives_it, not_chosen}
use Rattle.sn_serve_setattr.proofs.setting.set_mode.Goals as goal

pub returns-then-changes_mode : goal.returns-then-changes_mode
returns-then-changes_mode g c = chosen _ (sym c.changes_mode.ensures ∙ c.if-changes_mode.true) c.new_mode.ensures

pub returns-else-changes_mode : goal.returns-else-changes_mode
returns-else-changes_mode g c = not_chosen _ (sym c.changes_mode.ensures ∙ c.if-changes_mode.false) (gives_it refl)
