use Rattle.std.proofs.Common.{◌∙◌, refl, sym}
use Rattle.sn_plan.proofs.Following.{chosen, gives_it, not_chosen, refuses}
use Rattle.sn_serve_setattr.proofs.dating.others_may_date.Goals as goal

pub returns-then-come_with_size : goal.returns-then-come_with_size
returns-then-come_with_size g c = chosen _ (sym c.come_with_size.ensures ∙ c.if-come_with_size.true) (gives_it refl)

pub returns-then-are_now : goal.returns-then-are_now
returns-then-are_now g c = not_chosen _ (sym c.come_with_size.ensures ∙ c.if-come_with_size.false) (chosen _ (sym c.are_now.ensures ∙ c.if-are_now.true) c.may_write.ensures)

pub returns-else-are_now : goal.returns-else-are_now
returns-else-are_now g c = not_chosen _ (sym c.come_with_size.ensures ∙ c.if-come_with_size.false) (not_chosen _ (sym c.are_now.ensures ∙ c.if-are_now.false) refuses)
