use Rattle.std.proofs.Common.{◌∙◌, ap, refl, sym}
use Rattle.std.specs.Prelude.{not}
use Rattle.sn_plan.proofs.Following.{chosen, gives_it, not_chosen, refuses}
use Rattle.sn_serve_setattr.proofs.dating.may_date.Goals as goal

pub returns-then-not-are_times : goal.returns-then-not-are_times
returns-then-not-are_times g c = chosen _ (ap not (sym c.are_times.ensures ∙ c.if-not-are_times.true)) refuses

pub returns-then-not-is_live : goal.returns-then-not-is_live
returns-then-not-is_live g c = not_chosen _ (ap not (sym c.are_times.ensures ∙ c.if-not-are_times.false)) (chosen _ (ap not (sym c.is_live.ensures ∙ c.if-not-is_live.true)) refuses)

pub returns-then-is_owner : goal.returns-then-is_owner
returns-then-is_owner g c = not_chosen _ (ap not (sym c.are_times.ensures ∙ c.if-not-are_times.false)) (not_chosen _ (ap not (sym c.is_live.ensures ∙ c.if-not-is_live.false))
    (chosen _ (sym c.is_owner.ensures ∙ c.if-is_owner.true) (gives_it refl)))

pub returns : goal.returns
returns g c = not_chosen _ (ap not (sym c.are_times.ensures ∙ c.if-not-are_times.false)) (not_chosen _ (ap not (sym c.is_live.ensures ∙ c.if-not-is_live.false))
    (not_chosen _ (sym c.is_owner.ensures ∙ c.if-is_owner.false) c.others_may_date.ensures))
