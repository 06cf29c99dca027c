use Rattle.std.proofs.Common.{refl, sym, ◌∙◌}
use Rattle.std.proofs.lemmas.Bool.{true≢false}
use Rattle.sn_dir_change.proofs.name_change.are_changes.Goals as goal

pub returns-then-not-can_each : goal.returns-then-not-can_each
returns-then-not-can_each c = (λ no. absurd (true≢false (sym no)), λ all. absurd (true≢false (sym (c.can_each.ensures.1 all.each) ∙ c.if-not-can_each.true)))

pub returns-then-do_rise : goal.returns-then-do_rise
returns-then-do_rise c = (λ _. record { each = c.can_each.ensures.0 c.if-not-can_each.false; once = c.do_rise.ensures c.if-do_rise.true }, λ _. refl)

pub returns : goal.returns
returns c = (λ yes. record { each = c.can_each.ensures.0 c.if-not-can_each.false; once = c.are_apart.ensures.0 yes }, λ all. c.are_apart.ensures.1 all.once)
