use Rattle.std.proofs.Common.{ℕ, ◌∙◌, ap, refl, subst, sym}
use Rattle.sn_serving.specs.Paces.{steps_due}
use Rattle.sn_serving.specs.Pacing.{AreMade, makes, rests}
use Rattle.sn_serving.proofs.ServedLemmas.{steps_none}
use Rattle.sn_serving.proofs.serving.Serving.make_due.Goals as goal

pub returns-then-has_stopped-clause-steps : goal.returns-then-has_stopped-clause-steps
returns-then-has_stopped-clause-steps g c = steps_none _ c.args.self.now

pub returns-then-has_stopped-clause-due : goal.returns-then-has_stopped-clause-due
returns-then-has_stopped-clause-due g c = λ told. rests (sym c.has_stopped.ensures ∙ c.if-has_stopped.true) refl

pub returns-clause-steps : goal.returns-clause-steps
returns-clause-steps g c = let m = c.make_steps.ensures in (m.0, m.2)

pub returns-clause-due : goal.returns-clause-due
returns-clause-due g c = λ told.
    (let m = c.make_steps.ensures in
    let running = sym c.has_stopped.ensures ∙ c.if-has_stopped.false in
    makes running (subst (λ (count : ℕ). AreMade count m.0 c.make_steps.result) (c.steps_due.ensures ∙ ap steps_due (c.room.ensures told running)) m.1) (m.2 told))
