use Rattle.std.proofs.Common.{Bool, subst}
use Rattle.sn_serving.specs.Pacing.{MakesDue, again, once}
use Rattle.sn_serving.proofs.ServedLemmas.{steps_more}
use Rattle.sn_serving.proofs.serving.Serving.keep_pace.Goals as goal

pub returns-then-make_due-clause-steps : goal.returns-then-make_due-clause-steps
returns-then-make_due-clause-steps g c = steps_more _ _ _ _ c.make_due.ensures.steps c.make_due-then-make_due.ensures.steps

pub returns-then-make_due-clause-due : goal.returns-then-make_due-clause-due
returns-then-make_due-clause-due g c = λ told.
    again (subst (λ (ended : Bool). MakesDue c.args.self.now c.make_due.new.self ended) c.if-make_due.true (c.make_due.ensures.due told)) (c.make_due-then-make_due.ensures.due told)

pub returns-else-make_due-clause-due : goal.returns-else-make_due-clause-due
returns-else-make_due-clause-due g c = λ told. once (subst (λ (ended : Bool). MakesDue c.args.self.now c.make_due.new.self ended) c.if-make_due.false (c.make_due.ensures.due told))
