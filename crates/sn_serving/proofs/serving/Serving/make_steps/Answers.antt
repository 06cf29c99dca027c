use Rattle.std.proofs.Common.{arith, true, false}
use Rattle.sn_serving.specs.Pacing.{refused}
use Rattle.sn_serving.proofs.PacingLemmas.{ends_point, every_step, last_step, next_step, none_yet}
use Rattle.sn_serving.proofs.serving.Serving.make_steps.Goals as goal

pub loop-step-init : goal.loop-step-init
loop-step-init g c = none_yet _ c.args.self.now

pub returns-in_default : goal.returns-in_default
returns-in_default g c = last_step _ c.args.count c.loop-step._step false _ _ _ c.step.result c.loop-step.invariant (omega arith) (λ others. refused c.in_default.not-Progress) c.step.ensures

pub returns-in-Done : goal.returns-in-Done
returns-in-Done g c =
    last_step _ c.args.count c.loop-step._step true _ _ _ c.step.result c.loop-step.invariant (omega arith) (ends_point c.step.result c.in-Progress.progress c.in-Progress.is c.in-Done.is) c.step.ensures

pub loop-step-preserved : goal.loop-step-preserved
loop-step-preserved g c = next_step _ c.loop-step._step _ _ _ c.step.result c.in-Progress.progress c.loop-step.invariant c.in-Progress.is c.in-More.is c.step.ensures

pub returns : goal.returns
returns g c = every_step _ c.args.count c.loop-step._step _ _ c.loop-step.invariant (omega arith)
