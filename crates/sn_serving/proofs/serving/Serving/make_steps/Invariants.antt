use Rattle.sn_serving.proofs.PacingLemmas.{AreSteps}
use Rattle.sn_serving.proofs.serving.Serving.make_steps.Given as goal

-- so many steps were made
abbrev pub invariant-loop-step : goal.invariant-loop-step
invariant-loop-step g l = AreSteps g.D.Device.tells_bytes l._step l.fn.self l.self
