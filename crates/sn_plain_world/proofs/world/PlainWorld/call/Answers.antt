use Rattle.std.proofs.Common.{sym, subst}
use Rattle.sn_model.specs.declared.call.Event.TheVariants.{Call}
use Rattle.sn_model.specs.declared.reply.Reply.TheVariants.{Refused}
use Rattle.sn_model.specs.declared.reply.Refusal.{Refusal}
use Rattle.sn_plain_world.specs.Plain.{numbered_of}
use Rattle.sn_plain_world.specs.PlainRuns.{PlainStep}
use Rattle.sn_plain_world.proofs.StepLemmas.{answered_step, refused_step, memory_step}
use Rattle.sn_plain_world.proofs.world.PlainWorld.call.Goals as goal

pub returns-in-Ok-clause-step : goal.returns-in-Ok-clause-step
returns-in-Ok-clause-step c = answered_step _ _ c.args.session c.args.call.now c.in-Ok.reply c.in-Ok.ensures.served

pub returns-in-Err-Refused-clause-step : goal.returns-in-Err-Refused-clause-step
returns-in-Err-Refused-clause-step c = let h = rw c.in-Err-Refused.field-0-is at c.in-Err-Refused.ensures.served in refused_step _ _ c.args.session c.args.call.now c.in-Err-Refused.refusal h.0.0 h.0.1 h.1

pub returns-in-Err-Memory-clause-step : goal.returns-in-Err-Memory-clause-step
returns-in-Err-Memory-clause-step c =
    let h = rw c.in-Err-Memory.field-0-is at c.in-Err-Memory.ensures.served in
    subst (λ (r : Refusal). PlainStep (numbered_of c.args.self.now) (Call c.args.session c.args.call.now) (Refused r) (numbered_of c.served.new.self)) (sym c.plain.ensures)
    (memory_step _ _ c.args.session c.args.call.now h.0.0 h.0.1 h.0.2 h.1)
