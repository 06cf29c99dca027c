use Rattle.std.proofs.Common.{Bool, false, sym, ap, subst, ◌∙◌}
use Rattle.sn_model.specs.declared.call.Event.TheVariants.{Step}
use Rattle.sn_model.specs.declared.reply.Errno.TheVariants.{Estopped}
use Rattle.sn_model.specs.declared.reply.Reply.{Reply}
use Rattle.sn_model.specs.declared.reply.Reply.TheVariants.{Progress}
use Rattle.sn_model.specs.Machine.{refused}
use Rattle.sn_events.specs.Answers.{Answers}
use Rattle.sn_fs.specs.Filesystem.{has_stopped, held}
use Rattle.sn_events.specs.Pointing.{errno_of_point}
use Rattle.sn_events.proofs.StepLemmas.{step_answers, step_refused, stopped_step}
use Rattle.sn_fs.proofs.fs.Fs.step.Goals as goal

pub returns-then-self-clause-answered : goal.returns-then-self-clause-answered
returns-then-self-clause-answered g c told =
    let h = held c.args.self.now in
    subst (λ (r : Reply). Answers Step r h c.args.self.now.has_stopped h c.args.self.now.has_stopped) (sym c.refused.ensures)
    (subst (λ (b : Bool). Answers Step (refused Estopped) h b h b) (sym c.if-self.true) (stopped_step h))

pub returns-in-Ok-clause-answered : goal.returns-in-Ok-clause-answered
returns-in-Ok-clause-answered g c told =
    let h = held c.args.self.now in
    let new = held c.advance.new.self in
    subst (λ (b : Bool). Answers Step (Progress c.in-Ok.progress) h b new (has_stopped c.advance.new.self)) (sym c.if-self.false)
    (subst (λ (b : Bool). Answers Step (Progress c.in-Ok.progress) h false new b) (sym c.in-Ok.ensures.stopped) (step_answers h new c.in-Ok.progress (c.in-Ok.ensures.advances told)))

pub returns-in-Err-clause-answered : goal.returns-in-Err-clause-answered
returns-in-Err-clause-answered g c told =
    let h = held c.args.self.now in
    let new = held c.advance.new.self in
    subst (λ (r : Reply). Answers Step r h c.args.self.now.has_stopped new (has_stopped c.advance.new.self)) (sym (c.refused-in-Err.ensures ∙ ap refused c.errno_of.ensures))
    (subst (λ (b : Bool). Answers Step (refused (errno_of_point c.in-Err.fault)) h b new (has_stopped c.advance.new.self)) (sym c.if-self.false)
    (subst (λ (b : Bool). Answers Step (refused (errno_of_point c.in-Err.fault)) h false new b) (sym c.in-Err.ensures.stopped) (step_refused h new c.in-Err.fault (c.in-Err.ensures.advances told))))
