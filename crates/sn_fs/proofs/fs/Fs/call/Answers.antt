use Rattle.std.proofs.Common.{Bool, false, sym, ap, subst, ◌∙◌}
use Rattle.sn_model.specs.declared.call.Event.TheVariants.{Call}
use Rattle.sn_model.specs.declared.reply.Errno.TheVariants.{Estopped}
use Rattle.sn_model.specs.declared.reply.Reply.{Reply}
use Rattle.sn_model.specs.Machine.{refused}
use Rattle.sn_events.specs.Answers.{Answers}
use Rattle.sn_fs.specs.Filesystem.{has_stopped, held}
use Rattle.sn_events.specs.Pointing.{errno_of_point}
use Rattle.sn_events.proofs.CallLemmas.{stopped_answers}
use Rattle.sn_events.proofs.FinishLemmas.{call_after_finish, call_cut}
use Rattle.sn_fs.proofs.fs.Fs.call.Goals as goal

pub returns-then-self-clause-answered : goal.returns-then-self-clause-answered
returns-then-self-clause-answered g c told =
    let h = held c.args.self.now in
    let e = Call c.args.session c.args.call.now in
    subst (λ (r : Reply). Answers e r h c.args.self.now.has_stopped h c.args.self.now.has_stopped) (sym c.refused.ensures)
    (subst (λ (b : Bool). Answers e (refused Estopped) h b h b) (sym c.if-self.true) (stopped_answers h c.args.session c.args.call.now))

pub returns-then-is_between-clause-answered : goal.returns-then-is_between-clause-answered
returns-then-is_between-clause-answered g c told =
    let h = held c.args.self.now in
    let e = Call c.args.session c.args.call.now in
    let new = c.serve_between.new.self in
    subst (λ (b : Bool). Answers e c.serve_between.result h b (held new) (has_stopped new)) (sym c.if-self.false) (c.serve_between.ensures.answered told)

pub returns-in-Some-clause-answered : goal.returns-in-Some-clause-answered
returns-in-Some-clause-answered g c told =
    let h = held c.args.self.now in
    let e = Call c.args.session c.args.call.now in
    let new = c.serve.new.self in
    subst (λ (b : Bool). Answers e c.in-Some.reply h b (held new) (has_stopped new)) (sym c.if-self.false) (λ s m. (c.in-Some.ensures.served told s m).answers)

pub returns-in-Err-clause-answered : goal.returns-in-Err-clause-answered
returns-in-Err-clause-answered g c told =
    let h = held c.args.self.now in
    let e = Call c.args.session c.args.call.now in
    let new = held c.finish.new.self in
    let stopped = has_stopped c.finish.new.self in
    let fault = c.in-Err.fault in
    let a = call_cut h (held c.serve.new.self) new c.args.session c.args.call.now fault (c.requires.meant c.if-self.false told).whole (c.in_default.ensures.served told) (c.in-Err.ensures.finishes told) in
    subst (λ (r : Reply). Answers e r h c.args.self.now.has_stopped new stopped) (sym (c.refused-in-Err.ensures ∙ ap refused c.errno_of.ensures))
    (subst (λ (b : Bool). Answers e (refused (errno_of_point fault)) h b new stopped) (sym c.if-self.false)
    (subst (λ (b : Bool). Answers e (refused (errno_of_point fault)) h false new b) (sym c.in-Err.ensures.stopped) a))

pub returns-clause-answered : goal.returns-clause-answered
returns-clause-answered g c told =
    let h = held c.args.self.now in
    let e = Call c.args.session c.args.call.now in
    let new = c.serve_between-2.new.self in
    let reply = c.serve_between-2.result in
    subst (λ (b : Bool). Answers e reply h b (held new) (has_stopped new)) (sym c.if-self.false)
    (call_after_finish h (held c.serve.new.self) (held c.finish.new.self) (held new) c.args.session c.args.call.now reply (has_stopped new) (c.in_default.ensures.served told) (c.in_default-finish.ensures.finishes told) (c.serve_between-2.ensures.answered told))
