use Rattle.std.proofs.Common.{sym, subst}
use Rattle.sn_model.specs.declared.call.Event.TheVariants.{Step}
use Rattle.sn_model.specs.declared.reply.Errno.TheVariants.{Estopped}
use Rattle.sn_model.specs.declared.reply.Reply.{Reply}
use Rattle.sn_model.specs.Machine.{refused}
use Rattle.sn_events.specs.Answers.{Answers}
use Rattle.sn_fs.specs.Filesystem.{has_stopped, held}
use Rattle.sn_events.proofs.StepLemmas.{stopped_step}
use Rattle.sn_run.specs.declared.server.Server.{Server}
use Rattle.sn_run.specs.Servers.{is_stopped, standing}
use Rattle.sn_run.proofs.server.Server.step.Goals as goal

pub returns-in-Mounted-clause-answered : goal.returns-in-Mounted-clause-answered
returns-in-Mounted-clause-answered g c told =
    let S = Server g.row.D.Denot g.D.Device in
    let new = c.step.new.self in
    subst (λ (x : S). Answers Step c.step.result (standing x) (is_stopped x) (held new) (has_stopped new)) (sym c.in-Mounted.is) (c.step.ensures.answered told)

pub returns-in-Unmounted-clause-answered : goal.returns-in-Unmounted-clause-answered
returns-in-Unmounted-clause-answered g c told =
    let S = Server g.row.D.Denot g.D.Device in
    let self : S = Server.Unmounted c.in-Unmounted.field-0 in
    let h = standing self in
    subst (λ (r : Reply). Answers Step r (standing c.args.self.now) (is_stopped c.args.self.now) (standing c.args.self.now) (is_stopped c.args.self.now)) (sym c.refused.ensures)
    (subst (λ (x : S). Answers Step (refused Estopped) (standing x) (is_stopped x) (standing x) (is_stopped x)) (sym c.in-Unmounted.is) (stopped_step h))
