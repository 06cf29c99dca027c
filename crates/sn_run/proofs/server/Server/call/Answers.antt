use Rattle.std.proofs.Common.{sym, subst}
use Rattle.sn_model.specs.declared.call.Event.TheVariants.{Call}
use Rattle.sn_model.specs.declared.reply.Errno.TheVariants.{Estopped}
use Rattle.sn_model.specs.declared.reply.Reply.{Reply}
use Rattle.sn_model.specs.Machine.{refused}
use Rattle.sn_events.specs.Answers.{Answers}
use Rattle.sn_fs.specs.Filesystem.{has_stopped, held}
use Rattle.sn_events.proofs.CallLemmas.{stopped_answers}
use Rattle.sn_run.specs.declared.server.Server.{Server}
use Rattle.sn_run.specs.Servers.{is_stopped, standing}
use Rattle.sn_run.proofs.server.Server.call.Goals as goal

pub returns-in-Mounted-clause-answered : goal.returns-in-Mounted-clause-answered
returns-in-Mounted-clause-answered g c told =
    let e = Call c.args.session c.args.call.now in
    let S = Server g.row.D.Denot g.D.Device in
    let new = c.call.new.self in
    subst (λ (x : S). Answers e c.call.result (standing x) (is_stopped x) (held new) (has_stopped new)) (sym c.in-Mounted.is) (c.call.ensures.answered told)

pub returns-in-Unmounted-clause-answered : goal.returns-in-Unmounted-clause-answered
returns-in-Unmounted-clause-answered g c told =
    let e = Call c.args.session c.args.call.now in
    let S = Server g.row.D.Denot g.D.Device in
    let self : S = Server.Unmounted c.in-Unmounted.field-0 in
    let h = standing self in
    subst (λ (r : Reply). Answers e r (standing c.args.self.now) (is_stopped c.args.self.now) (standing c.args.self.now) (is_stopped c.args.self.now)) (sym c.refused.ensures)
    (subst (λ (x : S). Answers e (refused Estopped) (standing x) (is_stopped x) (standing x) (is_stopped x)) (sym c.in-Unmounted.is) (stopped_answers h c.args.session c.args.call.now))
