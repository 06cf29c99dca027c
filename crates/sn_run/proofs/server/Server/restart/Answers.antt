use Rattle.std.proofs.Common.{Bool, false, sym, ap, subst, ◌∙◌}
use Rattle.sn_device.specs.Disk.{Disk}
use Rattle.sn_device.specs.declared.status.Status.{Status}
use Rattle.sn_model.specs.declared.call.Event.TheVariants.{Restart}
use Rattle.sn_model.specs.declared.reply.Reply.{Reply}
use Rattle.sn_model.specs.Machine.{refused}
use Rattle.sn_events.specs.Answers.{Answers}
use Rattle.sn_fs.specs.Filesystem.{has_stopped, held}
use Rattle.sn_events.specs.Pointing.{errno_of_point}
use Rattle.sn_events.proofs.FinishLemmas.{restart_refused}
use Rattle.sn_run.specs.declared.server.Server.{Server}
use Rattle.sn_run.specs.Restarting.{Remounts}
use Rattle.sn_run.specs.Servers.{is_stopped, standing}
use Rattle.sn_run.proofs.RestartLemmas.{restart_running, restart_stopped}
use Rattle.sn_run.proofs.server.Server.restart.Goals as goal

pub returns-in-Unmounted-clause-answered : goal.returns-in-Unmounted-clause-answered
returns-in-Unmounted-clause-answered g c told =
    let S = Server g.row.D.Denot g.D.Device in
    let self : S = Server.Unmounted c.in-Unmounted.device in
    let next = c.remount.result in
    subst (λ (x : S). Answers Restart next.0 (standing x) (is_stopped x) (standing next.1) (is_stopped next.1)) (sym c.in-Unmounted.is)
    (restart_stopped (standing self) (standing next.1) (is_stopped next.1) next.0 (c.remount.ensures.mounts told))

pub returns-then-has_stopped-clause-answered : goal.returns-then-has_stopped-clause-answered
returns-then-has_stopped-clause-answered g c told =
    let S = Server g.row.D.Denot g.D.Device in
    let fs = c.in-Mounted.fs in
    let next = c.remount-then-has_stopped.result in
    let old = held fs in
    let r = subst (λ (s : Status). Remounts next.0 s old.disk (standing next.1) (is_stopped next.1)) c.into_device.ensures.status
    (subst (λ (d : Disk). Remounts next.0 (g.D.Device.status c.into_device.result) d (standing next.1) (is_stopped next.1)) c.into_device.ensures.disk (c.remount-then-has_stopped.ensures.mounts told)) in
    subst (λ (x : S). Answers Restart next.0 (standing x) (is_stopped x) (standing next.1) (is_stopped next.1)) (sym c.in-Mounted.is)
    (subst (λ (b : Bool). Answers Restart next.0 old b (standing next.1) (is_stopped next.1)) (sym (sym c.has_stopped.ensures ∙ c.if-has_stopped.true))
    (restart_stopped old (standing next.1) (is_stopped next.1) next.0 r))

pub returns-in-Ok-clause-answered : goal.returns-in-Ok-clause-answered
returns-in-Ok-clause-answered g c told =
    let S = Server g.row.D.Denot g.D.Device in
    let old = held c.in-Mounted.fs in
    let device = c.in-Ok.device in
    let next = c.remount-in-Ok.result in
    subst (λ (x : S). Answers Restart next.0 (standing x) (is_stopped x) (standing next.1) (is_stopped next.1)) (sym c.in-Mounted.is)
    (subst (λ (b : Bool). Answers Restart next.0 old b (standing next.1) (is_stopped next.1)) (sym c.in-Ok.ensures.running)
    (restart_running old (standing next.1) (is_stopped next.1) next.0 (g.D.Device.disk device) (g.D.Device.status device) (c.in-Ok.ensures.unmounted told) (c.remount-in-Ok.ensures.mounts told)))

pub returns-in-Err-clause-answered : goal.returns-in-Err-clause-answered
returns-in-Err-clause-answered g c told =
    let S = Server g.row.D.Denot g.D.Device in
    let old = held c.in-Mounted.fs in
    let s = c.in-Err.field-0 in
    let new = held s.fs in
    let running = sym c.has_stopped.ensures ∙ c.if-has_stopped.false in
    let refuses = c.in-Err.ensures.refused told running in
    subst (λ (x : S). Answers Restart c.refused.result (standing x) (is_stopped x) new (has_stopped s.fs)) (sym c.in-Mounted.is)
    (subst (λ (r : Reply). Answers Restart r old (has_stopped c.in-Mounted.fs) new (has_stopped s.fs)) (sym (c.refused.ensures ∙ ap refused refuses.told))
    (subst (λ (b : Bool). Answers Restart (refused (errno_of_point refuses.fault)) old b new (has_stopped s.fs)) (sym running)
    (subst (λ (b : Bool). Answers Restart (refused (errno_of_point refuses.fault)) old false new b) (sym refuses.stops)
    (restart_refused old new refuses.fault refuses.unpointed))))
