use Rattle.sn_model.specs.declared.end.End.TheVariants.{Mount}
use Rattle.sn_fs.specs.Filesystem.{has_stopped, held}
use Rattle.sn_run.specs.Servers.{is_stopped, standing}
use Rattle.sn_run.proofs.RunLemmas.{is_run, is_unfit, served_to}
use Rattle.sn_run.proofs.running.run.Goals as goal

pub returns-in-Ok-mount-clause-runs : goal.returns-in-Ok-mount-clause-runs
returns-in-Ok-mount-clause-runs g c told =
    let status = g.D.Device.status c.args.device in
    let h = held c.in-Ok-mount.fs in
    let end = c.finish-end.result in
    served_to c.args.events.now c.answer_all-server.new.replies.items (g.D.Device.disk c.args.device) (g.D.Device.disk end.1) status (g.D.Device.status end.1) h (standing c.answer_all-server.result) (has_stopped c.in-Ok-mount.fs) (is_stopped c.answer_all-server.result)
    (c.in-Ok-mount.ensures.mounted told) (c.in-Ok-mount.ensures.root told) h.at.blocks c.in-Ok-mount.ensures.within c.in-Ok-mount.ensures.costs (c.answer_all-server.ensures.answered told) end.0 c.finish-end.ensures.told (c.finish-end.ensures.ended told)

pub returns-in-Ok-mount-clause-machine : goal.returns-in-Ok-mount-clause-machine
returns-in-Ok-mount-clause-machine g c told world image =
    let device = c.args.device in
    let end = c.finish-end.result in
    is_run c.args.events.now c.answer_all-server.new.replies.items (g.D.Device.disk device) (g.D.Device.disk end.1) (g.D.Device.status device) (g.D.Device.status end.1)
    world (record { whole = g.met.D.Device.whole device told; count = g.met.D.Device.count device told }) image end.0 (returns-in-Ok-mount-clause-runs g c told)

pub returns-in-Err-clause-machine : goal.returns-in-Err-clause-machine
returns-in-Err-clause-machine g c told world image =
    let device = c.args.device in
    let u = c.in-Err.field-0 in
    is_run c.args.events.now c.in-Ok.replies.items (g.D.Device.disk device) (g.D.Device.disk u.device) (g.D.Device.status device) (g.D.Device.status u.device)
    world (record { whole = g.met.D.Device.whole device told; count = g.met.D.Device.count device told }) image (Mount u.fault)
    (record { none = c.in-Ok.ensures.0; left = c.in-Err.ensures.unmounted told; failed = c.in-Err.ensures.failed; later = c.in-Err.ensures.later; costs = c.in-Err.ensures.tries })

pub returns-in-Ok-mount-clause-unfit : goal.returns-in-Ok-mount-clause-unfit
returns-in-Ok-mount-clause-unfit g c told f lacks =
    let end = c.finish-end.result in
    is_unfit c.args.events.now c.answer_all-server.new.replies.items (g.D.Device.disk c.args.device) (g.D.Device.disk end.1) (g.D.Device.status c.args.device) (g.D.Device.status end.1)
    f lacks end.0 (returns-in-Ok-mount-clause-runs g c told)

pub returns-in-Err-clause-unfit : goal.returns-in-Err-clause-unfit
returns-in-Err-clause-unfit g c told f lacks =
    let u = c.in-Err.field-0 in
    is_unfit c.args.events.now c.in-Ok.replies.items (g.D.Device.disk c.args.device) (g.D.Device.disk u.device) (g.D.Device.status c.args.device) (g.D.Device.status u.device) f lacks (Mount u.fault)
    (record { none = c.in-Ok.ensures.0; left = c.in-Err.ensures.unmounted told; failed = c.in-Err.ensures.failed; later = c.in-Err.ensures.later; costs = c.in-Err.ensures.tries })
