use Rattle.std.proofs.Common.{Bool, sym, subst}
use Rattle.sn_device.specs.Disk.{Disk}
use Rattle.sn_device.specs.declared.status.Status.{Status}
use Rattle.sn_model.specs.declared.end.End.{End}
use Rattle.sn_model.specs.declared.end.End.TheVariants as ending
use Rattle.sn_fs.specs.Filesystem.{has_stopped, held}
use Rattle.sn_run.specs.declared.server.Server.{Server}
use Rattle.sn_run.specs.Ending.{EndsSo, end_for}
use Rattle.sn_run.specs.Servers.{is_stopped, standing}
use Rattle.sn_run.proofs.EndingLemmas.{ends_clean, ends_either, ends_stopped}
use Rattle.sn_run.proofs.server.Server.finish.Goals as goal

pub returns-in-Unmounted-clause-ended : goal.returns-in-Unmounted-clause-ended
returns-in-Unmounted-clause-ended g c told =
    let S = Server g.row.D.Denot g.D.Device in
    let self : S = Server.Unmounted c.in-Unmounted.device in
    let h = standing self in
    subst (λ (x : S). EndsSo ending.Stopped (standing x) (is_stopped x) h.disk h.status) (sym c.in-Unmounted.is) (ends_stopped h)

pub returns-in-Ok-clause-ended : goal.returns-in-Ok-clause-ended
returns-in-Ok-clause-ended g c told =
    let S = Server g.row.D.Denot g.D.Device in
    let device = c.in-Ok.device in
    let disk = g.D.Device.disk device in
    let status = g.D.Device.status device in
    subst (λ (x : S). EndsSo ending.Clean (standing x) (is_stopped x) disk status) (sym c.in-Mounted.is)
    (subst (λ (b : Bool). EndsSo ending.Clean (held c.in-Mounted.fs) b disk status) (sym c.in-Ok.ensures.running) (ends_clean (held c.in-Mounted.fs) disk status (c.in-Ok.ensures.unmounted told)))

pub returns-in-Err-clause-ended : goal.returns-in-Err-clause-ended
returns-in-Err-clause-ended g c told =
    let S = Server g.row.D.Denot g.D.Device in
    let old = held c.in-Mounted.fs in
    let s = c.in-Err.field-0 in
    let new = held s.fs in
    let had = has_stopped c.in-Mounted.fs in
    let ends = ends_either old new s.errno had (has_stopped s.fs) (c.in-Err.ensures.refused told) c.in-Err.ensures.stopped in
    subst (λ (x : S). EndsSo c.end_of.result (standing x) (is_stopped x) (g.D.Device.disk c.into_device.result) (g.D.Device.status c.into_device.result)) (sym c.in-Mounted.is)
    (subst (λ (e : End). EndsSo e old had (g.D.Device.disk c.into_device.result) (g.D.Device.status c.into_device.result)) (sym c.end_of.ensures.is)
    (subst (λ (d : Disk). EndsSo (end_for s.errno) old had d (g.D.Device.status c.into_device.result)) (sym c.into_device.ensures.disk)
    (subst (λ (x : Status). EndsSo (end_for s.errno) old had new.disk x) (sym c.into_device.ensures.status) ends)))
