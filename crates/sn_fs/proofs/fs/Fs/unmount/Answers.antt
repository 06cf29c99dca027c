use Rattle.std.proofs.Common.{inl, inr, refl, sym, subst, ◌∙◌}
use Rattle.std.proofs.lemmas.Bool.{true≢false}
use Rattle.sn_device.specs.Disk.{Disk}
use Rattle.sn_device.specs.declared.status.Status.{Status}
use Rattle.sn_cp_whole.specs.declared.fault.PointFault.TheVariants as point
use Rattle.sn_fs.specs.Filesystem.{held}
use Rattle.sn_events.specs.Unmounting.{HasUnmounted}
use Rattle.sn_events.proofs.FinishLemmas.{is_fin}
use Rattle.sn_fs.proofs.fs.Fs.unmount.Goals as goal

pub returns-then-fs-clause-refused : goal.returns-then-fs-clause-refused
returns-then-fs-clause-refused g c told running = absurd (true≢false (sym c.if-fs.true ∙ running))

-- the point in progress was cut off
pub returns-in-Err-clause-refused : goal.returns-in-Err-clause-refused
returns-in-Err-clause-refused g c told running = record { fault = c.in-Err.fault; told = c.errno_of.ensures; stops = c.in-Err.ensures.stopped; unpointed = λ r. inl (c.in-Err.ensures.finishes told r) }

pub returns-in_default-settled_changes-clause-refused : goal.returns-in_default-settled_changes-clause-refused
returns-in_default-settled_changes-clause-refused g c told running =
    record { fault = point.Memory; told = refl; stops = c.in_default.ensures.stopped; unpointed = λ r. inr (held c.finish.new.self, c.in_default.ensures.finishes told r, refl) }

pub returns-in-Ok-made-clause-unmounted : goal.returns-in-Ok-made-clause-unmounted
returns-in-Ok-made-clause-unmounted g c told =
    let old = held c.args.self in
    let fin = held c.finish.new.self in
    let new = held c.make_last_point-made.new.self in
    subst (λ (s : Status). HasUnmounted old (g.D.Device.disk c.into_device.result) s) (sym c.into_device.ensures.status)
    (subst (λ (d : Disk). HasUnmounted old d new.status) (sym c.into_device.ensures.disk) (λ r.
    let so = c.in_default.ensures.finishes told r in
    let made = c.in-Ok-made.ensures.points told (is_fin old fin so r).ready in
    record { fin = fin; finish = so; mid = made.0; pointed = made.1; disk_is = made.2; status_is = made.3 }))

pub returns-in-Err-made-clause-refused : goal.returns-in-Err-made-clause-refused
returns-in-Err-made-clause-refused g c told running =
    let old = held c.args.self in
    let fin = held c.finish.new.self in
    record {
      fault = c.in-Err-made.fault;
      told = c.errno_of-in-Err-made.ensures;
      stops = c.in-Err-made.ensures.stopped;
      unpointed = λ r. let so = c.in_default.ensures.finishes told r in inr (fin, so, c.in-Err-made.ensures.points told (is_fin old fin so r).ready);
    }
