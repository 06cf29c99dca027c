use Rattle.std.proofs.Common.{◌≡◌, ℕ, Err, IsTrue, sym, ap, subst, ◌∙◌}
use Rattle.sn_block.specs.Lending.{device_of}
use Rattle.sn_cp.specs.Points.{Work}
use Rattle.sn_cp.specs.Steps.{IsWhole}
use Rattle.sn_cp_held.specs.Builds.{CanBeBuilt, plan_of, work_for}
use Rattle.sn_device.specs.Disk.{Disk, IsSynced, reads}
use Rattle.sn_device.proofs.CrashLemmas.{Always-synced}
use Rattle.sn_ondisk.specs.Trees.{store_of}
use Rattle.sn_overlay.specs.Overlays.{layer_of, no_changes}
use Rattle.sn_model.specs.declared.outcome.AskedPoint.TheVariants.{Plain}
use Rattle.sn_root.specs.Slots.{gate_in}
use Rattle.sn_root.specs.declared.following.PointKind.TheVariants.{Recovery}
use Rattle.sn_cp_whole.specs.Planning.{IsPlanned, kept_in}
use Rattle.sn_cp_whole.specs.declared.fault.PointFault.TheVariants as fault
use Rattle.sn_cp_whole.proofs.PointLemmas.{kept_for, whole_work}
use Rattle.sn_cp_whole.proofs.RecoverLemmas.{few_blocks, finished_steps, image_over, is_recovered, leaves_image, nothing_recovered, unfinished_steps, unplanned_steps, untouched, writes_apart}
use Rattle.sn_cp_whole.proofs.recovering.make_recovery.Goals as goal

pub returns-in-Err-clause-recovery : goal.returns-in-Err-clause-recovery
returns-in-Err-clause-recovery g c told world im in_n r =
    nothing_recovered _ world im _ r c.plan.result c.in-Err.fault _ _ c.in-Err.is (c.in-Err.ensures.same told)
    (λ e can. c.plan.ensures.damaged told e
    (kept_for c.args.geometry _ _ Plain tt (subst (λ (n : ℕ). CanBeBuilt n (store_of (reads (g.D.Device.disk (device_of c.args.blocks.now)))) (kept_in c.args.base.now (layer_of c.args.changed.now))) in_n can)) tt)

pub returns-in-Err-clause-damaged : goal.returns-in-Err-clause-damaged
returns-in-Err-clause-damaged g c told e can =
    let same : c.in-Err.fault ≡ fault.Damaged = cc in
    c.plan.ensures.damaged told (c.in-Err.is ∙ ap Err same) (kept_for c.args.geometry _ _ Plain tt can) tt

pub returns-in-Err-clause-aged : goal.returns-in-Err-clause-aged
returns-in-Err-clause-aged g c e left =
    let same : c.in-Err.fault ≡ fault.Age = cc in
    c.plan.ensures.aged (c.in-Err.is ∙ ap Err same) (left.generation, left.epoch, tt)

pub returns-in-Err-clause-touched : goal.returns-in-Err-clause-touched
returns-in-Err-clause-touched g c told = untouched _ _ _ (c.in-Err.ensures.same told)

pub returns-in-Err-clause-costs : goal.returns-in-Err-clause-costs
returns-in-Err-clause-costs g c = unplanned_steps c.in-Err.fault _ _ _ _ c.in-Err.ensures.cause

pub finish-requires-clause-whole : goal.finish-requires-clause-whole
finish-requires-clause-whole g c =
    let base = c.args.base.now in
    let p = c.in-Ok.planned in
    subst (λ (w : Work). IsWhole w) (sym c.new-point.ensures.work)
    (whole_work c.args.geometry base.root.limits base.map (layer_of c.args.changed.now) p.built p.next c.other-slot.result p.gate c.blocks-blocks.ensures.valid c.requires.words c.in-Ok.ensures.planned.well c.in-Ok.ensures.spelled c.in-Ok.ensures.planned.follows.body)

pub finish-requires-clause-stands : goal.finish-requires-clause-stands
finish-requires-clause-stands g c told =
    let d = g.D.Device.disk (device_of c.plan.new.blocks) in
    let same = c.in-Ok.ensures.same told in
    c.new-point.ensures.stands d
    (Always-synced d (λ x. gate_in x c.other-slot.result ≡ c.in-Ok.planned.gate) (subst (λ (e : Disk). IsSynced e) (sym same) (c.requires.synced told))
    ((λ i. gate_in (reads (same i)) (c.other-slot.ensures i)) ∙ c.in-Ok.ensures.gate told))

pub returns-in_default-clause-recovery : goal.returns-in_default-clause-recovery
returns-in_default-clause-recovery g c told world im in_n r =
    let base = c.args.base.now in
    let p = c.in-Ok.planned in
    let plans = subst (λ (n : ℕ). IsPlanned (IsTrue g.D.Device.tells_bytes) n (store_of (reads (g.D.Device.disk (device_of c.args.blocks.now)))) Recovery (kept_in base (layer_of c.args.changed.now)) Plain p.built p.next) (sym in_n) c.in-Ok.ensures.planned in
    leaves_image _ world im _ r p.built p.next p.gate plans told c.in-Ok.ensures.spelled _ _ (c.in-Ok.ensures.same told) (g.met.D.Device.whole (device_of c.finish.new.blocks) told) _ _
    (c.new-point.ensures.work ∙ (λ i. record { blocks = sym in_n i; slot = c.other-slot.ensures i; gate = p.gate; plan = plan_of p.built p.next })) (c.in_default.ensures.bytes told)

pub returns-in_default-clause-touched : goal.returns-in_default-clause-touched
returns-in_default-clause-touched g c told =
    let base = c.args.base.now in
    let p = c.in-Ok.planned in
    writes_apart (record { blocks = c.args.geometry; slot = c.other-slot.result; gate = p.gate; plan = plan_of p.built p.next })
    (whole_work c.args.geometry base.root.limits base.map (layer_of c.args.changed.now) p.built p.next c.other-slot.result p.gate c.blocks-blocks.ensures.valid c.requires.words c.in-Ok.ensures.planned.well c.in-Ok.ensures.spelled c.in-Ok.ensures.planned.follows.body)
    base.slot (sym c.other-slot.ensures) _ _ _ _ _ c.new-point.ensures.work (c.in-Ok.ensures.same told) (c.in_default.ensures.bytes told)

pub returns-in_default-clause-costs : goal.returns-in_default-clause-costs
returns-in_default-clause-costs g c =
    let base = c.args.base.now in
    let p = c.in-Ok.planned in
    unfinished_steps _ _ p.built p.next c.other-slot.result p.gate c.in-Ok.ensures.planned.well.few (few_blocks _ _ _ _ p.built c.requires.words c.in-Ok.ensures.planned.well) _ _ _ c.in-Ok.ensures.idle _ _ _
    c.new-point.ensures.work c.new-point.ensures.stage c.in_default.ensures.counts c.in_default.ensures.counts.cause

pub returns-clause-recovery : goal.returns-clause-recovery
returns-clause-recovery g c told world im in_n r =
    let base = c.args.base.now in
    let p = c.in-Ok.planned in
    let plans = subst (λ (n : ℕ). IsPlanned (IsTrue g.D.Device.tells_bytes) n (store_of (reads (g.D.Device.disk (device_of c.args.blocks.now)))) Recovery (kept_in base (layer_of c.args.changed.now)) Plain p.built p.next) (sym in_n) c.in-Ok.ensures.planned in
    let whole = g.met.D.Device.whole (device_of c.finish.new.blocks) told in
    let work = c.new-point.ensures.work ∙ (λ i. record { blocks = sym in_n i; slot = c.other-slot.ensures i; gate = p.gate; plan = plan_of p.built p.next }) in
    let after = c.in-Ok-finish.ensures.same ∙ work in (
      leaves_image _ world im _ r p.built p.next p.gate plans told c.in-Ok.ensures.spelled _ _ (c.in-Ok.ensures.same told) whole _ _ work (c.in-Ok-finish.ensures.bytes told),
      image_over _ world (work_for im.blocks (kept_in base (layer_of c.args.changed.now)) p.gate p.built p.next) _ _ in_n
          (λ i. record { slot = sym c.other-slot.ensures i; root = sym (c.into_root-root.ensures.root ∙ ap (λ (w : Work). w.plan.next) after) i; words = sym (c.into_root-root.ensures.words ∙ ap (λ (w : Work). w.plan.words) after) i; changed = no_changes })
          (is_recovered _ world im _ r p.built p.next p.gate plans told c.in-Ok.ensures.spelled _ _ (c.in-Ok.ensures.same told) whole _ _ work (c.in-Ok-finish.ensures.bytes told)),
    )

pub returns-clause-touched : goal.returns-clause-touched
returns-clause-touched g c told =
    let base = c.args.base.now in
    let p = c.in-Ok.planned in
    writes_apart (record { blocks = c.args.geometry; slot = c.other-slot.result; gate = p.gate; plan = plan_of p.built p.next })
    (whole_work c.args.geometry base.root.limits base.map (layer_of c.args.changed.now) p.built p.next c.other-slot.result p.gate c.blocks-blocks.ensures.valid c.requires.words c.in-Ok.ensures.planned.well c.in-Ok.ensures.spelled c.in-Ok.ensures.planned.follows.body)
    base.slot (sym c.other-slot.ensures) _ _ _ _ _ c.new-point.ensures.work (c.in-Ok.ensures.same told) (c.in-Ok-finish.ensures.bytes told)

pub returns-clause-costs : goal.returns-clause-costs
returns-clause-costs g c =
    let p = c.in-Ok.planned in
    finished_steps _ _ p.built p.next c.other-slot.result p.gate c.in-Ok.ensures.planned.well.few (few_blocks _ _ _ _ p.built c.requires.words c.in-Ok.ensures.planned.well) _ _ _ c.in-Ok.ensures.idle _ _ _
    c.new-point.ensures.work c.new-point.ensures.stage c.in-Ok-finish.ensures.counts _ c.in-Ok-finish.ensures.counts.done
