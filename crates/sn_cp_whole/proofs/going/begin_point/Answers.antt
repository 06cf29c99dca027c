use Rattle.std.proofs.Common.{ℕ, IsTrue, refl, sym, ap, subst, ◌∙◌}
use Rattle.sn_alloc.specs.Taking.{free_data}
use Rattle.sn_block.specs.Lending.{device_of}
use Rattle.sn_cp_held.specs.Builds.{plan_of, room_behind, work_for}
use Rattle.sn_cp_held.specs.Snapshots.{live_behind}
use Rattle.sn_cp_held.specs.Wholes.{IsOfLive}
use Rattle.sn_cp_held.proofs.LiveLemmas.{leads_to}
use Rattle.sn_model.specs.World.{trees_of}
use Rattle.sn_model.specs.declared.outcome.AskedPoint.{AskedPoint}
use Rattle.sn_model.specs.declared.outcome.AskedPoint.TheVariants.{Restores}
use Rattle.sn_cp_whole.specs.Asking.{CanBeMade}
use Rattle.sn_device.specs.Disk.{reads}
use Rattle.sn_layout.specs.declared.geometry.Area.TheVariants.{Data}
use Rattle.sn_layout.specs.Geometry.{start_of}
use Rattle.sn_log.specs.Positions.{LogPosition}
use Rattle.sn_ondisk.specs.Trees.{store_of}
use Rattle.sn_overlay.specs.Overlays.{layer_of}
use Rattle.sn_root.specs.Slots.{gate_in}
use Rattle.sn_root.specs.declared.following.PointKind.TheVariants.{Ordinary}
use Rattle.sn_cp_whole.specs.Planning.{CanBeBuiltFor, IsPlanned, kept_in}
use Rattle.sn_cp_whole.specs.declared.fault.PointFault.TheVariants as fault
use Rattle.sn_cp_whole.proofs.PointLemmas.{asked_for, asked_live, asked_made, begins_leave, begun_costs, gate_stays, goes_on, is_going, keeps_live, leaves, nothing_written, restore_for, restore_live, restore_made, unplanned}
use Rattle.sn_cp_whole.proofs.RecoverLemmas.{begins_apart, begins_writes, untouched}
use Rattle.sn_cp_whole.proofs.going.begin_point.Goals as goal

pub returns-in-Err-clause-begins : goal.returns-in-Err-clause-begins
returns-in-Err-clause-begins g c told h world rr can =
    let base = c.args.base.now in
    let layer = layer_of c.args.changed.now in
    let n_is = c.geometry-geometry.ensures ∙ ap (λ (at : LogPosition). at.blocks) c.position.ensures in
    nothing_written _ world _ rr c.args.asked.now world.live h (kept_in base layer) c.plan.result c.in-Err.fault _ _ c.in-Err.is (c.in-Err.ensures.same told)
    (λ e. c.plan.ensures.damaged told e
    (subst (λ (n : ℕ). CanBeBuiltFor n (store_of (reads (g.D.Device.disk (device_of c.args.blocks.now)))) (kept_in base layer) c.args.asked.now) (sym n_is) (asked_for _ world _ rr c.args.asked.now can))
    (asked_made _ world _ rr c.args.asked.now c.requires.base.body can))

pub returns-in-Err-clause-restores : goal.returns-in-Err-clause-restores
returns-in-Err-clause-restores g c told h world before name rr is can dropped =
    let base = c.args.base.now in
    let layer = layer_of c.args.changed.now in
    let n_is = c.geometry-geometry.ensures ∙ ap (λ (at : LogPosition). at.blocks) c.position.ensures in
    nothing_written _ world _ rr c.args.asked.now (live_behind c.args.asked.now (trees_of world)) h (kept_in base before) c.plan.result c.in-Err.fault _ _ c.in-Err.is (c.in-Err.ensures.same told)
    (λ e. c.plan.ensures.damaged told e
    (subst (λ (asked : AskedPoint). CanBeBuiltFor c.geometry-geometry.result (store_of (reads (g.D.Device.disk (device_of c.args.blocks.now)))) (kept_in base layer) asked) (sym is)
    (subst (λ (n : ℕ). CanBeBuiltFor n (store_of (reads (g.D.Device.disk (device_of c.args.blocks.now)))) (kept_in base layer) (Restores name)) (sym n_is) (restore_for _ world _ rr name layer can)))
    (subst (λ (asked : AskedPoint). CanBeMade asked base.root.limits base.root.snapshots) (sym is) (restore_made _ world _ rr name layer can)))

pub returns-in-Err-clause-wrote : goal.returns-in-Err-clause-wrote
returns-in-Err-clause-wrote g c told = untouched _ _ _ (c.in-Err.ensures.same told)

pub returns-in-Err-clause-touched : goal.returns-in-Err-clause-touched
returns-in-Err-clause-touched g c told = untouched _ _ _ (c.in-Err.ensures.same told)

pub returns-in-Err-clause-costs : goal.returns-in-Err-clause-costs
returns-in-Err-clause-costs g c = unplanned c.in-Err.fault _ _ c.in-Err.ensures.cause

pub returns-in_default-clause-begins : goal.returns-in_default-clause-begins
returns-in_default-clause-begins g c told h world rr can = c.in-Ok.ensures.same told

pub returns-in_default-clause-wrote : goal.returns-in_default-clause-wrote
returns-in_default-clause-wrote g c told = untouched _ _ _ (c.in-Ok.ensures.same told)

pub returns-in_default-clause-touched : goal.returns-in_default-clause-touched
returns-in_default-clause-touched g c told = untouched _ _ _ (c.in-Ok.ensures.same told)

pub returns-in_default-clause-costs : goal.returns-in_default-clause-costs
returns-in_default-clause-costs g c = unplanned fault.Memory _ _ c.in-Ok.ensures.idle

pub returns-in-Err-Device-clause-begins : goal.returns-in-Err-Device-clause-begins
returns-in-Err-Device-clause-begins g c told h world rr can = begins_leave _ world _ rr _ _ _ (c.in-Ok.ensures.same told) (c.in-Err-Device.ensures.bytes told)

pub returns-in-Err-Device-clause-restores : goal.returns-in-Err-Device-clause-restores
returns-in-Err-Device-clause-restores g c told h world before name rr is can dropped = begins_leave _ world _ rr _ _ _ (c.in-Ok.ensures.same told) (c.in-Err-Device.ensures.bytes told)

pub returns-in-Err-Memory-clause-wrote : goal.returns-in-Err-Memory-clause-wrote
returns-in-Err-Memory-clause-wrote g c told = begins_writes c.args.log.now _ _ _ _ (c.in-Ok.ensures.same told) (c.in-Err-Memory.ensures.bytes told)

pub returns-in-Err-Memory-clause-touched : goal.returns-in-Err-Memory-clause-touched
returns-in-Err-Memory-clause-touched g c told = begins_apart c.args.log.now c.args.base.now.slot _ _ _ _ (c.in-Ok.ensures.same told) (c.in-Err-Memory.ensures.bytes told)

pub returns-in-Err-Device-clause-wrote : goal.returns-in-Err-Device-clause-wrote
returns-in-Err-Device-clause-wrote g c told = begins_writes c.args.log.now _ _ _ _ (c.in-Ok.ensures.same told) (c.in-Err-Device.ensures.bytes told)

pub returns-in-Err-Device-clause-touched : goal.returns-in-Err-Device-clause-touched
returns-in-Err-Device-clause-touched g c told = begins_apart c.args.log.now c.args.base.now.slot _ _ _ _ (c.in-Ok.ensures.same told) (c.in-Err-Device.ensures.bytes told)

pub returns-clause-begins : goal.returns-clause-begins
returns-clause-begins g c told h world rr can =
    let base = c.args.base.now in
    let layer = layer_of c.args.changed.now in
    let asked = c.args.asked.now in
    let p = c.in-Ok.planned in
    let n_is = c.geometry-geometry.ensures ∙ ap (λ (at : LogPosition). at.blocks) c.position.ensures in
    let plans = subst (λ (n : ℕ). IsPlanned (IsTrue g.D.Device.tells_bytes) n (store_of (reads (g.D.Device.disk (device_of c.args.blocks.now)))) Ordinary (kept_in base layer) asked p.built p.next) n_is c.in-Ok.ensures.planned in
    let live = asked_live _ world _ rr asked can p.built p.next p.gate plans told c.in-Ok.ensures.spelled in
    let begins = c.in-Ok-begin.ensures.bytes told in
    let same = c.in-Ok.ensures.same told in
    let whole = g.met.D.Device.whole (device_of c.begin.new.blocks) told in
    let work = c.new.ensures.work ∙ (λ i. record { blocks = n_is i; slot = c.other-slot.ensures i; gate = p.gate; plan = plan_of p.built p.next }) in
    let free = c.count_free_from-free.ensures ∙ ap (free_data p.built.map) (c.start.ensures ∙ ap (λ (n : ℕ). start_of n Data) n_is) in
    let stands = c.new.ensures.stands (g.D.Device.disk (device_of c.begin.new.blocks))
    (gate_stays _ _ c.other-slot.result p.gate _ _ begins.touched begins.synced ((λ i. gate_in (reads (same i)) (c.other-slot.ensures i)) ∙ c.in-Ok.ensures.gate told)) in (
      leaves _ world _ rr asked p.built p.next p.gate live _ _ same begins whole,
      goes_on _ world _ rr asked p.built p.next p.gate live _ _ same begins whole
          (record { point = c.new.result; free = c.count_free_from-free.result }) (layer_of c.in-Ok-empty_overlay.since) _ world.live (sym (leads_to asked (trees_of world) (keeps_live asked world can)))
          work c.new.ensures.within stands free c.in-Ok-empty_overlay.ensures.empty c.in-Ok-begin.ensures.turned,
    )

pub returns-clause-restores : goal.returns-clause-restores
returns-clause-restores g c told h world before name rr is can dropped =
    let base = c.args.base.now in
    let layer = layer_of c.args.changed.now in
    let asked = c.args.asked.now in
    let p = c.in-Ok.planned in
    let n_is = c.geometry-geometry.ensures ∙ ap (λ (at : LogPosition). at.blocks) c.position.ensures in
    let plans = subst (λ (n : ℕ). IsPlanned (IsTrue g.D.Device.tells_bytes) n (store_of (reads (g.D.Device.disk (device_of c.args.blocks.now)))) Ordinary (kept_in base layer) asked p.built p.next) n_is c.in-Ok.ensures.planned in
    let there = subst (λ (a : AskedPoint). IsPlanned (IsTrue g.D.Device.tells_bytes) c.args.log.now.blocks (store_of (reads (g.D.Device.disk (device_of c.args.blocks.now)))) Ordinary (kept_in base layer) a p.built p.next) is plans in
    let of = restore_live _ world _ rr name layer can dropped p.built p.next p.gate there told c.in-Ok.ensures.spelled in
    let live = subst (λ (a : AskedPoint). IsOfLive _ world rr.runs a (work_for c.args.log.now.blocks (kept_in base before) p.gate p.built p.next) (room_behind c.args.log.now.blocks p.built)) (sym is) of in
    let begins = c.in-Ok-begin.ensures.bytes told in
    let same = c.in-Ok.ensures.same told in
    let whole = g.met.D.Device.whole (device_of c.begin.new.blocks) told in
    let work = c.new.ensures.work ∙ (λ i. record { blocks = n_is i; slot = c.other-slot.ensures i; gate = p.gate; plan = plan_of p.built p.next }) in
    let free = c.count_free_from-free.ensures ∙ ap (free_data p.built.map) (c.start.ensures ∙ ap (λ (n : ℕ). start_of n Data) n_is) in
    let stands = c.new.ensures.stands (g.D.Device.disk (device_of c.begin.new.blocks))
    (gate_stays _ _ c.other-slot.result p.gate _ _ begins.touched begins.synced ((λ i. gate_in (reads (same i)) (c.other-slot.ensures i)) ∙ c.in-Ok.ensures.gate told)) in (
      leaves _ world _ rr asked p.built p.next p.gate live _ _ same begins whole,
      goes_on _ world _ rr asked p.built p.next p.gate live _ _ same begins whole
          (record { point = c.new.result; free = c.count_free_from-free.result }) (layer_of c.in-Ok-empty_overlay.since) _ (live_behind asked (trees_of world)) refl
          work c.new.ensures.within stands free c.in-Ok-empty_overlay.ensures.empty c.in-Ok-begin.ensures.turned,
    )

pub returns-clause-going : goal.returns-clause-going
returns-clause-going g c =
    let p = c.in-Ok.planned in
    let n_is = c.geometry-geometry.ensures ∙ ap (λ (at : LogPosition). at.blocks) c.position.ensures in
    is_going (store_of (reads (g.D.Device.disk (device_of c.args.blocks.now)))) _ c.geometry-geometry.result c.args.base.now (layer_of c.args.changed.now) c.args.asked.now p.built p.next c.other-slot.result p.gate (record { point = c.new.result; free = c.count_free_from-free.result })
    n_is c.blocks-blocks.ensures.valid (c.requires.base.words ∙ sym n_is) c.in-Ok.ensures.planned c.in-Ok.ensures.spelled c.other-slot.ensures
    c.new.ensures.work c.new.ensures.stage c.new.ensures.within (c.count_free_from-free.ensures ∙ ap (free_data p.built.map) c.start.ensures)

pub returns-clause-stands : goal.returns-clause-stands
returns-clause-stands g c told =
    let begins = c.in-Ok-begin.ensures.bytes told in
    let same = c.in-Ok.ensures.same told in
    c.new.ensures.stands (g.D.Device.disk (device_of c.begin.new.blocks))
    (gate_stays _ _ c.other-slot.result c.in-Ok.planned.gate _ _ begins.touched begins.synced ((λ i. gate_in (reads (same i)) (c.other-slot.ensures i)) ∙ c.in-Ok.ensures.gate told))

pub returns-clause-wrote : goal.returns-clause-wrote
returns-clause-wrote g c told = begins_writes c.args.log.now _ _ _ _ (c.in-Ok.ensures.same told) (c.in-Ok-begin.ensures.bytes told)

pub returns-clause-touched : goal.returns-clause-touched
returns-clause-touched g c told = begins_apart c.args.log.now c.args.base.now.slot _ _ _ _ (c.in-Ok.ensures.same told) (c.in-Ok-begin.ensures.bytes told)

pub returns-clause-costs : goal.returns-clause-costs
returns-clause-costs g c = begun_costs _ _ _ _ c.in-Ok.ensures.idle c.in-Ok-begin.ensures.counts.done
