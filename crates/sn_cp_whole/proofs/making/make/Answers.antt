use Rattle.std.proofs.Common.{Err, ap, subst, sym, ◌∙◌, arith}
use Rattle.sn_block.specs.Lending.{device_of}
use Rattle.sn_cp.specs.Points.{stage_of, work_of}
use Rattle.sn_held.specs.Held.{Held, RunsReady}
use Rattle.sn_held.proofs.EventLemmas.{ready_with}
use Rattle.sn_log.specs.Positions.{LogPosition}
use Rattle.sn_device.specs.Disk.{Disk}
use Rattle.sn_overlay.specs.Layers.{Layer}
use Rattle.sn_overlay.specs.Overlays.{layer_of, no_changes}
use Rattle.sn_cp_whole.specs.declared.base.PointBase.{PointBase}
use Rattle.sn_cp_whole.specs.declared.going.Begun.{Begun}
use Rattle.sn_model.specs.Steps.{pointed}
use Rattle.sn_model.specs.World.{World, trees_of}
use Rattle.sn_model.specs.Settling.{nameless_in}
use Rattle.sn_model.specs.declared.outcome.AskedPoint.{AskedPoint}
use Rattle.sn_model.specs.declared.outcome.AskedPoint.TheVariants.{Restores}
use Rattle.sn_held.specs.Rooms.{RoomCounts, begun, done, dropping}
use Rattle.sn_cp_held.specs.Snapshots.{live_behind, trees_behind}
use Rattle.sn_cp_progress.specs.Meaning.{progress_over}
use Rattle.sn_cp_progress.specs.Progress.{world_to}
use Rattle.sn_cp_whole.specs.Going.{going_of}
use Rattle.sn_cp_whole.specs.Making.{MakesPoint, over_world, with_parts}
use Rattle.sn_cp_whole.specs.Planning.{kept_in}
use Rattle.sn_cp_whole.proofs.PointLemmas.{dropped_can, finished_costs, joined, leads_back, refused, unbegun_costs, unfinished_costs, with_dropped, world_after, world_asked}
use Rattle.sn_cp_whole.proofs.RecoverLemmas.{point_apart}
use Rattle.sn_cp_whole.proofs.making.make.Goals as goal

-- what is held once it has begun
abbrev after_begin : Held → LogPosition → RoomCounts → PointBase → Begun → Disk → Held
after_begin h at room base begins disk = record h { at = at; room = begun room; base = kept_in base (layer_of begins.since); disk = disk }

pub returns-in-Err-clause-point : goal.returns-in-Err-clause-point
returns-in-Err-clause-point g c told h world rr can =
    refused c.in-Err.fault world.live c.args.asked.now world _ _ _ _ _ _ _ _ (c.in-Err.ensures.begins told (with_parts h c.args.log.now c.args.room.now (g.D.Device.disk (device_of c.args.blocks.now))) world rr can)

-- what is asked of a mount before a snapshot is brought back: it counts the files without names of that one among the dropped
pub returns-in-Err-clause-restores : goal.returns-in-Err-clause-restores
returns-in-Err-clause-restores g c told h world before name rr is can =
    let layer = layer_of c.args.changed.now in
    let count = nameless_in can.tree in
    let held = with_parts h c.args.log.now (dropping count c.args.room.now) (g.D.Device.disk (device_of c.args.blocks.now)) in
    let asked = c.args.asked.now in
    let begins = c.in-Err.ensures.restores told held world before name (with_dropped _ world _ count rr) is (dropped_can name layer c.args.room.now world count can) (omega arith) in
    let kept = kept_in c.args.base.now before in
    subst (λ (a : AskedPoint). MakesPoint (Err c.in-Err.fault) a world (g.D.Device.disk (device_of c.args.blocks.now)) (with_parts h c.begin_point.new.log c.args.room.now (g.D.Device.disk (device_of c.begin_point.new.blocks))) (kept_in c.args.base.now no_changes)) is
    (refused c.in-Err.fault (live_behind asked (trees_of world)) asked world held c.begin_point.new.log c.begin_point.new.log c.args.room.now _ _ kept _ begins)

pub returns-in-Err-clause-costs : goal.returns-in-Err-clause-costs
returns-in-Err-clause-costs g c = unbegun_costs c.begin_point.result c.in-Err.fault _ _ _ _ c.in-Err.is c.begin_point.ensures.costs

pub returns-in_default-clause-point : goal.returns-in_default-clause-point
returns-in_default-clause-point g c told h world rr can =
    let asked = c.args.asked.now in
    let begins = c.in-Ok.ensures.begins told (with_parts h c.args.log.now c.args.room.now (g.D.Device.disk (device_of c.args.blocks.now))) world rr can in
    let rest = c.in_default.ensures.finishes told (after_begin h c.begin_point.new.log c.args.room.now c.args.base.now c.in-Ok.begun (g.D.Device.disk (device_of c.begin_point.new.blocks))) world (trees_behind asked (trees_of world)) begins.1 in
    joined world (world_after asked world) (pointed asked world) (world_asked asked world can) _ _ _ begins.0 rest.0

pub returns-in_default-clause-restores : goal.returns-in_default-clause-restores
returns-in_default-clause-restores g c told h world before name rr is can =
    let layer = layer_of c.args.changed.now in
    let count = nameless_in can.tree in
    let room = dropping count c.args.room.now in
    let asked = c.args.asked.now in
    let begins = c.in-Ok.ensures.restores told (with_parts h c.args.log.now room (g.D.Device.disk (device_of c.args.blocks.now))) world before name (with_dropped _ world _ count rr) is (dropped_can name layer c.args.room.now world count can) (omega arith) in
    let rest = c.in_default.ensures.leads told (after_begin h c.begin_point.new.log room c.args.base.now c.in-Ok.begun (g.D.Device.disk (device_of c.begin_point.new.blocks))) world (live_behind asked (trees_of world)) (trees_behind asked (trees_of world)) begins.1 in
    let going = going_of c.in-Ok.begun.going in
    joined world (world_to (live_behind asked (trees_of world)) (progress_over going (trees_behind asked (trees_of world))) world) (pointed (Restores name) world) (leads_back asked name world going is) _ _ _ begins.0 rest.0

pub returns-in_default-clause-touched : goal.returns-in_default-clause-touched
returns-in_default-clause-touched g c told =
    let going = c.in-Ok.ensures.going in
    point_apart (work_of c.in-Ok.begun.going.point) going.whole c.args.base.now.slot going.slot c.args.log.now.blocks _ _ _ going.blocks (c.in-Ok.ensures.touched told) (c.in_default.ensures.touched told)

pub returns-in_default-clause-costs : goal.returns-in_default-clause-costs
returns-in_default-clause-costs g c =
    let going = c.in-Ok.ensures.going in
    unfinished_costs _ _ (work_of c.in-Ok.begun.going.point) (stage_of c.in-Ok.begun.going.point) going.blocks going.first going.few _ _ _ c.in-Ok.ensures.costs.done _ c.in_default.ensures.counts c.in_default.ensures.counts.cause

pub returns-clause-point : goal.returns-clause-point
returns-clause-point g c told h world rr can =
    let asked = c.args.asked.now in
    let next = pointed asked world in
    let begins = c.in-Ok.ensures.begins told (with_parts h c.args.log.now c.args.room.now (g.D.Device.disk (device_of c.args.blocks.now))) world rr can in
    let rest = c.in-Ok-finish.ensures.finishes told (after_begin h c.begin_point.new.log c.args.room.now c.args.base.now c.in-Ok.begun (g.D.Device.disk (device_of c.begin_point.new.blocks))) world (trees_behind asked (trees_of world)) begins.1 in
    let room = c.end_point.ensures.counts ∙ ap (done c.in-Ok.begun.going.free) c.begin_point-2.ensures in
    let held : World → RoomCounts → Held = λ w r. over_world w (with_parts h c.begin_point.new.log r (g.D.Device.disk (device_of c.finish.new.blocks))) in
    let counts : RoomCounts = done c.in-Ok.begun.going.free (begun c.args.room.now) in
    let behind = ready_with _ (world_after asked world) _ h.kept h.kept_since h.base h.point h.status rest.1 in (
      joined world (world_after asked world) next (world_asked asked world can) _ _ _ begins.0 rest.0,
      subst (λ (r : RoomCounts). RunsReady (held next r) next (kept_in c.finish.new.base no_changes)) (sym room)
          (subst (λ (l : Layer). RunsReady (held next counts) next (kept_in c.finish.new.base l)) c.in-Ok.ensures.empty
          (subst (λ (w : World). RunsReady (held w counts) w (kept_in c.finish.new.base (layer_of c.in-Ok.begun.since))) (world_asked asked world can) behind)),
    )

pub returns-clause-restores : goal.returns-clause-restores
returns-clause-restores g c told h world before name rr is can =
    let layer = layer_of c.args.changed.now in
    let count = nameless_in can.tree in
    let full = dropping count c.args.room.now in
    let asked = c.args.asked.now in
    let next = pointed (Restores name) world in
    let begins = c.in-Ok.ensures.restores told (with_parts h c.args.log.now full (g.D.Device.disk (device_of c.args.blocks.now))) world before name (with_dropped _ world _ count rr) is (dropped_can name layer c.args.room.now world count can) (omega arith) in
    let rest = c.in-Ok-finish.ensures.leads told (after_begin h c.begin_point.new.log full c.args.base.now c.in-Ok.begun (g.D.Device.disk (device_of c.begin_point.new.blocks))) world (live_behind asked (trees_of world)) (trees_behind asked (trees_of world)) begins.1 in
    let going = going_of c.in-Ok.begun.going in
    let after = world_to (live_behind asked (trees_of world)) (progress_over going (trees_behind asked (trees_of world))) world in
    let room = c.end_point.ensures.counts ∙ ap (done c.in-Ok.begun.going.free) c.begin_point-2.ensures in
    let held : World → RoomCounts → Held = λ w r. over_world w (with_parts h c.begin_point.new.log r (g.D.Device.disk (device_of c.finish.new.blocks))) in
    let counts : RoomCounts = done c.in-Ok.begun.going.free (begun c.args.room.now) in
    let behind = ready_with _ after _ h.kept h.kept_since h.base h.point h.status rest.1 in (
      joined world after next (leads_back asked name world going is) _ _ _ begins.0 rest.0,
      subst (λ (r : RoomCounts). RunsReady (held next r) next (kept_in c.finish.new.base no_changes)) (sym room)
          (subst (λ (l : Layer). RunsReady (held next counts) next (kept_in c.finish.new.base l)) c.in-Ok.ensures.empty
          (subst (λ (w : World). RunsReady (held w counts) w (kept_in c.finish.new.base (layer_of c.in-Ok.begun.since))) (leads_back asked name world going is) behind)),
    )

pub returns-clause-touched : goal.returns-clause-touched
returns-clause-touched g c told =
    let going = c.in-Ok.ensures.going in
    point_apart (work_of c.in-Ok.begun.going.point) going.whole c.args.base.now.slot going.slot c.args.log.now.blocks _ _ _ going.blocks (c.in-Ok.ensures.touched told) (c.in-Ok-finish.ensures.touched told)

pub returns-clause-costs : goal.returns-clause-costs
returns-clause-costs g c =
    let going = c.in-Ok.ensures.going in
    finished_costs _ _ (work_of c.in-Ok.begun.going.point) (stage_of c.in-Ok.begun.going.point) going.blocks going.first going.few _ _ _ c.in-Ok.ensures.costs.done _ c.in-Ok-finish.ensures.counts _ c.in-Ok-finish.ensures.counts.done
