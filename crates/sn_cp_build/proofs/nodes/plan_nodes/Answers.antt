use Rattle.std.proofs.Common.{◌≡◌, List, IsTrue, Err, [], refl, take, ap, sym, subst, ◌∙◌, arith}
use Rattle.std.proofs.lemmas.Result.{err_from_is_err_and}
use Rattle.sn_device.specs.Disk.{Disk, reads}
use Rattle.sn_device.specs.declared.status.Status.{Status}
use Rattle.sn_block.specs.Lending.{device_of}
use Rattle.sn_inode.specs.declared.changes.InodeChange.{InodeChange}
use Rattle.sn_ondisk.specs.Trees.{store_of}
use Rattle.sn_overlay.specs.Overlays.{layer_of}
use Rattle.sn_tree.specs.declared.fault.PlanFault.TheVariants.{Full, Tree}
use Rattle.sn_tree_read.specs.declared.fault.TreeFault.TheVariants.{Damaged}
use Rattle.sn_cp_nodes.specs.Built.{IsGround, IsSafeGround}
use Rattle.sn_cp_build.specs.Planned.{AreBuilt, none, numbers_of}
use Rattle.sn_cp_build.proofs.BuiltLemmas.{has_grown}
use Rattle.sn_cp_build.proofs.RiseLemmas.{changes_rise}
use Rattle.sn_cp_build.proofs.StepLemmas.{all_built, built_then, damaged_then, full_then, taken_rise, inside_left, left_first, left_then}
use Rattle.sn_cp_build.proofs.nodes.plan_nodes.Goals as goal

pub loop-index-init : goal.loop-index-init
loop-index-init g c = record {
  left = left_first (layer_of c.args.changes.now);
  same = λ told. refl;
  status = refl;
  built = subst (λ (cs : List InodeChange). AreBuilt (IsTrue g.D.Device.tells_bytes) c.args.limits.now (store_of (reads (g.D.Device.disk (device_of c.args.blocks.now)))) c.args.file.now (layer_of c.args.changes.now) c.args.build.now [] cs c.args.build.now) (sym c.new-planned.ensures.items) none;
}

pub plan_next-requires-clause-within : goal.plan_next-requires-clause-within
plan_next-requires-clause-within g c = inside_left (layer_of c.args.changes.now) (layer_of c.loop-index.changes) c.loop-index.index _ c.loop-index.invariant.left c.nodes-index-end.result.now c.nodes-index-end.ensures c.loop-index-test.true

pub loop-index-preserved : goal.loop-index-preserved
loop-index-preserved g c =
    let inside = inside_left (layer_of c.args.changes.now) (layer_of c.loop-index.changes) c.loop-index.index _ c.loop-index.invariant.left c.nodes-index-end.result.now c.nodes-index-end.ensures c.loop-index-test.true in
    record {
      left = left_then (IsTrue g.D.Device.tells_bytes) c.args.limits.now (store_of (reads (g.D.Device.disk (device_of c.args.blocks.now)))) (store_of (reads (g.D.Device.disk (device_of c.loop-index.blocks)))) c.args.file.now (layer_of c.args.changes.now) (layer_of c.loop-index.changes)
          c.args.build.now c.loop-index.build c.plan_next.new.build c.loop-index.index c.loop-index.planned.items c.push_listed.new.planned.items c.in_ok-change.change c.loop-index.invariant.left inside
          (layer_of c.plan_next.new.changes) c.in_ok-change.ensures.left;
      same = λ told. c.plan_next.ensures.same told ∙ c.loop-index.invariant.same told;
      status = c.in_ok-change.ensures.counts.other (λ e. cc) ∙ c.loop-index.invariant.status;
      built = built_then (IsTrue g.D.Device.tells_bytes) c.args.limits.now (store_of (reads (g.D.Device.disk (device_of c.args.blocks.now)))) (store_of (reads (g.D.Device.disk (device_of c.loop-index.blocks)))) c.args.file.now (layer_of c.args.changes.now) (layer_of c.loop-index.changes)
          c.args.build.now c.loop-index.build c.plan_next.new.build c.loop-index.index c.loop-index.planned.items c.push_listed.new.planned.items c.in_ok-change.change c.loop-index.invariant.left inside
          (λ told. ap (λ (d : Disk). store_of (reads d)) (c.loop-index.invariant.same told)) c.loop-index.invariant.built c.in_ok-change.ensures.is c.in_ok-change.ensures.builds c.in_ok-push_listed.ensures;
    }

pub returns-clause-built : goal.returns-clause-built
returns-clause-built g c =
    all_built (IsTrue g.D.Device.tells_bytes) c.args.limits.now (store_of (reads (g.D.Device.disk (device_of c.args.blocks.now)))) c.args.file.now (layer_of c.args.changes.now) c.args.build.now c.loop-index.build c.loop-index.index c.loop-index.planned.items
    c.nodes-index-end.result.now c.nodes-index-end.ensures (omega (arith, c.loop-index-test.false)) c.loop-index.invariant.built

pub returns-clause-can : goal.returns-clause-can
returns-clause-can g c =
    (has_grown c.args.limits.now (store_of (reads (g.D.Device.disk (device_of c.args.blocks.now)))) c.args.file.now (layer_of c.args.changes.now) (IsTrue g.D.Device.tells_bytes) c.args.build.now
    (take c.loop-index.index (numbers_of (layer_of c.args.changes.now))) c.loop-index.planned.items c.loop-index.build c.loop-index.invariant.built).can

pub returns-clause-rise : goal.returns-clause-rise
returns-clause-rise g c =
    changes_rise (IsTrue g.D.Device.tells_bytes) c.args.limits.now (store_of (reads (g.D.Device.disk (device_of c.args.blocks.now)))) c.args.file.now (layer_of c.args.changes.now) c.args.build.now
    (take c.loop-index.index (numbers_of (layer_of c.args.changes.now))) c.loop-index.planned.items c.loop-index.build c.loop-index.invariant.built
    (taken_rise (layer_of c.args.changes.now) c.loop-index.index)

pub returns-in_err-change-clause-full : goal.returns-in_err-change-clause-full
returns-in_err-change-clause-full g c = λ told full n ground.
    let p = err_from_is_err_and c.from_residual.result c.from_residual.ensures.1 in
    let fault : c.in_err-change.field-0.0 ≡ Full = cc (p.1, p.2) in
    let s = store_of (reads (g.D.Device.disk (device_of c.args.blocks.now))) in
    let t = store_of (reads (g.D.Device.disk (device_of c.loop-index.blocks))) in
    let inside = inside_left (layer_of c.args.changes.now) (layer_of c.loop-index.changes) c.loop-index.index _ c.loop-index.invariant.left c.nodes-index-end.result.now c.nodes-index-end.ensures c.loop-index-test.true in
    full_then (IsTrue g.D.Device.tells_bytes) c.args.limits.now s c.args.file.now (layer_of c.args.changes.now) (layer_of c.loop-index.changes) c.args.build.now c.loop-index.build c.loop-index.index c.loop-index.planned.items
    c.loop-index.invariant.left inside c.loop-index.invariant.built t
    (c.in_err-change.ensures.full told (ap (λ f. Err f) fault) n (layer_of c.args.changes.now)
    (subst (λ (d : Disk). IsGround c.args.limits.now n (store_of (reads d)) c.args.file.now (layer_of c.args.changes.now)) (sym (c.loop-index.invariant.same told)) ground))

pub returns-in_err-change-clause-damaged : goal.returns-in_err-change-clause-damaged
returns-in_err-change-clause-damaged g c = λ told block damaged n safe.
    let p = err_from_is_err_and c.from_residual.result c.from_residual.ensures.1 in
    let fault : c.in_err-change.field-0.0 ≡ Tree (Damaged block) = cc (p.1, p.2) in
    let layer = layer_of c.args.changes.now in
    let build = c.loop-index.build in
    let s = store_of (reads (g.D.Device.disk (device_of c.args.blocks.now))) in
    let inside = inside_left layer (layer_of c.loop-index.changes) c.loop-index.index _ c.loop-index.invariant.left c.nodes-index-end.result.now c.nodes-index-end.ensures c.loop-index-test.true in
    damaged_then (IsTrue g.D.Device.tells_bytes) c.args.limits.now s c.args.file.now layer (layer_of c.loop-index.changes) c.args.build.now build c.loop-index.index c.loop-index.planned.items
    c.loop-index.invariant.left inside c.loop-index.invariant.built n (g.D.Device.status (device_of c.args.blocks.now)).sectors safe
    (λ nodes names written later. c.in_err-change.ensures.damaged told block (ap (λ f. Err f) fault) n layer nodes names written
    (subst (λ (d : Disk). IsSafeGround c.args.limits.now n (g.D.Device.status (device_of c.loop-index.blocks)).sectors (store_of (reads d)) c.args.file.now layer build) (sym (c.loop-index.invariant.same told))
    (subst (λ (st : Status). IsSafeGround c.args.limits.now n st.sectors s c.args.file.now layer build) (sym c.loop-index.invariant.status) later)))
