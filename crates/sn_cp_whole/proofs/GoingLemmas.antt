-- What a step of a point in progress makes of a mount.
use Rattle.std.proofs.Common.{◌≡◌, ◌≢◌, [], Result, refl, sym, subst, ◌∙◌}
use Rattle.std.specs.Prelude.{OnOk}
use Rattle.sn_block.proofs.EffectLemmas.{OnOk-both, OnOk-then}
use Rattle.sn_device.specs.Crash.{Touches}
use Rattle.sn_device.specs.Disk.{Disk, reads}
use Rattle.sn_device.specs.Sectors.{AreSectors, Contents}
use Rattle.sn_device.specs.declared.fault.Fault.{Fault}
use Rattle.sn_device.proofs.CrashLemmas.{Always-reads, Touches-within}
use Rattle.sn_held.specs.Held.{Held}
use Rattle.sn_held.proofs.RoomLemmas.{image_same}
use Rattle.sn_layout.specs.declared.root.RootBody.{RootBody}
use Rattle.sn_model.specs.World.{Trees, World}
use Rattle.sn_cp.specs.Points.{Work, stage_of, work_of}
use Rattle.sn_cp.specs.Showing.{InPoint, IsBeforeOpening}
use Rattle.sn_cp.specs.Steps.{InStep, IsWhole, IsWithin, StandsAtStage, StepsTo, next_stage}
use Rattle.sn_cp.specs.declared.point.Point.{Point}
use Rattle.sn_cp.proofs.ShowLemmas.{steps_keep}
use Rattle.sn_ondisk.specs.Trees.{store_of}
use Rattle.sn_opening.specs.Opens.{Shows}
use Rattle.sn_cp.specs.declared.stage.Stage.{Stage}
use Rattle.sn_cp.specs.declared.stage.Stage.TheVariants.{Blocks, MapBlocks, Stored, Shut, Bodied, Done}
use Rattle.sn_cp_progress.specs.Meaning.{progress_over}
use Rattle.sn_cp_progress.specs.Progress.{Progress, RunsOn}
use Rattle.sn_cp_progress.proofs.StepLemmas.{beside, next_within, step_goes_on, step_leaves}
use Rattle.sn_cp_whole.specs.Going.{KeepsTree, StepsOn, going_of}
use Rattle.sn_cp_whole.specs.declared.going.GoingPoint.{GoingPoint}

-- a step that isn't the last comes before the gate is opened
pub before_opening : (w : Work) (stage : Stage) → IsWithin w stage → stage ≢ Bodied → IsBeforeOpening stage
before_opening w (Blocks k) within more = tt
before_opening w (MapBlocks k) within more = tt
before_opening w Stored within more = tt
before_opening w Shut within more = tt
before_opening w Bodied within more = more refl
before_opening w Done within more = within

pub stepped : (w : Work) (stage : Stage) → IsWithin w stage → (result : Result (Unit {0}) Fault) (old new : Disk) → StepsTo w stage result old new → Touches (InPoint w) old new
stepped w stage within result old new step = Touches-within (InStep w stage) (InPoint w) old new (λ i is. record { stage = stage; within = within; of_step = is }) step.touched

pub advanced : (h : Held) (world : World) (old : GoingPoint) (new : Point) (trees : Trees) (result : Result (Unit {0}) Fault) (d : Disk) → RunsOn h world (progress_over (going_of old) trees) → AreSectors (reads d) → IsBeforeOpening (stage_of old.point)
    → StepsTo (work_of old.point) (stage_of old.point) result h.disk d → work_of new ≡ work_of old.point → OnOk result (stage_of new ≡ next_stage (work_of old.point) (stage_of old.point)) → StepsOn result world h (record old { point = new }) trees h.disk d
advanced h world old new trees result d on whole before step same onward = (step_leaves h world (progress_over (going_of old) trees) on result d whole step before, OnOk-both result ahead (step_goes_on h world (progress_over (going_of old) trees) on result d whole step before) onward)
  where
    ahead : RunsOn (record h { disk = d }) world (record { work = work_of old.point; stage = next_stage (work_of old.point) (stage_of old.point); trees = trees; free = old.free }) → stage_of new ≡ next_stage (work_of old.point) (stage_of old.point)
        → RunsOn (record h { disk = d }) world (progress_over (going_of (record old { point = new })) trees)
    ahead runs next =
        subst (λ (w : Work). RunsOn (record h { disk = d }) world (record { work = w; stage = stage_of new; trees = trees; free = old.free })) (sym same)
        (subst (λ (stage : Stage). RunsOn (record h { disk = d }) world (record { work = work_of old.point; stage = stage; trees = trees; free = old.free })) (sym next) runs)

-- it is at its next stage, which has a step to make
module _ (old new : Point) where
  pub within_next : IsWhole (work_of old) → IsWithin (work_of old) (stage_of old) → stage_of old ≢ Bodied → (result : Result (Unit {0}) Fault) → work_of new ≡ work_of old → OnOk result (stage_of new ≡ next_stage (work_of old) (stage_of old))
      → OnOk result (IsWithin (work_of new) (stage_of new))
  within_next whole within more result same onward = OnOk-then result ahead onward
    where
      ahead : stage_of new ≡ next_stage (work_of old) (stage_of old) → IsWithin (work_of new) (stage_of new)
      ahead next =
          subst (λ (w : Work). IsWithin w (stage_of new)) (sym same)
          (subst (IsWithin (work_of old)) (sym next) (next_within (work_of old) (stage_of old) whole within (before_opening (work_of old) (stage_of old) within more)))

  pub stands_next : (result : Result (Unit {0}) Fault) (d : Disk) → work_of new ≡ work_of old → OnOk result (stage_of new ≡ next_stage (work_of old) (stage_of old)) → OnOk result (StandsAtStage (work_of old) (next_stage (work_of old) (stage_of old)) d)
      → OnOk result (StandsAtStage (work_of new) (stage_of new) d)
  stands_next result d same onward stands = OnOk-both result ahead stands onward
    where
      ahead : StandsAtStage (work_of old) (next_stage (work_of old) (stage_of old)) d → stage_of new ≡ next_stage (work_of old) (stage_of old) → StandsAtStage (work_of new) (stage_of new) d
      ahead there next = subst (λ (w : Work). StandsAtStage w (stage_of new) d) (sym same) (subst (λ (stage : Stage). StandsAtStage (work_of old) stage d) (sym next) there)

-- It leaves the tree of the root that counts as it is.
pub tree_stays : (h : Held) (world : World) (p : Progress) (on : RunsOn h world p) (result : Result (Unit {0}) Fault) (d : Disk) → AreSectors (reads d) → IsBeforeOpening p.stage → StepsTo p.work p.stage result h.disk d → KeepsTree h.base.root h.disk d
tree_stays h world p on result d whole before step =
    let r = on.runs in
    let shows = λ (c : Contents). Shows p.work.blocks r.store r.slot r.root r.older r.newer c in
    let now = beside h world p on in
    let then = steps_keep p.work on.point.of.whole r.store r.slot r.root r.older r.newer r.newer [] result h.disk d r.stands.disk.whole now p.stage on.point.within before step in
    let was = Always-reads h.disk shows r.stands.disk.whole now.shown in
    let is = Always-reads d shows whole then.1.shown in
    subst (λ (b : RootBody). KeepsTree b h.disk d) (sym on.point.root) (image_same r.store (store_of (reads d)) r.root is.same ∙ sym (image_same r.store (store_of (reads h.disk)) r.root was.same))
