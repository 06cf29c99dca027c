-- What is left of a point, step by step.
use Rattle.std.proofs.Common.{◌≡◌, ℕ, ◌+◌, ◌<◌, ◌≤◌, Bool, true, false, cond, length, nat_lt, refl, sym, ap, arith}
use Rattle.std.proofs.lemmas.Bool.{ltb-false, ltb-true}
use Rattle.sn_layout.specs.declared.gate.Gate.{Gate}
use Rattle.sn_layout.specs.declared.gate.Gate.TheVariants.{Open, Closed}
use Rattle.sn_layout.specs.Geometry.{map_blocks}
use Rattle.sn_root.specs.Replacing.{closing_writes}
use Rattle.sn_cp.specs.Points.{Work}
use Rattle.sn_cp.specs.Steps.{IsWhole, IsWithin, next_stage, syncs_of, with_map, writes_of}
use Rattle.sn_cp.specs.Counting.{IsStageOf, root_steps, steps_left, syncs_left, writes_left}
use Rattle.sn_cp.specs.Showing.{IsBeforeOpening}
use Rattle.sn_cp.specs.declared.stage.Stage.{Stage}
use Rattle.sn_cp.specs.declared.stage.Stage.TheVariants.{Blocks, MapBlocks, Stored, Shut, Bodied, Done}

-- ---- the new blocks are fewer than those of the disk

map_some : (w : Work) → IsWhole w → 1 ≤ map_blocks w.blocks
map_some w whole = omega (arith, whole.size.least)

-- ---- stages

pub stage_within : (w : Work) (stage : Stage) → IsWithin w stage → IsStageOf w stage
stage_within w (Blocks k) within = within
stage_within w (MapBlocks k) within = within
stage_within w Stored within = within
stage_within w Shut within = tt
stage_within w Bodied within = tt
stage_within w Done within = tt

-- a stage that isn't the last has a step
pub stage_goes_on : (w : Work) (stage : Stage) → IsStageOf w stage → (stage ≡ Done → ⊥) → IsWithin w stage
stage_goes_on w (Blocks k) is other = is
stage_goes_on w (MapBlocks k) is other = is
stage_goes_on w Stored is other = is
stage_goes_on w Shut is other = tt
stage_goes_on w Bodied is other = tt
stage_goes_on w Done is other = other refl

block_next : (w : Work) → IsWhole w → (k : ℕ) (more : Bool) → nat_lt (k + 1) (length w.plan.blocks) ≡ more → IsWithin w (cond more (Blocks (k + 1)) (MapBlocks 0))
block_next w whole k true is = ltb-true (k + 1) (length w.plan.blocks) is
block_next w whole k false is = omega (arith, map_some w whole)

root_next : (w : Work) (gate : Gate) → w.gate ≡ gate → IsWithin w (with_map gate)
root_next w Open is = is
root_next w Closed is = tt

map_next : (w : Work) (k : ℕ) (more : Bool) → nat_lt (k + 1) (map_blocks w.blocks) ≡ more → IsWithin w (cond more (MapBlocks (k + 1)) (with_map w.gate))
map_next w k true is = ltb-true (k + 1) (map_blocks w.blocks) is
map_next w k false is = root_next w w.gate refl

-- after each step but the last there is one more
pub goes_on : (w : Work) (stage : Stage) → IsWhole w → IsWithin w stage → IsBeforeOpening stage → IsWithin w (next_stage w stage)
goes_on w (Blocks k) whole within before = block_next w whole k (nat_lt (k + 1) (length w.plan.blocks)) refl
goes_on w (MapBlocks k) whole within before = map_next w k (nat_lt (k + 1) (map_blocks w.blocks)) refl
goes_on w Stored whole within before = tt
goes_on w Shut whole within before = tt
goes_on w Bodied whole within before = absurd before
goes_on w Done whole within before = absurd before

-- after a step it is at a stage again
pub stage_next : (w : Work) (stage : Stage) → IsWhole w → IsWithin w stage → IsStageOf w (next_stage w stage)
stage_next w (Blocks k) whole within = stage_within w (next_stage w (Blocks k)) (goes_on w (Blocks k) whole within tt)
stage_next w (MapBlocks k) whole within = stage_within w (next_stage w (MapBlocks k)) (goes_on w (MapBlocks k) whole within tt)
stage_next w Stored whole within = tt
stage_next w Shut whole within = tt
stage_next w Bodied whole within = tt
stage_next w Done whole within = tt

-- ---- counts

-- what is left after a step
record LeavesLess (w : Work) (stage after : Stage) : Type 0 where
  steps : steps_left w after + 1 ≡ steps_left w stage
  writes : writes_left w stage ≡ writes_of w stage + writes_left w after
  syncs : syncs_left w stage ≡ syncs_of w stage + syncs_left w after

block_less : (w : Work) (k : ℕ) (more : Bool) → nat_lt (k + 1) (length w.plan.blocks) ≡ more → k < length w.plan.blocks → LeavesLess w (Blocks k) (cond more (Blocks (k + 1)) (MapBlocks 0))
block_less w k true is within =
    let some = ltb-true (k + 1) (length w.plan.blocks) is in
    record { steps = omega (arith, some, within); writes = omega (arith, some, within); syncs = omega arith }
block_less w k false is within =
    let last = ltb-false (k + 1) (length w.plan.blocks) is in
    record { steps = omega (arith, last, within); writes = omega (arith, last, within); syncs = omega arith }

root_less : (w : Work) (gate : Gate) → w.gate ≡ gate → (steps_left w (with_map gate) ≡ root_steps w.gate) × (writes_left w (with_map gate) ≡ closing_writes w.gate + 9) × (syncs_left w (with_map gate) ≡ root_steps w.gate)
root_less w Open is = (sym (ap root_steps is), refl, sym (ap root_steps is))
root_less w Closed is = (sym (ap root_steps is), sym (ap (λ (gate : Gate). closing_writes gate + 9) is), sym (ap root_steps is))

map_less : (w : Work) (k : ℕ) (more : Bool) → nat_lt (k + 1) (map_blocks w.blocks) ≡ more → k < map_blocks w.blocks → LeavesLess w (MapBlocks k) (cond more (MapBlocks (k + 1)) (with_map w.gate))
map_less w k true is within =
    let some = ltb-true (k + 1) (map_blocks w.blocks) is in
    let none : syncs_of w (MapBlocks k) ≡ 0 = ap (λ (b : Bool). cond b 0 1) is in
    record { steps = omega (arith, some, within); writes = omega (arith, some, within); syncs = omega (arith, none) }
map_less w k false is within =
    let last = ltb-false (k + 1) (map_blocks w.blocks) is in
    let one : syncs_of w (MapBlocks k) ≡ 1 = ap (λ (b : Bool). cond b 0 1) is in
    let root = root_less w w.gate refl in
    record { steps = omega (arith, last, within, root.0); writes = omega (arith, last, within, root.1); syncs = omega (arith, one, root.2) }

leaves_less : (w : Work) (stage : Stage) → IsWithin w stage → LeavesLess w stage (next_stage w stage)
leaves_less w (Blocks k) within = block_less w k (nat_lt (k + 1) (length w.plan.blocks)) refl within
leaves_less w (MapBlocks k) within = map_less w k (nat_lt (k + 1) (map_blocks w.blocks)) refl within
leaves_less w Stored within = record { steps = refl; writes = refl; syncs = refl }
leaves_less w Shut within = record { steps = refl; writes = refl; syncs = refl }
leaves_less w Bodied within = record { steps = refl; writes = refl; syncs = refl }
leaves_less w Done within = absurd within

pub steps_counted : (w : Work) (stage : Stage) → IsWhole w → IsWithin w stage → steps_left w (next_stage w stage) + 1 ≡ steps_left w stage
steps_counted w stage whole within = (leaves_less w stage within).steps

pub calls_counted : (w : Work) (stage : Stage) → IsWhole w → IsWithin w stage
    → (writes_left w stage ≡ writes_of w stage + writes_left w (next_stage w stage)) × (syncs_left w stage ≡ syncs_of w stage + syncs_left w (next_stage w stage))
calls_counted w stage whole within = ((leaves_less w stage within).writes, (leaves_less w stage within).syncs)

root_most : (gate : Gate) → root_steps gate ≤ 3
root_most Open = omega arith
root_most Closed = omega arith

pub steps_few : (w : Work) (stage : Stage) → steps_left w stage + 1 ≤ length w.plan.blocks + map_blocks w.blocks + 4
steps_few w (Blocks k) = omega (arith, root_most w.gate)
steps_few w (MapBlocks k) = omega (arith, root_most w.gate)
steps_few w Stored = omega arith
steps_few w Shut = omega arith
steps_few w Bodied = omega arith
steps_few w Done = omega arith
