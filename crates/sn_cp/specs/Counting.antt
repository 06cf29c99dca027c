-- What is left of a point.
use Rattle.std.specs.Prelude.{◌≡◌, ℕ, ◌+◌, ◌-◌, ◌*◌, ◌<◌, ◌≤◌, length}
use Rattle.sn_layout.specs.declared.gate.Gate.{Gate}
use Rattle.sn_layout.specs.declared.gate.Gate.TheVariants.{Open, Closed}
use Rattle.sn_layout.specs.Geometry.{map_blocks}
use Rattle.sn_root.specs.Replacing.{closing_writes}
use Rattle.sn_cp.specs.Points.{Work}
use Rattle.sn_cp.specs.Steps.{IsWhole, IsWithin, next_stage, syncs_of, writes_of}
use Rattle.sn_cp.specs.declared.stage.Stage.{Stage}
use Rattle.sn_cp.specs.declared.stage.Stage.TheVariants.{Blocks, MapBlocks, Stored, Shut, Bodied, Done}

-- it has a step to make, or is done
abbrev pub IsStageOf : Work → Stage → Type 0
IsStageOf w (Blocks k) = k < length w.plan.blocks
IsStageOf w (MapBlocks k) = k < map_blocks w.blocks
IsStageOf w Stored = w.gate ≡ Open
IsStageOf w stage = Unit {0}

-- the steps of a root, of which the closing of its slot is left out where the gate is closed
abbrev pub root_steps : Gate → ℕ
root_steps Open = 3
root_steps Closed = 2

-- how many steps are left
abbrev pub steps_left : Work → Stage → ℕ
steps_left w (Blocks k) = (length w.plan.blocks - k) + map_blocks w.blocks + root_steps w.gate
steps_left w (MapBlocks k) = (map_blocks w.blocks - k) + root_steps w.gate
steps_left w Stored = 3
steps_left w Shut = 2
steps_left w Bodied = 1
steps_left w Done = 0

-- how many writes they make
abbrev pub writes_left : Work → Stage → ℕ
writes_left w (Blocks k) = 8 * (length w.plan.blocks - k) + 8 * map_blocks w.blocks + (closing_writes w.gate + 9)
writes_left w (MapBlocks k) = 8 * (map_blocks w.blocks - k) + (closing_writes w.gate + 9)
writes_left w Stored = closing_writes w.gate + 9
writes_left w Shut = 9
writes_left w Bodied = 1
writes_left w Done = 0

-- and how many syncs: one after the map, and one in each step of the root
abbrev pub syncs_left : Work → Stage → ℕ
syncs_left w Stored = 3
syncs_left w Shut = 2
syncs_left w Bodied = 1
syncs_left w Done = 0
syncs_left w stage = root_steps w.gate + 1

-- Each step leaves one less.
abbrev pub StepsAreCounted : Type 0
StepsAreCounted = (w : Work) (stage : Stage) → IsWhole w → IsWithin w stage → steps_left w (next_stage w stage) + 1 ≡ steps_left w stage

-- With the one that begins it a point of F new blocks and M blocks of the map has at most F + M + 4 steps.
abbrev pub StepsAreFew : Type 0
StepsAreFew = (w : Work) (stage : Stage) → steps_left w stage + 1 ≤ length w.plan.blocks + map_blocks w.blocks + 4

-- What is left of writes and syncs is those of the next step and what that leaves.
abbrev pub CallsAreCounted : Type 0
CallsAreCounted = (w : Work) (stage : Stage) → IsWhole w → IsWithin w stage
    → (writes_left w stage ≡ writes_of w stage + writes_left w (next_stage w stage)) × (syncs_left w stage ≡ syncs_of w stage + syncs_left w (next_stage w stage))
