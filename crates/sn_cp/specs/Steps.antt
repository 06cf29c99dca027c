-- What one step of a point does.
use Rattle.std.specs.Prelude.{◌≡◌, ℕ, ◌+◌, ◌<◌, length, nat_lt, if◌then◌else◌, Result, OnOk}
use Rattle.std.specs.List.{AllByRecursion}
use Rattle.std.specs.List.Sorted.{IsStrictlyIncreasing}
use Rattle.sn_device.specs.Sectors.{Single}
use Rattle.sn_device.specs.Disk.{Disk, Always}
use Rattle.sn_device.specs.Crash.{Touches}
use Rattle.sn_layout.specs.Bytes.{AreNumbers}
use Rattle.sn_layout.specs.declared.gate.Gate.{Gate}
use Rattle.sn_layout.specs.declared.gate.Gate.TheVariants.{Open, Closed}
use Rattle.sn_layout.specs.declared.geometry.Area.TheVariants.{Data, MapCopy}
use Rattle.sn_layout.specs.Geometry.{IsDiskSize, IsIn, start_of, map_blocks, gate_sector}
use Rattle.sn_layout.specs.RootBody.{IsRootBody}
use Rattle.sn_block.specs.Effects.{Nowhere}
use Rattle.sn_ondisk.specs.Blocks.{InBlock}
use Rattle.sn_ondisk.specs.Roots.{body_block}
use Rattle.sn_root.specs.Slots.{gate_in}
use Rattle.sn_root.specs.Replacing.{InClosing, closing_writes, KeepsRoot, ChangesRoot}
use Rattle.sn_opening.specs.Points.{StandsAt, Written, numbers_written}
use Rattle.sn_cp.specs.Points.{HasCome, Work}
use Rattle.sn_cp.specs.declared.stage.Stage.{Stage}
use Rattle.sn_cp.specs.declared.stage.Stage.TheVariants.{Blocks, MapBlocks, Stored, Shut, Bodied, Done}

-- ---- stages

-- after the last of the map all is synced, and a gate that is closed isn't closed again
abbrev pub with_map : Gate → Stage
with_map Open = Stored
with_map Closed = Shut

abbrev pub next_stage : Work → Stage → Stage
next_stage w (Blocks k) = if nat_lt (k + 1) (length w.plan.blocks) then Blocks (k + 1) else MapBlocks 0
next_stage w (MapBlocks k) = if nat_lt (k + 1) (map_blocks w.blocks) then MapBlocks (k + 1) else with_map w.gate
next_stage w Stored = Shut
next_stage w Shut = Bodied
next_stage w stage = Done

-- it has a step to make, which writes something
abbrev pub IsWithin : Work → Stage → Type 0
IsWithin w (Blocks k) = k < length w.plan.blocks
IsWithin w (MapBlocks k) = k < map_blocks w.blocks
IsWithin w Stored = w.gate ≡ Open
IsWithin w Done = ⊥
IsWithin w stage = Unit {0}

-- ---- what a step takes for granted

-- What it writes is in the data area, no block twice, and its map has a word for each block.
pub record IsWhole (w : Work) : Type 0 where
  pub size : IsDiskSize w.blocks
  pub place : AllByRecursion (λ (b : Written). IsIn w.blocks Data b.0) w.plan.blocks
  pub once : IsStrictlyIncreasing (numbers_written w.plan.blocks)
  pub words : length w.plan.words ≡ w.blocks
  pub fits : AreNumbers 4 w.plan.words
  pub next : IsRootBody w.plan.next

-- The gate of the slot is as it was found, until it is closed.
abbrev pub GateIs : Work → Stage → Disk → Type 0
GateIs w Shut d = Unit {0}
GateIs w Bodied d = Unit {0}
GateIs w Done d = Unit {0}
GateIs w stage d = Always d (λ c. gate_in c w.slot ≡ w.gate)

-- The disk is where the point takes it to be.
pub record StandsAtStage (w : Work) (stage : Stage) (d : Disk) : Type 0 where
  pub reached : HasCome w stage d
  pub gate : GateIs w stage d

-- ---- what it does

-- the sectors of the new block with this number in the list
pub record InNewBlock (w : Work) (k sector : ℕ) : Type 0 where
  pub block : Written
  pub stands : StandsAt w.plan.blocks k block
  pub within : InBlock block.0 sector

-- the sectors that a step writes
abbrev pub InStep : Work → Stage → ℕ → Type 0
InStep w (Blocks k) = InNewBlock w k
InStep w (MapBlocks k) = InBlock (start_of w.blocks (MapCopy w.slot) + k)
InStep w Stored = InClosing w.slot w.gate
InStep w Shut = InBlock (body_block w.slot)
InStep w Bodied = Single (gate_sector w.slot)
InStep w Done = Nowhere

-- In the root's parts a crash at any moment leaves the root that was newest, with its records; in the gate's opening the next one, too. Blocks and map are apart from these: what is said of them is where they are.
abbrev pub TakesRoot : {T E : Type 0} → Work → Stage → Result T E → Disk → Disk → Type 0
TakesRoot w (Blocks k) result old new = Unit {0}
TakesRoot w (MapBlocks k) result old new = Unit {0}
TakesRoot w Stored result old new = KeepsRoot w.slot old new
TakesRoot w Shut result old new = KeepsRoot w.slot old new
TakesRoot w Bodied result old new = ChangesRoot w.slot w.plan.next result old new
TakesRoot w Done result old new = Unit {0}

-- Whatever the answer, only the step's own sectors were written. At `Ok` the point is at its next stage, in all that a crash may leave where that is said of the stage.
pub record StepsTo {T E : Type 0} (w : Work) (stage : Stage) (result : Result T E) (old new : Disk) : Type 0 where
  pub touched : Touches (InStep w stage) old new
  pub root : TakesRoot w stage result old new
  pub next : OnOk result (StandsAtStage w (next_stage w stage) new)

-- ---- what it costs

abbrev pub writes_of : Work → Stage → ℕ
writes_of w Stored = closing_writes w.gate
writes_of w Bodied = 1
writes_of w Done = 0
writes_of w stage = 8

abbrev pub syncs_of : Work → Stage → ℕ
syncs_of w (Blocks k) = 0
syncs_of w (MapBlocks k) = if nat_lt (k + 1) (map_blocks w.blocks) then 0 else 1
syncs_of w Done = 0
syncs_of w stage = 1
