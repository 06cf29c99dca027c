-- A consistency point in memory, as what it writes and how far it is.
use Rattle.std.specs.Prelude.{ℕ, ◌==◌, if◌then◌else◌, map}
use Rattle.sn_device.specs.Disk.{Disk, IsSynced}
use Rattle.sn_layout.specs.declared.gate.Gate.{Gate}
use Rattle.sn_layout.specs.declared.geometry.Slot.{Slot}
use Rattle.sn_opening.specs.Points.{HasReached, IsStored, Plan, Written}
use Rattle.sn_opening.specs.Points as far
use Rattle.sn_tree.specs.declared.new_block.NewBlock.{NewBlock}
use Rattle.sn_cp.specs.declared.point.Point.{Point}
use Rattle.sn_cp.specs.declared.stage.Stage.{Stage}
use Rattle.sn_cp.specs.declared.stage.Stage.TheVariants.{Blocks, MapBlocks, Stored, Shut, Bodied, Done}

-- what a point writes, on a disk of so many blocks, and the slot that it replaces, with the gate that this had
pub record Work : Type 0 where
  pub blocks : ℕ
  pub slot : Slot
  pub gate : Gate
  pub plan : Plan

abbrev pub written_by : NewBlock → Written
written_by block = (block.number, block.bytes.value)

abbrev pub work_of : Point → Work
work_of p = record { blocks = p.geometry; slot = p.slot; gate = p.gate; plan = record { blocks = map written_by p.blocks.items; words = p.map; next = p.next } }

abbrev pub stage_of : Point → Stage
stage_of p = p.stage

-- the first stage of a point with so many new blocks
abbrev pub first_stage : ℕ → Stage
first_stage count = if count == 0 then MapBlocks 0 else Blocks 0

-- The point is this far: what `HasReached` says of each stage, and once it is done, blocks and map are in place with the gate open, and nothing is unsynced.
abbrev pub HasCome : Work → Stage → Disk → Type 0
HasCome w (Blocks k) d = HasReached w.blocks d w.slot w.plan (far.Blocks k)
HasCome w (MapBlocks k) d = HasReached w.blocks d w.slot w.plan (far.MapBlocks k)
HasCome w Stored d = HasReached w.blocks d w.slot w.plan far.Stored
HasCome w Shut d = HasReached w.blocks d w.slot w.plan far.Shut
HasCome w Bodied d = HasReached w.blocks d w.slot w.plan far.Bodied
HasCome w Done d = IsStored w.blocks d w.slot w.plan × IsSynced d
