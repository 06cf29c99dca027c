-- What a point in progress is to a mount, and what its beginning and its end make of one.
use Rattle.std.specs.Prelude.{◌≡◌, ℕ, ◌+◌, ◌≤◌, Result, Ok, Err, IfErr, OnOk, length}
use Rattle.sn_alloc.specs.Taking.{free_data}
use Rattle.sn_block.specs.Counts.{IsLater, called}
use Rattle.sn_device.specs.Crash.{LeavesOnly}
use Rattle.sn_device.specs.Disk.{Disk, reads}
use Rattle.sn_device.specs.declared.fault.Fault.{Fault}
use Rattle.sn_device.specs.declared.status.Status.{Status}
use Rattle.sn_image.specs.Image.{image}
use Rattle.sn_layout.specs.declared.geometry.Area.TheVariants.{Data}
use Rattle.sn_layout.specs.declared.root.RootBody.{RootBody}
use Rattle.sn_layout.specs.Geometry.{other_slot, start_of}
use Rattle.sn_log.specs.Positions.{LogPosition}
use Rattle.sn_model.specs.Settling.{settle}
use Rattle.sn_model.specs.declared.outcome.AskedPoint.{AskedPoint}
use Rattle.sn_model.specs.Tree.{Tree}
use Rattle.sn_model.specs.World.{Trees, World, trees_of}
use Rattle.sn_ondisk.specs.Trees.{store_of}
use Rattle.sn_opening.specs.Worlds.{FrozenTrees}
use Rattle.sn_overlay.specs.Layers.{Layer}
use Rattle.sn_overlay.specs.Needs.{need}
use Rattle.sn_overlay.specs.Overlays.{layer_of}
use Rattle.sn_held.specs.Rooms.{begun, done}
use Rattle.sn_root.specs.declared.following.PointKind.TheVariants.{Ordinary}
use Rattle.sn_sound.specs.Logs.{HasAgeLeft}
use Rattle.sn_held.specs.Held.{Going, Held, Kept, RunsReady}
use Rattle.sn_held.specs.Images.{IsImage}
use Rattle.sn_cp.specs.Points.{first_stage, stage_of, work_of}
use Rattle.sn_cp.specs.Steps.{IsWhole, IsWithin}
use Rattle.sn_cp_held.specs.Snapshots.{trees_behind}
use Rattle.sn_cp_held.specs.Wholes.{IsFollowing}
use Rattle.sn_cp_progress.specs.Meaning.{EitherImage, progress_over}
use Rattle.sn_cp_progress.specs.Progress.{RunsOn, RunsTo}
use Rattle.sn_cp_whole.specs.Making.{HasCauseFor}
use Rattle.sn_cp_whole.specs.declared.base.PointBase.{PointBase}
use Rattle.sn_cp_whole.specs.declared.fault.PointFault.{PointFault}
use Rattle.sn_cp_whole.specs.declared.fault.PointFault.TheVariants.{Memory, Age, Read, Damaged, Device}
use Rattle.sn_cp_whole.specs.declared.going.Begun.{Begun}
use Rattle.sn_cp_whole.specs.declared.going.GoingPoint.{GoingPoint}

-- a point in progress, as `sn_held` speaks of it
abbrev pub going_of : GoingPoint → Going
going_of going = record { work = work_of going.point; stage = stage_of going.point; free = going.free }

-- what is kept once it is done
abbrev pub base_behind : GoingPoint → PointBase
base_behind going = record { slot = (work_of going.point).slot; root = (work_of going.point).plan.next; map = (work_of going.point).plan.words }

-- a mount with this log and disk
abbrev pub with_log : Held → LogPosition → Disk → Held
with_log h at disk = record h { at = at; disk = disk }

abbrev pub with_disk : Held → Disk → Held
with_disk h disk = record h { disk = disk }

-- The tree of a root is as it was.
abbrev pub KeepsTree : RootBody → Disk → Disk → Type 0
KeepsTree root old new = image (store_of (reads new)) root.inode_file ≡ image (store_of (reads old)) root.inode_file

-- At `Ok` the mount runs on with the point in progress, which leads to this live tree with the snapshots that are asked for, and a crash at any moment on the way leaves an image of the settled world; so it does where the device failed. Otherwise nothing was written. What is read can always be used, and is never too much for what is free.
abbrev pub BeginsTo : Tree → Result Begun PointFault → AskedPoint → World → Held → Kept → LogPosition → Disk → Disk → Type 0
BeginsTo live (Ok begins) asked world h k at old new = LeavesOnly old new (λ c. IsImage c (settle world))
    × RunsTo (record h { room = begun h.room; at = at; base = record k { changed = layer_of begins.since }; disk = new }) world live (progress_over (going_of begins.going) (trees_behind asked (trees_of world)))
BeginsTo live (Err Memory) asked world h k at old new = new ≡ old
BeginsTo live (Err Age) asked world h k at old new = new ≡ old
BeginsTo live (Err Read) asked world h k at old new = new ≡ old
BeginsTo live (Err Damaged) asked world h k at old new = ⊥
BeginsTo live (Err Device) asked world h k at old new = LeavesOnly old new (λ c. IsImage c (settle world))

-- which is the mount's own
abbrev pub BeginsPoint : Result Begun PointFault → AskedPoint → World → Held → Kept → LogPosition → Disk → Disk → Type 0
BeginsPoint result asked world h k at old new = BeginsTo world.live result asked world h k at old new

-- A step leaves an image of the settled world to a crash at any moment, whatever the answer, and at `Ok` the mount runs on with the point at its next stage.
abbrev pub StepsOn : Result (Unit {0}) Fault → World → Held → GoingPoint → Trees → Disk → Disk → Type 0
StepsOn result world h going trees old new = LeavesOnly old new (λ c. IsImage c (settle world)) × OnOk result (RunsOn (record h { disk = new }) world (progress_over (going_of going) trees))

-- the world with these frozen trees
abbrev pub with_frozen : World → FrozenTrees → World
with_frozen world frozen = record world { frozen = frozen }

-- Whatever the answer, a crash at any moment leaves an image of the settled world, or of the one that the point leads to. At `Ok` the mount runs on over that, ready for another point, and what was charged since this one began is charged on its root.
abbrev pub FinishesTo : Result (Unit {0}) Fault → World → World → Held → ℕ → Kept → Disk → Disk → Type 0
FinishesTo result world after h free kept old new = LeavesOnly old new (EitherImage world after) × OnOk result (RunsReady (record h { world = after; room = done free h.room; disk = new }) after kept)

-- which has the mount's live tree, with the point's frozen ones
abbrev pub FinishesPoint : Result (Unit {0}) Fault → World → FrozenTrees → Held → ℕ → Kept → Disk → Disk → Type 0
FinishesPoint result world frozen h free kept old new = FinishesTo result world (with_frozen world frozen) h free kept old new

-- A point of what changed begins over a root, on a disk of this many blocks: it writes the root that follows into the slot that doesn't
-- count, with no more new blocks than what changed needs.
pub record IsGoing (n : ℕ) (base : PointBase) (changed : Layer) (going : GoingPoint) : Type 0 where
  pub whole : IsWhole (work_of going.point)
  pub within : IsWithin (work_of going.point) (stage_of going.point)
  pub first : stage_of going.point ≡ first_stage (length (work_of going.point).plan.blocks)
  pub blocks : (work_of going.point).blocks ≡ n
  pub slot : other_slot base.slot ≡ (work_of going.point).slot
  pub follows : IsFollowing Ordinary base.root (work_of going.point).plan.next
  pub age : HasAgeLeft (work_of going.point).plan.next
  pub few : length (work_of going.point).plan.blocks ≤ need base.root.limits changed
  pub free : going.free ≡ free_data (work_of going.point).plan.words (start_of n Data)

-- It costs a write and a sync. What was refused called nothing but a read that failed.
pub record CostsBeginning {T : Type 0} (result : Result T PointFault) (old new : Status) : Type 0 where
  pub done : OnOk result (new ≡ called 1 1 old)
  pub later : IsLater old new
  pub writes : new.writes ≤ old.writes + 1
  pub syncs : new.syncs ≤ old.syncs + 1
  pub cause : IfErr result (λ fault. HasCauseFor fault old new)
