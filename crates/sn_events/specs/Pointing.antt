-- A whole point between two events, or in the course of one.
use Rattle.std.specs.Prelude.{◌≡◌, ◌⊎◌, ℕ, ◌+◌, ◌*◌, ◌<◌, ◌≤◌, Bool, true, false, List, Option, None, Some, Result, Ok, Err}
use Rattle.std.specs.FinMap as map
use Rattle.sn_device.specs.Crash.{LeavesOnly, Touches}
use Rattle.sn_layout.specs.declared.gate.Gate.{Gate}
use Rattle.sn_log.specs.Positions.{first_of}
use Rattle.sn_limits.specs.Versions.{limits_written}
use Rattle.sn_model.specs.declared.reply.Errno.{Errno}
use Rattle.sn_model.specs.declared.reply.Progress.{Progress}
use Rattle.sn_model.specs.declared.reply.Progress.TheVariants as progress
use Rattle.sn_model.specs.declared.reply.Errno.TheVariants.{Elimit, Enomem, Eio}
use Rattle.sn_model.specs.Settling.{nameless_in, settle}
use Rattle.sn_model.specs.declared.outcome.AskedPoint.{AskedPoint}
use Rattle.sn_model.specs.declared.outcome.AskedPoint.TheVariants.{Restores}
use Rattle.sn_model.specs.Steps.{pointed}
use Rattle.sn_model.specs.Tree.{Tree}
use Rattle.sn_model.specs.World.{World}
use Rattle.sn_model.specs.Worlds.{IsWorld}
use Rattle.sn_block.specs.Counts.{FailsRead, IsLater, called}
use Rattle.sn_live_world.specs.Restored.{IsRestored}
use Rattle.sn_live_world.specs.declared.fault.LookFault.{LookFault}
use Rattle.sn_live_world.specs.declared.fault.LookFault.TheVariants as look
use Rattle.sn_live_world.specs.declared.restoring.RestoredTree.{RestoredTree}
use Rattle.sn_overlay.specs.Layers.{Layer}
use Rattle.sn_overlay.specs.Needs.{need}
use Rattle.sn_held.specs.Held.{Going, Held, RunsReady}
use Rattle.sn_cp.specs.Counting.{syncs_left, writes_left}
use Rattle.sn_cp.specs.declared.stage.Stage.TheVariants.{Bodied}
use Rattle.sn_cp_progress.specs.Meaning.{EitherImage, RunsWith}
use Rattle.sn_held.specs.Images.{IsImage}
use Rattle.sn_sound.specs.Logs.{HasAgeLeft}
use Rattle.sn_cp_whole.specs.Making.{CanBeAsked, most_syncs, most_writes, syncs_of_point, writes_of_point}
use Rattle.sn_cp_whole.specs.declared.fault.PointFault.{PointFault}
use Rattle.sn_cp_whole.specs.declared.fault.PointFault.TheVariants.{Memory, Age, Read, Damaged, Device}
use Rattle.sn_examine.specs.Failing.{CostsAtMost, HasFailed}
use Rattle.sn_events.specs.Answers.{BuildsFor, BuildsLast, HasBegun, HasFinished, HasGoneOn, IsBesideRoot, IsLastRoot}
use Rattle.sn_events.specs.Mounting.{IsFresh}
use Rattle.sn_root.specs.declared.following.PointKind.TheVariants.{Ordinary}
use Rattle.sn_cp_held.specs.Wholes.{IsFollowing}

-- A point was made of what runs, outside the root that counted: a crash at any moment leaves the settled world from before, or this
-- one, settled, which runs on over the next root.
pub record IsPointedTo (world_after : World) (Builds : Layer → Type 0) (old new : Held) : Type 0 where
  pub between : old.point ≡ None
  pub world : new.world ≡ world_after
  pub fresh : IsFresh new
  pub log : new.at ≡ first_of old.at.blocks (old.at.epoch + 1)
  pub follows : IsFollowing Ordinary old.base.root new.base.root
  pub age : HasAgeLeft new.base.root
  pub moments : LeavesOnly old.disk new.disk (EitherImage old.world world_after)
  pub runs : RunsReady new world_after new.base
  pub touched : Touches (IsBesideRoot old) old.disk new.disk
  pub built : Layer
  pub builds : Builds built
  pub count : ℕ
  pub few : count ≤ need old.base.root.limits built
  pub gate : Gate
  pub costs : new.status ≡ called (writes_of_point old.at.blocks gate count) (syncs_of_point gate) old.status

-- the point of a call, as it asks for it
abbrev pub IsPointed : AskedPoint → Held → Held → Type 0
IsPointed asked old new = IsPointedTo (pointed asked old.world) (BuildsFor asked old) old new

-- that of an unmount, which drops the files that have no name
abbrev pub IsPointedLast : Held → Held → Type 0
IsPointedLast old new = IsPointedTo (settle old.world) (BuildsLast old) old new

-- It was cut off, and a crash leaves the settled world from before, or this one.
pub record IsCutOffIn (world_after : World) (Builds : Layer → Type 0) (old new : Held) : Type 0 where
  pub touched : Touches (IsBesideRoot old) old.disk new.disk
  pub built : Layer
  pub builds : Builds built
  pub moments : LeavesOnly old.disk new.disk (EitherImage old.world world_after)
  pub failed : HasFailed old.status new.status
  pub later : IsLater old.status new.status
  pub costs : CostsAtMost (most_writes old.at.blocks (need old.base.root.limits built)) most_syncs old.status new.status

-- It wasn't begun: nothing has changed but what the device counts; or it was cut off.
abbrev pub IsUnpointedTo : PointFault → World → (Layer → Type 0) → Held → Held → Type 0
IsUnpointedTo Memory world_after Builds old new = new ≡ old
IsUnpointedTo Age world_after Builds old new = (new ≡ old) × IsLastRoot old.base.root
IsUnpointedTo Read world_after Builds old new = (new ≡ record old { status = new.status }) × FailsRead old.status new.status
IsUnpointedTo Damaged world_after Builds old new = ⊥
IsUnpointedTo Device world_after Builds old new = IsCutOffIn world_after Builds old new

abbrev pub IsUnpointed : PointFault → AskedPoint → Held → Held → Type 0
IsUnpointed fault asked old new = IsUnpointedTo fault (pointed asked old.world) (BuildsFor asked old) old new

abbrev pub IsUnpointedLast : PointFault → Held → Held → Type 0
IsUnpointedLast fault old new = IsUnpointedTo fault (settle old.world) (BuildsLast old) old new

-- A step was cut off, and a crash leaves the settled world still.
pub record IsCutStep (old new : Held) : Type 0 where
  pub touched : Touches (IsBesideRoot old) old.disk new.disk
  pub moments : LeavesOnly old.disk new.disk (λ c. IsImage c (settle old.world))
  pub failed : HasFailed old.status new.status
  pub later : IsLater old.status new.status
  pub costs : CostsAtMost 8 1 old.status new.status

-- No step was made: nothing has changed but what the device counts, or it was cut off.
abbrev pub IsUnbegun : PointFault → Held → Held → Type 0
IsUnbegun Memory old new = new ≡ old
IsUnbegun Age old new = (new ≡ old) × IsLastRoot old.base.root
IsUnbegun Read old new = (new ≡ record old { status = new.status }) × FailsRead old.status new.status
IsUnbegun Damaged old new = ⊥
IsUnbegun Device old new = IsCutStep old new

-- The point in progress, if any, was finished: a crash at any moment leaves the settled world, which runs on over the point's root.
pub record IsFinishedTo (old new : Held) : Type 0 where
  pub finished : HasFinished old new
  pub moments : LeavesOnly old.disk new.disk (λ c. IsImage c (settle old.world))
  pub runs : RunsReady new old.world new.base

-- or it was cut off, and a crash leaves the settled world still
pub record IsCutFinishOf (old new : Held) : Type 0 where
  pub going : Going
  pub is : old.point ≡ Some going
  pub touched : Touches (IsBesideRoot old) old.disk new.disk
  pub moments : LeavesOnly old.disk new.disk (λ c. IsImage c (settle old.world))
  pub failed : HasFailed old.status new.status
  pub later : IsLater old.status new.status
  pub costs : CostsAtMost (writes_left going.work going.stage) (syncs_left going.work going.stage) old.status new.status

-- where none is in progress nothing is done
abbrev pub FinishesSo : Result (Unit {0}) PointFault → Option Going → Held → Held → Type 0
FinishesSo (Ok _) None old new = new ≡ old
FinishesSo (Err fault) None old new = ⊥
FinishesSo (Ok _) (Some going) old new = IsFinishedTo old new
FinishesSo (Err fault) (Some going) old new = (fault ≡ Device) × IsCutFinishOf old new

-- of what runs
abbrev pub Finishes : Result (Unit {0}) PointFault → Held → Held → Type 0
Finishes result old new = RunsWith old.point old old.world → FinishesSo result old.point old new

-- it brings a snapshot back
abbrev pub is_restore : AskedPoint → Bool
is_restore (Restores name) = true
is_restore asked = false

-- What is asked for can be made of the snapshots, and leaves a world.
pub record CanPoint (asked : AskedPoint) (world : World) : Type 0 where
  pub can : CanBeAsked asked world
  pub whole : IsWorld limits_written (pointed asked world)
  pub other : is_restore asked ≡ false

-- A snapshot can be brought back: it is there, what that leaves is a world, and a charge for each of its files without names is free.
pub record CanBringBack (name : List ℕ) (h : Held) : Type 0 where
  pub tree : Tree
  pub frozen : map.get h.world.frozen name ≡ Some tree
  pub whole : IsWorld limits_written (pointed (Restores name) h.world)
  pub fits : limits_written.inode_charge * nameless_in tree ≤ h.room.free

-- one or the other
abbrev pub CanMake : AskedPoint → Held → Type 0
CanMake (Restores name) h = CanBringBack name h
CanMake asked h = CanPoint asked h.world

-- and this was prepared to take the live tree's place
pub record IsToBringBack (restored : RestoredTree) (name : List ℕ) (h : Held) : Type 0 where
  pub can : CanBringBack name h
  pub restores : IsRestored restored can.tree

-- of what runs, where no point is in progress
abbrev pub PointsSo : Result (Unit {0}) PointFault → AskedPoint → Held → Held → Type 0
PointsSo (Ok _) asked old new = IsPointed asked old new
PointsSo (Err fault) asked old new = IsUnpointed fault asked old new

-- where it is ready for one that can be asked for
abbrev pub Points : Result (Unit {0}) PointFault → AskedPoint → Held → Held → Type 0
Points result asked old new = RunsReady old old.world old.base → CanPoint asked old.world → PointsSo result asked old new

-- as it was asked for
abbrev pub MakesAsked : Result (Unit {0}) PointFault → AskedPoint → Held → Held → Type 0
MakesAsked result asked old new = RunsReady old old.world old.base → PointsSo result asked old new

-- or for a snapshot that can be brought back
abbrev pub BringsBack : Result (Unit {0}) PointFault → List ℕ → Held → Held → Type 0
BringsBack result name old new = RunsReady old old.world old.base → CanBringBack name old → PointsSo result (Restores name) old new

-- A point has begun: a crash at any moment leaves the settled world, which runs on with it in progress.
pub record IsBegunTo (old new : Held) : Type 0 where
  pub begun : HasBegun old new
  pub moments : LeavesOnly old.disk new.disk (λ c. IsImage c (settle old.world))
  pub touched : Touches (IsBesideRoot old) old.disk new.disk
  pub runs : RunsWith new.point new old.world

-- or it wasn't begun, and costs no more than its beginning would
abbrev pub BeginsSo : Result (Unit {0}) PointFault → Held → Held → Type 0
BeginsSo (Ok _) old new = IsBegunTo old new
BeginsSo (Err fault) old new = IsUnbegun fault old new

abbrev pub Begins : Result (Unit {0}) PointFault → Held → Held → Type 0
Begins result old new = RunsReady old old.world old.base → BeginsSo result old new

-- A step that isn't the last was made: a crash at any moment leaves the settled world, which runs on with the point at its next stage.
pub record IsAdvancedTo (old new : Held) : Type 0 where
  pub gone : HasGoneOn old new
  pub some : (old.status.writes < new.status.writes) × (new.status.writes ≤ old.status.writes + 8) × (new.status.syncs ≤ old.status.syncs + 1)
  pub moments : LeavesOnly old.disk new.disk (λ c. IsImage c (settle old.world))
  pub touched : Touches (IsBesideRoot old) old.disk new.disk
  pub runs : RunsWith new.point new old.world

abbrev pub GoesOnSo : Result (Unit {0}) PointFault → Held → Held → Type 0
GoesOnSo (Ok _) old new = IsAdvancedTo old new
GoesOnSo (Err fault) old new = (fault ≡ Device) × IsCutStep old new

abbrev pub GoesOn : Result (Unit {0}) PointFault → Held → Held → Type 0
GoesOn result old new = RunsWith old.point old old.world → GoesOnSo result old new

-- a step of either kind
abbrev pub AdvancesSo : Result Progress PointFault → Held → Held → Type 0
AdvancesSo (Ok progress.More) old new = (IsBegunTo old new ⊎ IsAdvancedTo old new)
AdvancesSo (Ok progress.Done) old new = (finished : IsFinishedTo old new) × (finished.finished.going.stage ≡ Bodied)
AdvancesSo (Err fault) old new = IsUnbegun fault old new

abbrev pub Advances : Result Progress PointFault → Held → Held → Type 0
Advances result old new = RunsWith old.point old old.world → AdvancesSo result old new

-- why a point isn't made of a snapshot that couldn't be read
abbrev pub point_fault : LookFault → PointFault
point_fault look.Memory = Memory
point_fault look.Read = Read

-- what an event is refused with
abbrev pub errno_of_point : PointFault → Errno
errno_of_point Memory = Enomem
errno_of_point Age = Elimit
errno_of_point Read = Eio
errno_of_point Damaged = Eio
errno_of_point Device = Eio

-- a failure of the device stops the mount
abbrev pub stops_for : PointFault → Bool
stops_for Device = true
stops_for cause = false

abbrev pub stops_point : {T : Type 0} → Result T PointFault → Bool
stops_point (Ok _) = false
stops_point (Err fault) = stops_for fault
