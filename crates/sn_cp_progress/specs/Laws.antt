-- What events between two steps of a point, and the steps, leave of the world.
use Rattle.std.specs.Prelude.{◌≡◌, ◌⊎◌, ℕ, ◌+◌, ◌≤◌, Bool, true, Some, Result, OnOk}
use Rattle.sn_device.specs.Sectors.{AreSectors}
use Rattle.sn_device.specs.Disk.{Disk, reads}
use Rattle.sn_device.specs.Crash.{LeavesOnly, Touches}
use Rattle.sn_device.specs.declared.fault.Fault.{Fault}
use Rattle.sn_limits.specs.Versions.{limits_written}
use Rattle.sn_log.specs.Positions.{base_at, behind, first_of}
use Rattle.sn_model.specs.declared.change.Change.{Change}
use Rattle.sn_model.specs.Changes.{apply}
use Rattle.sn_model.specs.Charges.{charge_for}
use Rattle.sn_model.specs.NameTree.{IsHierarchy, IsTree}
use Rattle.sn_model.specs.Settling.{nameless_in, settle}
use Rattle.sn_model.specs.Tree.{Tree}
use Rattle.sn_model.specs.declared.outcome.AskedPoint.{AskedPoint}
use Rattle.sn_model.specs.declared.outcome.Outcome.{Outcome}
use Rattle.sn_model.specs.World.{World, trees_of}
use Rattle.sn_ondisk.specs.LogHalf.{InHalf}
use Rattle.sn_overlay.specs.Overlays.{no_changes}
use Rattle.sn_record.specs.Payload.{IsSpelled}
use Rattle.sn_held.specs.Rooms.{begun, done, dropping, fits, fresh, logged}
use Rattle.sn_sound.specs.Logs.{HasAgeLeft}
use Rattle.sn_held.specs.Events.{IsOfTree, LeavesEither, LeavesMore}
use Rattle.sn_held.specs.Held.{CarriesOn, Held, Kept, RunsReady}
use Rattle.sn_held.specs.Images.{IsImage}
use Rattle.sn_cp_progress.specs.Meaning.{EitherImage}
use Rattle.sn_held.specs.Room.{HasRoomFor}
use Rattle.sn_cp.specs.Points.{Work}
use Rattle.sn_cp.specs.Showing.{Finishes, IsBeforeOpening}
use Rattle.sn_cp.specs.Steps.{IsWithin, StandsAtStage, StepsTo, next_stage}
use Rattle.sn_cp.specs.declared.stage.Stage.{Stage}
use Rattle.sn_cp.specs.declared.stage.Stage.TheVariants.{Bodied}
use Rattle.sn_cp_held.specs.Snapshots.{live_behind, trees_behind}
use Rattle.sn_cp_held.specs.Wholes.{HasBegun, IsOfLive}
use Rattle.sn_cp_progress.specs.Progress.{Progress, RunsOn, RunsTo, kept_behind, world_behind, world_to}

-- Once a point has begun, the mount runs on with it in progress: it leads to the trees that were asked for, and nothing has changed since. Where it keeps the live tree, that is the mount's own.
abbrev pub PointsBegin : Type 0
PointsBegin = (h : Held) (world : World) (k : Kept) (r : RunsReady h world k) (asked : AskedPoint) (w : Work) (free : ℕ) (stage : Stage) (d : Disk) → IsOfLive h world r.runs asked w (fresh free) → AreSectors (reads d)
    → HasBegun h world r.runs d → IsWithin w stage → StandsAtStage w stage d
    → RunsTo (record h { room = begun h.room; at = first_of h.at.blocks (r.runs.root.epoch + 1); base = record k { changed = no_changes }; disk = d }) world (live_behind asked (trees_of world)) (record { work = w; stage = stage; trees = trees_behind asked (trees_of world); free = free })

-- A step before the last: a crash at any moment leaves an image of the settled world, and at `Ok` the mount runs on with the point at its next stage.
abbrev pub StepsGoOn : Type 0
StepsGoOn = (h : Held) (world : World) (p : Progress) (result : Result (Unit {0}) Fault) (d : Disk) → RunsOn h world p → AreSectors (reads d) → IsBeforeOpening p.stage → StepsTo p.work p.stage result h.disk d
    → LeavesOnly h.disk d (λ c. IsImage c (settle world)) × OnOk result (RunsOn (record h { disk = d }) world (record p { stage = next_stage p.work p.stage }))

-- The last step: a crash at any moment leaves an image of the settled world, or of that with the point's snapshots. At `Ok` the next root counts with all that was logged since on top of it, and the mount is ready for another point.
abbrev pub PointsEnd : Type 0
PointsEnd = (h : Held) (world : World) (p : Progress) (result : Result (Unit {0}) Fault) (d : Disk) → RunsOn h world p → AreSectors (reads d) → p.stage ≡ Bodied → StepsTo p.work p.stage result h.disk d
    → LeavesOnly h.disk d (EitherImage world (world_behind p world)) × OnOk result (RunsReady (record h { world = world_behind p world; room = done p.free h.room; disk = d }) (world_behind p world) (kept_behind h p))

-- The steps that are left, all in a row: whatever the answer, a crash at any moment leaves an image of the settled world, or of that with the trees that the point leads to, and at `Ok` the mount is ready for another point.
abbrev pub PointsFinish : Type 0
PointsFinish = (h : Held) (world : World) (live : Tree) (p : Progress) (result : Result (Unit {0}) Fault) (d : Disk) → RunsTo h world live p → AreSectors (reads d) → Finishes p.work result h.disk d
    → LeavesOnly h.disk d (EitherImage world (world_to live p world)) × OnOk result (RunsReady (record h { world = world_to live p world; room = done p.free h.room; disk = d }) (world_to live p world) (kept_behind h p))

-- A call that fits on the root that counts fits on that of the point in progress too, with what was charged since that began.
abbrev pub CallsFitOnNext : Type 0
CallsFitOnNext = (h : Held) (world : World) (p : Progress) (nameless : ℕ) (o : Outcome) → RunsOn h world p → fits limits_written h.room nameless o ≡ true → fits limits_written (done p.free h.room) nameless o ≡ true

-- A change of the live tree that has room on the root that counts is appended between two steps: a crash in its course leaves an image of the settled world from before it, or of the one after it.
abbrev pub AppendsLeaveEither : Type 0
AppendsLeaveEither = (old new : Held) (world next : World) (p : Progress) (change : Change) (tree : Tree) (r : RunsOn old world p) → IsSpelled change → apply limits_written change world.live ≡ Some tree → IsOfTree world tree next → IsHierarchy world.live → HasRoomFor old.room world.live change → HasAgeLeft r.runs.root
    → Touches (InHalf (base_at old.at)) old.disk new.disk → LeavesEither old.at change old.disk new.disk
    → LeavesOnly old.disk new.disk (λ c. IsImage c (settle world) ⊎ IsImage c (settle next))

-- Once its record is there, and it is charged, the mount runs over the world after it, with the point where it was.
abbrev pub AppendsGoOn : Type 0
AppendsGoOn = (old new : Held) (world next : World) (p : Progress) (change : Change) (tree : Tree) (r : RunsOn old world p) → IsSpelled change → apply limits_written change world.live ≡ Some tree → IsOfTree world tree next → IsHierarchy world.live → HasRoomFor old.room world.live change → HasAgeLeft r.runs.root
    → Touches (InHalf (base_at old.at)) old.disk new.disk → LeavesMore old.at change old.disk new.disk → AreSectors (reads new.disk)
    → new.at ≡ behind old.at change → new.room ≡ logged (charge_for limits_written world.live change) old.room → new.world ≡ next → nameless_in world.live ≤ nameless_in next.live
    → CarriesOn old.base world.live old.room.charged_since new.base next.live (old.room.charged_since + charge_for limits_written world.live change) → IsTree limits_written next.live
    → RunsOn new next p

-- Files without names that are dropped, and what becomes of sessions, change nothing of the disk nor of the point.
abbrev pub DropsGoOn : Type 0
DropsGoOn = (h : Held) (world next : World) (p : Progress) (kept since : ℕ → Bool) (count : ℕ) (base : Kept) → RunsOn h world p → IsOfTree world world.live next → nameless_in world.live ≤ nameless_in next.live + count
    → CarriesOn h.base world.live h.room.charged_since base next.live h.room.charged_since → IsTree limits_written next.live
    → RunsOn (record h { world = next; kept = kept; kept_since = since; room = dropping count h.room; base = base }) next p
