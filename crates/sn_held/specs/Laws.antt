-- What follows from the definitions of what a mounted file system holds.
use Rattle.std.specs.Prelude.{◌≡◌, ◌⊎◌, ℕ, ◌+◌, ◌≤◌, Bool, Some}
use Rattle.sn_device.specs.Sectors.{Contents, AreSectors}
use Rattle.sn_device.specs.Disk.{Always, IsSynced, reads}
use Rattle.sn_device.specs.Crash.{LeavesOnly, Touches}
use Rattle.sn_limits.specs.Versions.{limits_written}
use Rattle.sn_model.specs.declared.change.Change.{Change}
use Rattle.sn_model.specs.Changes.{apply}
use Rattle.sn_model.specs.Charges.{charge_for}
use Rattle.sn_model.specs.NameTree.{IsHierarchy, IsTree}
use Rattle.sn_model.specs.Settling.{nameless_in, settle, without_nameless}
use Rattle.sn_model.specs.Tree.{Tree}
use Rattle.sn_model.specs.World.{World}
use Rattle.sn_ondisk.specs.LogHalf.{InHalf}
use Rattle.sn_record.specs.Payload.{IsSpelled}
use Rattle.sn_sound.specs.Logs.{HasAgeLeft}
use Rattle.sn_log.specs.Positions.{base_at, behind}
use Rattle.sn_held.specs.Events.{IsOfTree, LeavesEither, LeavesMore}
use Rattle.sn_held.specs.Held.{CarriesOn, Held, Kept, Runs, RunsReady}
use Rattle.sn_held.specs.Images.{IsImage}
use Rattle.sn_held.specs.Room.{HasRoomFor}
use Rattle.sn_held.specs.Rooms.{dropping, logged}

-- Contents are an image of one world.
abbrev pub ImagesAreOne : Type 0
ImagesAreOne = (c : Contents) (world other : World) → IsImage c world → IsImage c other → world ≡ other

-- Whatever a crash leaves of a mount that runs is an image of its settled world.
abbrev pub RunsShow : Type 0
RunsShow = (h : Held) (world : World) → Runs h world → Always h.disk (λ c. IsImage c (settle world))

-- Files without names that are dropped, and what becomes of sessions, change nothing of the
-- disk, so that the mount stays ready for a point.
abbrev pub DropsRun : Type 0
DropsRun = (h : Held) (world next : World) (kept since : ℕ → Bool) (count : ℕ) (base : Kept) → RunsReady h world h.base → IsOfTree world world.live next → nameless_in world.live ≤ nameless_in next.live + count
    → CarriesOn h.base world.live h.room.charged base next.live h.room.charged → IsTree limits_written next.live → RunsReady (record h { world = next; kept = kept; kept_since = since; room = dropping count h.room; base = base }) next base

-- A change of the live tree that has room is appended, where another root can follow on the one that counts: a crash in its course leaves an image of the settled world from before it, or of the one after it.
abbrev pub AppendsLeaveEither : Type 0
AppendsLeaveEither = (old new : Held) (world next : World) (change : Change) (tree : Tree) (r : Runs old world) → IsSpelled change → apply limits_written change world.live ≡ Some tree → IsOfTree world tree next → IsHierarchy world.live → HasRoomFor old.room world.live change → HasAgeLeft r.root
    → Touches (InHalf (base_at old.at)) old.disk new.disk → LeavesEither old.at change old.disk new.disk
    → LeavesOnly old.disk new.disk (λ c. IsImage c (settle world) ⊎ IsImage c (settle next))

-- Once its record is there, and it is charged, the mount runs over the world after it, which has no fewer files
-- without names, and is ready for a point of it.
abbrev pub AppendsRun : Type 0
AppendsRun = (old new : Held) (world next : World) (change : Change) (tree : Tree) → RunsReady old world old.base → IsSpelled change → apply limits_written change world.live ≡ Some tree → IsOfTree world tree next → IsHierarchy world.live → HasRoomFor old.room world.live change → HasAgeLeft old.base.root
    → Touches (InHalf (base_at old.at)) old.disk new.disk → LeavesMore old.at change old.disk new.disk
    → AreSectors (reads new.disk) → IsSynced new.disk → new.at ≡ behind old.at change → new.room ≡ logged (charge_for limits_written world.live change) old.room → new.world ≡ next → nameless_in world.live ≤ nameless_in next.live
    → CarriesOn old.base world.live old.room.charged new.base next.live (old.room.charged + charge_for limits_written world.live change) → IsTree limits_written next.live → RunsReady new next new.base

-- Files that are taken away leave no more files without names.
abbrev pub DropsLeaveFewer : Type 0
DropsLeaveFewer = (held : ℕ → Bool) (tree : Tree) → nameless_in (without_nameless held tree) ≤ nameless_in tree
