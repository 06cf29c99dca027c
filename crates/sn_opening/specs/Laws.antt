-- What a disk opens to, and on what that depends.
use Rattle.std.specs.Prelude.{◌≡◌, ℕ, List, ◌∷◌, ◌++◌, Some}
use Rattle.std.specs.FinMap as map
use Rattle.std.specs.Option.{option_map}
use Rattle.sn_device.specs.Sectors.{Contents}
use Rattle.sn_device.specs.Disk.{Disk, Always}
use Rattle.sn_device.specs.Crash.{LeavesOnly}
use Rattle.sn_layout.specs.declared.geometry.Slot.{Slot}
use Rattle.sn_layout.specs.declared.root.RootBody.{RootBody}
use Rattle.sn_layout.specs.declared.snapshot.Snapshot.{Snapshot}
use Rattle.sn_model.specs.declared.change.Change.{Change}
use Rattle.sn_model.specs.Changes.{apply_all}
use Rattle.sn_model.specs.Machine.{State}
use Rattle.sn_model.specs.Settling.{settle}
use Rattle.sn_model.specs.Tree.{Tree}
use Rattle.sn_model.specs.World.{World}
use Rattle.sn_ondisk.specs.TreeLaws.{SameIn}
use Rattle.sn_ondisk.specs.Trees.{Store, store_of}
use Rattle.sn_image.specs.Image.{image}
use Rattle.sn_opening.specs.Spelled.{AreSpelled}
use Rattle.sn_opening.specs.Worlds.{StandsFor, all_reach, found, frozen_of, snapshot_named}
use Rattle.sn_opening.specs.Opens.{IsDisk, Opens, Shows}
use Rattle.sn_opening.specs.Grounds.{Ground, RunsOver, ShowsOne, ShowsState, last_state}

-- A disk opens to one world.
abbrev pub OpensToOne : Type 0
OpensToOne = (n : ℕ) (c : Contents) (world other : World) → IsDisk n c → Opens n c world → Opens n c other → world ≡ other

-- It is settled: to settle it changes nothing.
abbrev pub OpensToSettled : Type 0
OpensToSettled = (n : ℕ) (c : Contents) (world : World) → Opens n c world → settle world ≡ world

-- Under a name is the image of the newest root's snapshot of that name, and where none has it, nothing. No change of the log is made to it, and no file goes.
abbrev pub SnapshotsAreTheirImages : Type 0
SnapshotsAreTheirImages = (n : ℕ) (c : Contents) (world : World) (o : Opens n c world) (name : List ℕ)
    → map.get world.frozen name ≡ option_map (λ (x : Snapshot). image (store_of c) x.tree) (snapshot_named name o.root.snapshots)

-- The changes of the root's epoch are made first, and after them those of the next one.
abbrev pub HalvesAreReplayedInTurn : Type 0
HalvesAreReplayedInTurn = (s : Store) (root : RootBody) (older newer : List Change) (middle tree : Tree)
    → apply_all root.limits older (image s root.inode_file) ≡ Some middle → apply_all root.limits newer middle ≡ Some tree
    → StandsFor s root (older ++ newer) (found tree (frozen_of s root.snapshots))

-- What a root stands for depends on the blocks that it reaches.
abbrev pub StandingIsOfTheReach : Type 0
StandingIsOfTheReach = (s r : Store) (root : RootBody) (changes : List Change) (world : World) → SameIn (all_reach s root) s r → StandsFor s root changes world → StandsFor r root changes world

-- What is shown opens to what it stands for.
abbrev pub ShownOpens : Type 0
ShownOpens = (n : ℕ) (s : Store) (c : Contents) (slot : Slot) (root : RootBody) (older newer : List Change) (world : World)
    → AreSpelled older → AreSpelled newer → StandsFor s root (older ++ newer) world → Shows n s slot root older newer c → Opens n c world

-- A crash at any moment of a run leaves a state that the run was in, from its first one on. So it is from each event on: what was acknowledged before a moment isn't lost by a crash after it.
abbrev pub RunsLeaveTheirStates : Type 0
RunsLeaveTheirStates = (g : Ground) (s : State) (old new : Disk) (states : List State)
    → Always old (ShowsState g s) → RunsOver g s old states new
    → LeavesOnly old new (ShowsOne g (s ∷ states)) × Always new (ShowsState g (last_state s states))
