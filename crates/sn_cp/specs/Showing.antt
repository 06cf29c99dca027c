-- What a point leaves to a crash of what the disk shows, on a disk of the point's own size.
use Rattle.std.specs.Prelude.{◌≡◌, ℕ, ◌+◌, ◌^◌, ◌<◌, List, [], ◌++◌, Contains, Result, OnOk, Some}
use Rattle.sn_device.specs.Sectors.{Contents, AreDisjoint, AreSectors, Union}
use Rattle.sn_device.specs.Disk.{Disk, Always, reads}
use Rattle.sn_device.specs.Crash.{LeavesOnly, Touches}
use Rattle.sn_device.specs.declared.fault.Fault.{Fault}
use Rattle.sn_layout.specs.declared.geometry.Slot.{Slot}
use Rattle.sn_layout.specs.declared.root.RootBody.{RootBody}
use Rattle.sn_layout.specs.Geometry.{other_slot}
use Rattle.sn_model.specs.declared.change.Change.{Change}
use Rattle.sn_model.specs.Changes.{apply_all}
use Rattle.sn_model.specs.Tree.{Tree}
use Rattle.sn_model.specs.World.{Trees}
use Rattle.sn_ondisk.specs.Blocks.{InBlock}
use Rattle.sn_ondisk.specs.LogHalf.{HasNoLater, InHalf, Replays, base_of}
use Rattle.sn_ondisk.specs.MapCopy.{HasMap, InMap}
use Rattle.sn_ondisk.specs.Shown.{Shown}
use Rattle.sn_ondisk.specs.TreeLaws.{SameIn}
use Rattle.sn_ondisk.specs.Trees.{Store, store_of}
use Rattle.sn_log.specs.Positions.{payloads_of}
use Rattle.sn_root.specs.Replacing.{LeavesEither}
use Rattle.sn_opening.specs.Opens.{LieInData, Opens, Shows}
use Rattle.sn_opening.specs.PointLaws.{NextStands}
use Rattle.sn_opening.specs.Points.{HoldsAll, IsBuilt, Written}
use Rattle.sn_opening.specs.Spelled.{AreSpelled}
use Rattle.sn_opening.specs.Worlds.{all_reach, found}
use Rattle.sn_cp.specs.Points.{Work}
use Rattle.sn_cp.specs.Steps.{IsWhole, IsWithin, InStep, StandsAtStage, StepsTo}
use Rattle.sn_cp.specs.declared.stage.Stage.{Stage}
use Rattle.sn_cp.specs.declared.stage.Stage.TheVariants.{Blocks, MapBlocks, Stored, Shut, Bodied, Done}

-- The point writes over nothing of this root: neither its slot, nor a block that it reaches. Its own is a later one.
pub record IsBeside (w : Work) (s : Store) (slot : Slot) (root : RootBody) : Type 0 where
  pub other : other_slot slot ≡ w.slot
  pub later : root.generation < w.plan.next.generation
  pub lie : LieInData w.blocks (all_reach s root)
  pub apart : (b : Written) → Contains w.plan.blocks b → Contains (all_reach s root) b.0 → ⊥

-- the records of an epoch, on a disk of so many blocks
abbrev pub HasRecords : ℕ → ℕ → List Change → Contents → Type 0
HasRecords n epoch changes c = Replays c (base_of n epoch) epoch (payloads_of changes)

-- Whatever a crash leaves, the disk shows this root, beside which the point writes; and of the next root's two epochs it has the third and the fourth list of records.
pub record ShowsBeside (w : Work) (s : Store) (slot : Slot) (root : RootBody) (older newer third fourth : List Change) (d : Disk) : Type 0 where
  pub beside : IsBeside w s slot root
  pub shown : Always d (Shows w.blocks s slot root older newer)
  pub has_third : Always d (HasRecords w.blocks w.plan.next.epoch third)
  pub has_fourth : Always d (HasRecords w.blocks (w.plan.next.epoch + 1) fourth)

-- The disk shows the next root. The new blocks are in place with the words of its map, and what the root before it reached is as it was: so whatever holds of its tree over such blocks does here.
pub record ShowsNext (w : Work) (s : Store) (root : RootBody) (third fourth : List Change) (c : Contents) : Type 0 where
  pub shown : Shown w.blocks c w.slot w.plan.next (payloads_of third) (payloads_of fourth)
  pub same : SameIn (all_reach s root) s (store_of c)
  pub blocks : HoldsAll (store_of c) w.plan.blocks
  pub map : HasMap w.blocks c w.slot w.plan.words

-- before the gate is opened
abbrev pub IsBeforeOpening : Stage → Type 0
IsBeforeOpening Bodied = ⊥
IsBeforeOpening Done = ⊥
IsBeforeOpening stage = Unit {0}

-- The point of a root, with the records of the next epoch for its own: two epochs on replay finds nothing yet, where the half of the root's epoch begins with none later.
abbrev pub OrdinaryPointsShow : Type 0
OrdinaryPointsShow = (w : Work) (s : Store) (slot : Slot) (root : RootBody) (older newer : List Change) (d : Disk)
    → IsBeside w s slot root → w.plan.next.epoch ≡ root.epoch + 1 → root.epoch + 2 < 256 ^ 8
    → Always d (Shows w.blocks s slot root older newer) → Always d (λ c. HasNoLater c (base_of w.blocks root.epoch) root.epoch)
    → ShowsBeside w s slot root older newer newer [] d

-- Until the gate is opened, a crash at any moment of a step leaves the root that counts, with its records, and so the next step finds it.
abbrev pub StepsKeepWhatIsShown : Type 0
StepsKeepWhatIsShown = (w : Work) (stage : Stage) (result : Result (Unit {0}) Fault) (s : Store) (slot : Slot) (root : RootBody) (older newer third fourth : List Change) (old new : Disk)
    → AreSectors (reads old) → IsWhole w → IsWithin w stage → IsBeforeOpening stage
    → ShowsBeside w s slot root older newer third fourth old → StepsTo w stage result old new
    → LeavesOnly old new (Shows w.blocks s slot root older newer) × ShowsBeside w s slot root older newer third fourth new

-- The gate is opened: a crash at any moment leaves that root or the next one, and after `Ok` the next one.
abbrev pub OpeningShowsEither : Type 0
OpeningShowsEither = (w : Work) (result : Result (Unit {0}) Fault) (s : Store) (slot : Slot) (root : RootBody) (older newer third fourth : List Change) (old new : Disk)
    → AreSectors (reads old) → IsWhole w → StandsAtStage w Bodied old
    → ShowsBeside w s slot root older newer third fourth old → StepsTo w Bodied result old new
    → LeavesEither result old new (Shows w.blocks s slot root older newer) (ShowsNext w s root third fourth)

-- A call of the log between two steps leaves the point at its stage.
abbrev pub LogKeepsTheStage : Type 0
LogKeepsTheStage = (w : Work) (stage : Stage) (epoch : ℕ) (old new : Disk) → AreSectors (reads old) → IsWhole w → IsWithin w stage
    → Touches (InHalf (base_of w.blocks epoch)) old new
    → StandsAtStage w stage old → StandsAtStage w stage new

-- ---- after the gate

-- What was built denotes the tree that was frozen, and with the records of its two epochs the next root stands for a world: contents that show it open to that.
abbrev pub NextRootsOpen : Type 0
NextRootsOpen = (w : Work) (s : Store) (root : RootBody) (trees : Trees) (tree : Tree) (third fourth : List Change) (c : Contents)
    → IsBuilt w.blocks s root trees w.plan → AreSpelled third → AreSpelled fourth
    → apply_all w.plan.next.limits (third ++ fourth) trees.live ≡ Some tree
    → ShowsNext w s root third fourth c → Opens w.blocks c (found tree trees.frozen)

-- Once the point is done, the store in which the next root was made is what is read, and what was built is sound there.
abbrev pub DonePointsStand : Type 0
DonePointsStand = (w : Work) (s : Store) (root : RootBody) (trees : Trees) (newer : List Change) (d : Disk) → AreSectors (reads d)
    → IsBuilt w.blocks s root trees w.plan → StandsAtStage w Done d → Always d (ShowsNext w s root newer [])
    → NextStands w.blocks w.slot w.plan.next.limits w.plan.next newer trees.live d

-- ---- all steps in a row

-- a sector that one of the steps writes
pub record InPoint (w : Work) (sector : ℕ) : Type 0 where
  pub stage : Stage
  pub within : IsWithin w stage
  pub of_step : InStep w stage sector

-- Whatever the answer, only sectors of the point were written, and a crash at any moment leaves the root that counts, with its records, or the next one. At `Ok` the point is done, and every crash leaves the next one.
pub record Finishes {T E : Type 0} (w : Work) (result : Result T E) (old new : Disk) : Type 0 where
  pub touched : Touches (InPoint w) old new
  pub done : OnOk result (StandsAtStage w Done new)
  pub shown : (s : Store) (slot : Slot) (root : RootBody) (older newer third fourth : List Change) → ShowsBeside w s slot root older newer third fourth old
      → LeavesEither result old new (Shows w.blocks s slot root older newer) (ShowsNext w s root third fourth)

-- what a point leaves alone: the superblock, the map of the slot that counts, and both halves of the log
abbrev pub InAround : ℕ → Slot → ℕ → ℕ → Type 0
InAround n slot epoch = Union (InBlock 0) (Union (InMap n slot) (Union (InHalf (base_of n epoch)) (InHalf (base_of n (epoch + 1)))))

-- No step writes there.
abbrev pub PointsStayApart : Type 0
PointsStayApart = (w : Work) (slot : Slot) (epoch : ℕ) → IsWhole w → other_slot slot ≡ w.slot → AreDisjoint (InPoint w) (InAround w.blocks slot epoch)
