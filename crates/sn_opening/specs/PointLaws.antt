-- What the steps of a point leave of what a disk opens to, and what calls between them leave of the point.
use Rattle.std.specs.List.{AllByRecursion}
use Rattle.std.specs.Prelude.{◌≡◌, ◌≢◌, ◌⊎◌, ℕ, suc, take, length, ◌+◌, ◌<◌, List, [], ◌++◌, Contains}
use Rattle.sn_device.specs.Sectors.{Contents, AreSectors, AreDisjoint, Single}
use Rattle.sn_device.specs.Disk.{Disk, Always, IsSynced, reads}
use Rattle.sn_device.specs.Crash.{LeavesOnly, Touches}
use Rattle.sn_layout.specs.Bytes.{AreNumbers}
use Rattle.sn_layout.specs.MapCopy.{map_block_bytes}
use Rattle.sn_layout.specs.Geometry.{IsIn, start_of, map_blocks, other_slot, gate_sector}
use Rattle.sn_layout.specs.declared.geometry.Area.TheVariants.{Data, MapCopy}
use Rattle.sn_layout.specs.declared.geometry.Slot.{Slot}
use Rattle.sn_layout.specs.declared.root.RootBody.{RootBody}
use Rattle.sn_limits.specs.declared.limits.Limits.{Limits}
use Rattle.sn_model.specs.declared.change.Change.{Change}
use Rattle.sn_model.specs.Tree.{Tree}
use Rattle.sn_model.specs.World.{Trees, World}
use Rattle.sn_log.specs.Positions.{payloads_of}
use Rattle.sn_ondisk.specs.LogHalf.{ReplaysTo, InHalf, base_of}
use Rattle.sn_ondisk.specs.Blocks.{InBlock, block_at}
use Rattle.sn_ondisk.specs.MapLaws.{words_of_block}
use Rattle.sn_ondisk.specs.Shown.{Shown}
use Rattle.sn_image.specs.Image.{image}
use Rattle.sn_image.specs.Sound.{IsSound}
use Rattle.sn_ondisk.specs.TreeLaws.{SameIn}
use Rattle.sn_ondisk.specs.Trees.{Store, store_of}
use Rattle.sn_opening.specs.Spelled.{AreSpelled}
use Rattle.sn_opening.specs.Worlds.{StandsFor, all_reach}
use Rattle.sn_opening.specs.Opens.{InShows, LieInData, Opens, Shows}
use Rattle.sn_opening.specs.Points.{Plan, Stage, Blocks, MapBlocks, Stored, Written, HasReached, IsBuilt, IsStored, StandsAt}

-- Blocks of a point, of its map copy, and whatever else is apart from the root, its log and what it reaches, may hold anything afterwards: at each moment the disk shows the same.
abbrev pub BlocksKeepWhatIsShown : Type 0
BlocksKeepWhatIsShown = (n : ℕ) (s : Store) (touched : List ℕ) (slot : Slot) (root : RootBody) (older newer : List Change) (old new : Disk) → AreSectors (reads old)
    → AreDisjoint (Contains touched) (InShows n s root) → Always old (Shows n s slot root older newer) → Touches (Contains touched) old new
    → LeavesOnly old new (Shows n s slot root older newer)

-- the old root with its changes, or the next one with those of its own epochs
abbrev pub EitherShown : ℕ → Slot → RootBody → List Change → List Change → RootBody → List Change → List Change → Contents → Type 0
EitherShown n slot root older newer next third fourth c =
    Shown n c slot root (payloads_of older) (payloads_of newer) ⊎ Shown n c (other_slot slot) next (payloads_of third) (payloads_of fourth)

-- The gate of the next root is written: where each root's blocks are in place whatever a crash leaves, it opens to the world of the one or of the other. Where these are one world, the point changes nothing that can be seen.
abbrev pub OpeningOpensEither : Type 0
OpeningOpensEither = (n : ℕ) (s r : Store) (slot : Slot) (root next : RootBody) (older newer third fourth : List Change) (world after : World) (old new : Disk)
    → AreSectors (reads old)
    → LieInData n (all_reach s root) → LieInData n (all_reach r next)
    → AreSpelled older → AreSpelled newer → AreSpelled third → AreSpelled fourth
    → StandsFor s root (older ++ newer) world → StandsFor r next (third ++ fourth) after
    → Always old (λ c. SameIn (all_reach s root) s (store_of c)) → Always old (λ c. SameIn (all_reach r next) r (store_of c))
    → Touches (Single (gate_sector (other_slot slot))) old new
    → LeavesOnly old new (EitherShown n slot root older newer next third fourth)
    → LeavesOnly old new (λ c. Opens n c world ⊎ Opens n c after)

-- A call that is logged between two steps leaves what the point has on the disk.
abbrev pub LogKeepsThePoint : Type 0
LogKeepsThePoint = (n : ℕ) (s : Store) (slot : Slot) (root : RootBody) (trees : Trees) (plan : Plan) (stage : Stage) (epoch : ℕ) (old new : Disk)
    → AreSectors (reads old) → IsBuilt n s root trees plan → Touches (InHalf (base_of n epoch)) old new
    → HasReached n old slot plan stage → HasReached n new slot plan stage

-- A point begins: the first place of the other half is cleared, in which replay of the next epoch found nothing. At each moment the disk shows the same, and nothing newer.
abbrev pub BeginShows : Type 0
BeginShows = (n : ℕ) (s : Store) (slot : Slot) (root : RootBody) (older : List Change) (old new : Disk) → AreSectors (reads old)
    → LieInData n (all_reach s root)
    → Always old (Shows n s slot root older []) → Touches (InHalf (base_of n (root.epoch + 1))) old new
    → LeavesOnly old new (λ c. ReplaysTo c (base_of n (root.epoch + 1)) (root.epoch + 1) [] 0)
    → LeavesOnly old new (Shows n s slot root older [])

-- A new block is written: one more is reached.
abbrev pub BlockIsReached : Type 0
BlockIsReached = (n k : ℕ) (slot : Slot) (plan : Plan) (b : Written) (old new : Disk) → StandsAt plan.blocks k b
    → AllByRecursion (λ (x : Written). x.0 ≢ b.0) (take k plan.blocks)
    → Touches (InBlock b.0) old new → block_at (reads new) b.0 ≡ b.1
    → HasReached n old slot plan (Blocks k) → HasReached n new slot plan (Blocks (suc k))

-- And so a block of the map copy.
abbrev pub MapBlockIsReached : Type 0
MapBlockIsReached = (n k : ℕ) (slot : Slot) (plan : Plan) (old new : Disk) → AllByRecursion (λ (b : Written). IsIn n Data b.0) plan.blocks → k < map_blocks n
    → Touches (InBlock (start_of n (MapCopy slot) + k)) old new → block_at (reads new) (start_of n (MapCopy slot) + k) ≡ map_block_bytes (words_of_block k plan.words)
    → HasReached n old slot plan (MapBlocks k) → HasReached n new slot plan (MapBlocks (k + 1))

-- After the last of them a sync makes all of it durable, whatever a crash leaves.
abbrev pub SyncStores : Type 0
SyncStores = (n : ℕ) (slot : Slot) (plan : Plan) (d : Disk) → IsSynced d → length plan.words ≡ n → AreNumbers 4 plan.words
    → HasReached n d slot plan (MapBlocks (map_blocks n)) → HasReached n d slot plan Stored

-- What is in place once the next root's gate is open and synced: the store in which that root was made is what is read now.
pub record NextStands (n : ℕ) (slot : Slot) (limits : Limits) (next : RootBody) (newer : List Change) (frozen : Tree) (d : Disk) : Type 0 where
  pub shows : Always d (Shows n (store_of (reads d)) slot next newer [])
  pub tree : image (store_of (reads d)) next.inode_file ≡ frozen
  pub sound : IsSound limits n (store_of (reads d)) next.inode_file

-- The point is done: the next root is in place, it denotes what was frozen, and the newer records are its own.
abbrev pub DoneStands : Type 0
DoneStands = (n : ℕ) (s : Store) (slot : Slot) (root : RootBody) (newer : List Change) (trees : Trees) (plan : Plan) (d : Disk) → AreSectors (reads d) → IsSynced d
    → IsBuilt n s root trees plan → IsStored n d slot plan → Always d (λ c. SameIn (all_reach s root) s (store_of c))
    → Always d (λ c. Shown n c slot plan.next (payloads_of newer) [])
    → NextStands n slot plan.next.limits plan.next newer trees.live d
