-- What a build gives, as what a point writes.
use Rattle.std.specs.Prelude.{◌≡◌, ℕ, ◌+◌, ◌^◌, ◌<◌, ◌≤◌, List, length, map, slice_index, Contains}
use Rattle.sn_alloc.specs.Taking.{free_data}
use Rattle.sn_device.specs.Disk.{reads}
use Rattle.sn_device.specs.Sectors.{Contents}
use Rattle.sn_layout.specs.Bytes.{AreNumbers}
use Rattle.sn_layout.specs.Geometry.{other_slot, start_of}
use Rattle.sn_layout.specs.RootBody.{IsRootBody}
use Rattle.sn_layout.specs.declared.gate.Gate.{Gate}
use Rattle.sn_layout.specs.declared.geometry.Area.TheVariants.{Data}
use Rattle.sn_layout.specs.declared.root.RootBody.{RootBody}
use Rattle.sn_layout.specs.declared.tree.BlockTree.{BlockTree}
use Rattle.sn_limits.specs.Versions.{limits_written}
use Rattle.sn_image.specs.Image.{image}
use Rattle.sn_image.specs.Reach.{reach}
use Rattle.sn_ondisk.specs.TreeLaws.{SameIn}
use Rattle.sn_ondisk.specs.Trees.{Store, store_of}
use Rattle.sn_opening.specs.Points.{HoldsAll, IsBuilt, Plan, Written}
use Rattle.sn_opening.specs.Worlds.{all_reach, frozen_of}
use Rattle.sn_model.specs.declared.outcome.AskedPoint.{AskedPoint}
use Rattle.sn_model.specs.declared.outcome.AskedPoint.TheVariants.{Restores}
use Rattle.sn_model.specs.Settling.{nameless_in}
use Rattle.sn_model.specs.World.{World}
use Rattle.sn_overlay.specs.Layers.{Layer, through}
use Rattle.sn_overlay.specs.Needs.{need}
use Rattle.sn_held.specs.Rooms.{RoomCounts, fresh}
use Rattle.sn_root.specs.Following.{following}
use Rattle.sn_root.specs.declared.following.PointKind.{PointKind}
use Rattle.sn_root.specs.declared.following.PointKind.TheVariants.{Ordinary, Recovery}
use Rattle.sn_sound.specs.Logs.{HasAgeLeft}
use Rattle.sn_sound.specs.Maps.{IsSoundRoot, free_blocks}
use Rattle.sn_held.specs.Held.{Held, Kept, RunsReady}
use Rattle.sn_cp_nodes.specs.Built.{IsGround}
use Rattle.sn_cp_build.specs.Bits.{TellsBit}
use Rattle.sn_cp_build.specs.Building.{Builds, IsWellBuilt}
use Rattle.sn_cp_build.specs.Edits.{base_bit}
use Rattle.sn_cp_build.specs.declared.building.Built.{Built}
use Rattle.sn_cp.specs.Points.{Work, written_by}
use Rattle.sn_cp_held.specs.Snapshots.{BeginsFrom, FollowsBy, KeepsLive, edit_for, trees_built}
use Rattle.sn_cp_held.specs.Wholes.{CanBeRestored, IsOfLive}

-- what is written of it, with the root that follows
abbrev pub plan_of : Built → RootBody → Plan
plan_of built next = record { blocks = map written_by built.blocks.items; words = built.map; next = next }

-- A build over an inode file of a root that can be written, sound with its snapshots and its map, of a layer that shows a name tree, under that root's limits, and the root that follows on it under the written ones, with the new inode file and the snapshots that are asked for.
pub record IsOfBuild (n : ℕ) (s : Store) (root : RootBody) (words : List ℕ) (file : BlockTree) (layer : Layer) (asked : AskedPoint) (bit : ℕ) (built : Built) (next : RootBody) : Type 0 where
  pub root_body : IsRootBody root
  pub sound : IsSoundRoot n s root (slice_index words)
  pub count : length words ≡ n
  pub begins : BeginsFrom asked bit root file
  pub tells : TellsBit (base_bit (edit_for asked bit)) words (reach s file)
  pub ground : IsGround root.limits n s file layer
  pub well : IsWellBuilt n root.limits words layer (edit_for asked bit) built
  pub builds : Builds n root.limits s file (base_bit (edit_for asked bit)) words layer built
  pub numbers : (block : ℕ) → slice_index built.map block < 2 ^ 32
  pub whole : (b : Written) → Contains (map written_by built.blocks.items) b → length b.1 ≡ 4096
  pub body : IsRootBody next
  pub limits : next.limits ≡ limits_written
  pub generation : next.generation ≡ root.generation + 1
  pub inode_file : next.inode_file ≡ built.inode_file
  pub snapshots : FollowsBy asked bit root next

-- Another root can follow on this one, on which changes will be logged. On the root of a recovery none are.
abbrev pub LeavesAge : PointKind → RootBody → Type 0
LeavesAge Ordinary next = HasAgeLeft next
LeavesAge Recovery next = Unit {0}

-- What `build` says of a tree over an inode file on a disk of n blocks with these contents, and the root that follows on it under the
-- written limits, with the new inode file, for a point of this kind that makes of the snapshots what is asked for.
pub record IsBuiltOf (n : ℕ) (c : Contents) (kind : PointKind) (k : Kept) (file : BlockTree) (asked : AskedPoint) (bit : ℕ) (built : Built) (next : RootBody) : Type 0 where
  pub begins : BeginsFrom asked bit k.root file
  pub well : IsWellBuilt n k.root.limits k.words k.changed (edit_for asked bit) built
  pub builds : Builds n k.root.limits (store_of c) file (base_bit (edit_for asked bit)) k.words k.changed built
  pub numbers : AreNumbers 4 built.map
  pub whole : (b : Written) → Contains (map written_by built.blocks.items) b → length b.1 ≡ 4096
  pub body : IsRootBody next
  pub is : next ≡ record (following kind limits_written k.root) { inode_file = built.inode_file; snapshots = next.snapshots }
  pub snapshots : FollowsBy asked bit k.root next
  pub age : LeavesAge kind next

-- what is kept of a root, with another layer
abbrev pub over_layer : Layer → Kept → Kept
over_layer layer k = record k { changed = layer }

-- the point that writes it into the other slot, whose gate is this
abbrev pub work_for : ℕ → Kept → Gate → Built → RootBody → Work
work_for n k gate built next = record { blocks = n; slot = other_slot k.slot; gate = gate; plan = plan_of built next }

-- what is left of the room: all that is free by the new map, and nothing is charged
abbrev pub room_behind : ℕ → Built → RoomCounts
room_behind n built = fresh (free_data built.map (start_of n Data))

-- It is a point of the live tree, which is sound with its map, and leaves a charge free for each file without names.
abbrev pub BuildsAreOfLive : Type 0
BuildsAreOfLive = (h : Held) (world : World) (k : Kept) (gate : Gate) (asked : AskedPoint) (bit : ℕ) (built : Built) (next : RootBody) (r : RunsReady h world k) → KeepsLive asked → IsBuiltOf h.at.blocks (reads h.disk) Ordinary k k.root.inode_file asked bit built next
    → IsOfLive h world r.runs asked (work_for h.at.blocks k gate built next) (room_behind h.at.blocks built)

-- So is one of the tree of a snapshot that is brought back, without its files without names, where these are charged as ones that were
-- dropped. What changed since the root doesn't matter.
abbrev pub RestoresAreOfLive : Type 0
RestoresAreOfLive = (h : Held) (world : World) (k : Kept) (layer : Layer) (name : List ℕ) (file : BlockTree) (gate : Gate) (bit : ℕ) (built : Built) (next : RootBody) (r : RunsReady h world k) (can : CanBeRestored name layer h.room world) → nameless_in can.tree ≤ h.room.dropped
    → IsBuiltOf h.at.blocks (reads h.disk) Ordinary (over_layer layer k) file (Restores name) bit built next
    → IsOfLive h world r.runs (Restores name) (work_for h.at.blocks k gate built next) (room_behind h.at.blocks built)

-- What `build` needs of a sound inode file so that nothing is damaged, and enough is free: the layer is over its ground, the map says in
-- this bit what it reaches, and what changed needs no more than is free.
pub record CanBeBuiltOver (n : ℕ) (s : Store) (k : Kept) (file : BlockTree) (bit : ℕ) : Type 0 where
  pub ground : IsGround k.root.limits n s file k.changed
  pub tells : TellsBit bit k.words (reach s file)
  pub fits : need k.root.limits k.changed ≤ free_data k.words (start_of n Data)

-- over the root's own, which bit 0 describes
abbrev pub CanBeBuilt : ℕ → Store → Kept → Type 0
CanBeBuilt n s k = CanBeBuiltOver n s k k.root.inode_file 0

-- It holds for a mount's live tree.
abbrev pub BuildsHaveRoom : Type 0
BuildsHaveRoom = (h : Held) (world : World) (k : Kept) → RunsReady h world k → CanBeBuilt h.at.blocks (store_of (reads h.disk)) k

-- And for a snapshot that can be brought back.
abbrev pub RestoresHaveRoom : Type 0
RestoresHaveRoom = (h : Held) (world : World) (k : Kept) (layer : Layer) (name : List ℕ) (file : BlockTree) (bit : ℕ) → RunsReady h world k → CanBeRestored name layer h.room world → BeginsFrom (Restores name) bit k.root file
    → CanBeBuiltOver h.at.blocks (store_of (reads h.disk)) (over_layer layer k) file bit

-- It is what a point needs: its blocks are in the data area, none that a root reaches, the snapshots' too, and in any store that
-- has them and what the root reaches the next root denotes the tree that is seen through the layer, and is sound, and its
-- snapshots denote the frozen trees that are asked for.
abbrev pub BuildsAreBuilt : Type 0
BuildsAreBuilt = (n : ℕ) (s : Store) (root : RootBody) (words : List ℕ) (file : BlockTree) (layer : Layer) (asked : AskedPoint) (bit : ℕ) (built : Built) (next : RootBody) → IsOfBuild n s root words file layer asked bit built next
    → IsBuilt n s root (trees_built asked (through layer (image s file)) (frozen_of s root.snapshots)) (plan_of built next)

-- In any store that has its blocks and what the root reaches, the next root is sound with its snapshots,
-- and the words of its map say what they reach.
abbrev pub BuildsAreSound : Type 0
BuildsAreSound = (n : ℕ) (s : Store) (root : RootBody) (words : List ℕ) (file : BlockTree) (layer : Layer) (asked : AskedPoint) (bit : ℕ) (built : Built) (next : RootBody) → IsOfBuild n s root words file layer asked bit built next
    → (r : Store) → SameIn (all_reach s root) s r → HoldsAll r (plan_of built next).blocks → IsSoundRoot n r next (slice_index built.map)

-- The next root leaves free what the root left, but for the new blocks, and more where a snapshot is deleted.
abbrev pub BuildsLeaveRoom : Type 0
BuildsLeaveRoom = (n : ℕ) (s : Store) (root : RootBody) (words : List ℕ) (file : BlockTree) (layer : Layer) (asked : AskedPoint) (bit : ℕ) (built : Built) (next : RootBody) → IsOfBuild n s root words file layer asked bit built next
    → (r : Store) → SameIn (all_reach s root) s r → HoldsAll r (plan_of built next).blocks → free_blocks n s root ≤ free_blocks n r next + length built.blocks.items
