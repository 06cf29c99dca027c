-- A point of a mount's live tree.
use Rattle.std.specs.FinMap as map
use Rattle.std.specs.Prelude.{◌≡◌, ℕ, ◌+◌, ◌*◌, ◌≤◌, List, [], Some, slice_index}
use Rattle.sn_changed.specs.Changed.{HasChanged}
use Rattle.sn_device.specs.Sectors.{Contents}
use Rattle.sn_device.specs.Disk.{Disk, Always}
use Rattle.sn_layout.specs.Geometry.{other_slot}
use Rattle.sn_layout.specs.Superblock.{superblock_bytes}
use Rattle.sn_image.specs.Image.{image}
use Rattle.sn_layout.specs.declared.geometry.Slot.{Slot}
use Rattle.sn_layout.specs.declared.root.RootBody.{RootBody}
use Rattle.sn_layout.specs.declared.tree.BlockTree.{BlockTree}
use Rattle.sn_limits.specs.Versions.{limits_written}
use Rattle.sn_log.specs.Positions.{IsReadyAt, first_of}
use Rattle.sn_model.specs.declared.change.Change.{Change}
use Rattle.sn_model.specs.NameTree.{IsTree}
use Rattle.sn_model.specs.declared.outcome.AskedPoint.{AskedPoint}
use Rattle.sn_model.specs.Tree.{Tree}
use Rattle.sn_model.specs.World.{World, trees_of}
use Rattle.sn_ondisk.specs.Blocks.{block_at}
use Rattle.sn_ondisk.specs.LogHalf.{HasNoLater, base_of}
use Rattle.sn_ondisk.specs.MapCopy.{HasMap}
use Rattle.sn_ondisk.specs.TreeLaws.{SameIn}
use Rattle.sn_ondisk.specs.Trees.{Store}
use Rattle.sn_opening.specs.Opens.{IsDisk, Shows}
use Rattle.sn_opening.specs.Points.{HoldsAll, IsBuilt}
use Rattle.sn_opening.specs.Worlds.{all_reach, frozen_of}
use Rattle.sn_model.specs.Settling.{nameless_in, settled}
use Rattle.sn_overlay.specs.Layers.{Layer}
use Rattle.sn_overlay.specs.Overlays.{no_changes}
use Rattle.sn_held.specs.Rooms.{RoomCounts, begun}
use Rattle.sn_root.specs.Following.{epochs_of}
use Rattle.sn_root.specs.declared.following.PointKind.{PointKind}
use Rattle.sn_root.specs.declared.following.PointKind.TheVariants.{Ordinary}
use Rattle.sn_sound.specs.Logs.{HasAgeLeft}
use Rattle.sn_sound.specs.Maps.{IsSoundRoot, free_blocks}
use Rattle.sn_held.specs.Held.{Held, Kept, Runs}
use Rattle.sn_held.specs.Room.{IsCharged}
use Rattle.sn_cp.specs.Points.{Work}
use Rattle.sn_cp.specs.Steps.{IsWhole}
use Rattle.sn_cp_held.specs.Snapshots.{live_behind, trees_behind}

-- The next root follows on this one by a point of this kind: of the next generation, as many epochs later
-- as the kind says, and under the written limits.
pub record IsFollowing (kind : PointKind) (root next : RootBody) : Type 0 where
  pub generation : next.generation ≡ root.generation + 1
  pub epoch : next.epoch ≡ root.epoch + epochs_of kind
  pub limits : next.limits ≡ limits_written

-- A root that leaves this many blocks free takes no more of them than was charged, with a charge for each
-- file that was dropped, before its point began.
abbrev pub TakesNoMore : ℕ → RoomCounts → Type 0
TakesNoMore free room = room.free + room.charged_since + limits_written.inode_charge * room.dropped_since ≤ free + room.charged + limits_written.inode_charge * room.dropped

-- The point was built from the live tree, or from that of a snapshot that is brought back, with the snapshots that are
-- asked for, for the slot that doesn't count: in any store that has its blocks and what the root reaches, its root is sound
-- with its snapshots and its map, and what is kept of the room is charged of it. It takes no more than was charged. It has
-- an age left. The live tree after it is a name tree.
pub record IsOfLive (h : Held) (world : World) (r : Runs h world) (asked : AskedPoint) (w : Work) (room : RoomCounts) : Type 0 where
  pub whole : IsWhole w
  pub blocks : w.blocks ≡ h.at.blocks
  pub slot : other_slot r.slot ≡ w.slot
  pub follows : IsFollowing Ordinary r.root w.plan.next
  pub built : IsBuilt h.at.blocks r.store r.root (trees_behind asked (trees_of world)) w.plan
  pub sound : (s : Store) → SameIn (all_reach r.store r.root) r.store s → HoldsAll s w.plan.blocks → IsSoundRoot h.at.blocks s w.plan.next (slice_index w.plan.words)
  pub charged : (s : Store) → SameIn (all_reach r.store r.root) r.store s → HoldsAll s w.plan.blocks → IsCharged room h.at.blocks s w.plan.next [] (live_behind asked (trees_of world))
  pub takes : TakesNoMore room.free (begun h.room)
  pub age : HasAgeLeft w.plan.next
  pub tree : IsTree limits_written (live_behind asked (trees_of world))

-- A snapshot can be brought back: there is one with this name, the layer drops exactly the files without names of its tree, and a charge for each of them is no more than is free.
pub record CanBeRestored (name : List ℕ) (layer : Layer) (room : RoomCounts) (world : World) : Type 0 where
  pub tree : Tree
  pub frozen : map.get world.frozen name ≡ Some tree
  pub drops : HasChanged limits_written layer tree (settled tree) 0
  pub fits : limits_written.inode_charge * nameless_in tree ≤ room.free

-- What no step of a point touches, on a disk of this many blocks: the superblock, the map of the slot that counts, the half of the root's
-- epoch, which begins with no record of a later one, and that of the next, which is ready for its first.
pub record StandsAround (n : ℕ) (slot : Slot) (words : List ℕ) (epoch : ℕ) (c : Contents) : Type 0 where
  pub disk : IsDisk n c
  pub formatted : block_at c 0 ≡ superblock_bytes (record { geometry = n })
  pub map : HasMap n c slot words
  pub none_later : HasNoLater c (base_of n epoch) epoch
  pub ready : IsReadyAt (first_of n (epoch + 1)) [] c

-- The point has begun: whatever a crash leaves, the root is shown with its records, and the next epoch can be logged under.
pub record HasBegun (h : Held) (world : World) (r : Runs h world) (d : Disk) : Type 0 where
  pub shows : Always d (Shows h.at.blocks r.store r.slot r.root r.older [])
  pub around : Always d (StandsAround h.at.blocks r.slot r.words r.root.epoch)

-- The root that is kept is in these contents with its records, sound with its map, and its snapshots denote the world's frozen trees. A
-- live tree, under the root's limits a name tree, is seen through what changed of the tree of an inode file. What that was charged under
-- these, with a charge for each file that the tree of the inode file has without a name, is no more than is free.
pub record StandsOver (n : ℕ) (c : Contents) (world : World) (k : Kept) (file : BlockTree) (live : Tree) : Type 0 where
  pub store : Store
  pub older : List Change
  pub newer : List Change
  pub disk : IsDisk n c
  pub shown : Shows n store k.slot k.root older newer c
  pub map : HasMap n c k.slot k.words
  pub sound : IsSoundRoot n store k.root (slice_index k.words)
  pub frozen : world.frozen ≡ frozen_of store k.root.snapshots
  pub charged : ℕ
  pub changed : HasChanged k.root.limits k.changed (image store file) live charged
  pub fits : charged + k.root.limits.inode_charge * nameless_in (image store file) ≤ free_blocks n store k.root
  pub tree : IsTree k.root.limits live

-- the world's live tree over the root's own
abbrev pub StandsKept : ℕ → Contents → World → Kept → Type 0
StandsKept n c world k = StandsOver n c world k k.root.inode_file world.live

-- what is kept once the point is done: its root counts, and nothing has changed
abbrev pub kept_behind : Work → Kept
kept_behind w = record { slot = w.slot; root = w.plan.next; words = w.plan.words; changed = no_changes }
