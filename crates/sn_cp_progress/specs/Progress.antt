-- What a mounted file system holds between two steps of a consistency point.
use Rattle.std.specs.Prelude.{◌≡◌, ℕ, ◌+◌, slice_index}
use Rattle.sn_changed.specs.Changed.{HasChanged}
use Rattle.sn_device.specs.Disk.{Always}
use Rattle.sn_layout.specs.Geometry.{other_slot}
use Rattle.sn_layout.specs.declared.geometry.Slot.{Slot}
use Rattle.sn_layout.specs.declared.root.RootBody.{RootBody}
use Rattle.sn_limits.specs.Versions.{limits_written}
use Rattle.sn_log.specs.Positions.{IsReadyAt}
use Rattle.sn_model.specs.NameTree.{IsTree}
use Rattle.sn_model.specs.Tree.{Tree}
use Rattle.sn_model.specs.World.{Trees, World}
use Rattle.sn_ondisk.specs.LogHalf.{HasNoLater, base_of}
use Rattle.sn_ondisk.specs.TreeLaws.{SameIn}
use Rattle.sn_ondisk.specs.Trees.{Store}
use Rattle.sn_opening.specs.Covering.{MakesCover}
use Rattle.sn_opening.specs.Points.{HoldsAll, IsBuilt}
use Rattle.sn_opening.specs.Worlds.{all_reach}
use Rattle.sn_held.specs.Rooms.{done}
use Rattle.sn_root.specs.declared.following.PointKind.TheVariants.{Ordinary}
use Rattle.sn_sound.specs.Logs.{HasAgeLeft}
use Rattle.sn_sound.specs.Maps.{IsSoundRoot}
use Rattle.sn_held.specs.Held.{Held, Kept, Runs}
use Rattle.sn_held.specs.Room.{IsCharged}
use Rattle.sn_cp.specs.Points.{Work}
use Rattle.sn_cp.specs.Steps.{IsWhole, IsWithin, StandsAtStage}
use Rattle.sn_cp.specs.declared.stage.Stage.{Stage}
use Rattle.sn_cp_held.specs.Wholes.{IsFollowing, TakesNoMore}

-- A point was built from these trees over this root, for the slot that doesn't count: in any store that has its blocks and what the root
-- reaches, its root is sound with its snapshots and its map. It has an age left.
pub record IsOfTrees (n : ℕ) (s : Store) (counts : Slot) (root : RootBody) (trees : Trees) (w : Work) : Type 0 where
  pub whole : IsWhole w
  pub blocks : w.blocks ≡ n
  pub slot : other_slot counts ≡ w.slot
  pub follows : IsFollowing Ordinary root w.plan.next
  pub built : IsBuilt n s root trees w.plan
  pub sound : (t : Store) → SameIn (all_reach s root) s t → HoldsAll t w.plan.blocks → IsSoundRoot n t w.plan.next (slice_index w.plan.words)
  pub age : HasAgeLeft w.plan.next

-- A point in progress: what it writes, how far it is, the live tree as it was when it began with the frozen trees that its root is to have, and the blocks that this leaves free.
pub record Progress : Type 0 where
  pub work : Work
  pub stage : Stage
  pub trees : Trees
  pub free : ℕ

-- The point is in progress in a mount that runs. It leads to this live tree. What is logged is logged under the next epoch,
-- from its first record on: those changes turn the tree that it was built from into one that covers the live one that it leads
-- to, and what they were charged, with a charge for each file without names, is no more than the next root leaves free, which
-- takes no more than was charged before. What is kept is that of the root that counts, except that the live tree that it leads
-- to is seen through what changed over that tree.
pub record LeadsTo (h : Held) (world : World) (r : Runs h world) (live : Tree) (p : Progress) : Type 0 where
  pub of : IsOfTrees h.at.blocks r.store r.slot r.root p.trees p.work
  pub within : IsWithin p.work p.stage
  pub stands : StandsAtStage p.work p.stage h.disk
  pub epoch : h.at.epoch ≡ r.root.epoch + 1
  pub ready : Always h.disk (IsReadyAt h.at r.newer)
  pub none_later : Always h.disk (λ c. HasNoLater c (base_of h.at.blocks r.root.epoch) r.root.epoch)
  pub cover : MakesCover limits_written r.newer p.trees.live live
  pub charged : (t : Store) → SameIn (all_reach r.store r.root) r.store t → HoldsAll t p.work.plan.blocks → IsCharged (done p.free h.room) h.at.blocks t p.work.plan.next r.newer live
  pub takes : TakesNoMore p.free h.room
  pub slot : h.base.slot ≡ r.slot
  pub root : h.base.root ≡ r.root
  pub changed : HasChanged limits_written h.base.changed p.trees.live live h.room.charged_since
  pub tree : IsTree limits_written live

-- A mount runs over this world, with a point in progress that leads to this live tree: its own, or that of a snapshot that is brought back.
pub record RunsTo (h : Held) (world : World) (live : Tree) (p : Progress) : Type 0 where
  pub runs : Runs h world
  pub point : LeadsTo h world runs live p

-- its own, so that calls may come between any two steps
abbrev pub RunsOn : Held → World → Progress → Type 0
RunsOn h world p = RunsTo h world world.live p

-- the world once a point is done that leads to this live tree
abbrev pub world_to : Tree → Progress → World → World
world_to live p world = record world { live = live; frozen = p.trees.frozen }

-- the world once the point is done: its frozen trees are those of the point's root
abbrev pub world_behind : Progress → World → World
world_behind p world = record world { frozen = p.trees.frozen }

-- what is kept once the point is done: its root counts, and what changed since it began is on top of it
abbrev pub kept_behind : Held → Progress → Kept
kept_behind h p = record { slot = p.work.slot; root = p.work.plan.next; words = p.work.plan.words; changed = h.base.changed }
