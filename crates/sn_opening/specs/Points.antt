-- A consistency point in progress, as far as the disk has it.
use Rattle.std.specs.Prelude.{◌≡◌, ◌⊎◌, ℕ, zero, suc, [], ◌∷◌, ◌+◌, ◌<◌, ◌≤◌, List, length, take, map, Contains}
use Rattle.std.specs.List.{AllByRecursion}
use Rattle.std.specs.List.Sorted.{IsStrictlyIncreasing}
use Rattle.sn_device.specs.Sectors.{Contents}
use Rattle.sn_device.specs.Disk.{Disk, Always, reads}
use Rattle.sn_layout.specs.MapCopy.{map_block_bytes}
use Rattle.sn_layout.specs.Geometry.{IsIn, start_of, map_blocks, gate_sector}
use Rattle.sn_layout.specs.declared.geometry.Area.TheVariants.{Data, MapCopy}
use Rattle.sn_layout.specs.declared.geometry.Slot.{Slot}
use Rattle.sn_layout.specs.declared.root.RootBody.{RootBody}
use Rattle.sn_layout.specs.RootBody.{IsRootBody}
use Rattle.sn_model.specs.World.{Trees}
use Rattle.sn_ondisk.specs.Blocks.{block_at}
use Rattle.sn_ondisk.specs.Gates.{IsClosed}
use Rattle.sn_ondisk.specs.MapCopy.{HasMap}
use Rattle.sn_ondisk.specs.MapLaws.{words_of_block}
use Rattle.sn_ondisk.specs.Roots.{HasRoot}
use Rattle.sn_ondisk.specs.TreeLaws.{SameIn}
use Rattle.sn_ondisk.specs.Trees.{Store, store_of}
use Rattle.sn_image.specs.Image.{image}
use Rattle.sn_image.specs.Sound.{IsSound}
use Rattle.sn_opening.specs.Worlds.{all_reach, frozen_of}

-- a block and what is to be in it
abbrev pub Written : Type 0
Written = ℕ × List ℕ

-- what a point writes
pub record Plan : Type 0 where
  -- the new blocks, in the order in which they are written
  pub blocks : List Written
  -- the words of the new map
  pub words : List ℕ
  -- the next root
  pub next : RootBody

-- these blocks are in their places
abbrev pub HoldsAll : Store → List Written → Type 0
HoldsAll s blocks = AllByRecursion (λ (b : Written). s b.0 ≡ b.1) blocks

abbrev pub numbers_written : List Written → List ℕ
numbers_written blocks = map (λ (b : Written). b.0) blocks

-- What `build` gives: in every store that has the new blocks and agrees with the old root in what that reaches, the next root is sound and denotes the tree that was frozen, and its snapshots the frozen trees that are wanted.
pub record IsBuilt (n : ℕ) (s : Store) (root : RootBody) (trees : Trees) (plan : Plan) : Type 0 where
  pub fits : IsRootBody plan.next
  pub later : root.generation < plan.next.generation
  pub place : AllByRecursion (λ (b : Written). IsIn n Data b.0) plan.blocks
  pub apart : (b : Written) → Contains plan.blocks b → Contains (all_reach s root) b.0 → ⊥
  pub once : IsStrictlyIncreasing (numbers_written plan.blocks)
  pub whole : (b : Written) → Contains plan.blocks b → length b.1 ≡ 4096
  pub tree : (r : Store) → SameIn (all_reach s root) s r → HoldsAll r plan.blocks → image r plan.next.inode_file ≡ trees.live
  pub frozen : (r : Store) → SameIn (all_reach s root) s r → HoldsAll r plan.blocks → frozen_of r plan.next.snapshots ≡ trees.frozen
  pub sound : (r : Store) → SameIn (all_reach s root) s r → HoldsAll r plan.blocks → IsSound plan.next.limits n r plan.next.inode_file
  -- it reaches nothing but new blocks and those of the old root
  pub reach : (r : Store) → SameIn (all_reach s root) s r → HoldsAll r plan.blocks → (block : ℕ) → Contains (all_reach r plan.next) block → Contains (all_reach s root) block ⊎ Contains (numbers_written plan.blocks) block

-- How far a point is. What is unsynced may be torn; from the map's last block on nothing of it is.
pub data Stage : Type 0 where
  -- so many of the new blocks are written
  Blocks : ℕ → Stage
  -- all are, and so many blocks of the map copy
  MapBlocks : ℕ → Stage
  -- all of these are synced
  Stored : Stage
  -- the slot's gate is closed, synced
  Shut : Stage
  -- the next root's body is written, synced; the gate is still closed
  Bodied : Stage

-- the map copy of a slot has its first blocks
abbrev pub HasMapBlocks : ℕ → Contents → Slot → List ℕ → ℕ → Type 0
HasMapBlocks n c slot words count = (k : ℕ) → k < count → block_at c (start_of n (MapCopy slot) + k) ≡ map_block_bytes (words_of_block k words)

-- what of the plan is on the disk for good
pub record IsStored (n : ℕ) (d : Disk) (slot : Slot) (plan : Plan) : Type 0 where
  pub blocks : Always d (λ c. HoldsAll (store_of c) plan.blocks)
  pub map : Always d (λ c. HasMap n c slot plan.words)

-- A point is this far, in the slot that is to be replaced.
abbrev pub HasReached : ℕ → Disk → Slot → Plan → Stage → Type 0
HasReached n d slot plan (Blocks k) = HoldsAll (store_of (reads d)) (take k plan.blocks)
HasReached n d slot plan (MapBlocks k) = (k ≤ map_blocks n) × HoldsAll (store_of (reads d)) plan.blocks × HasMapBlocks n (reads d) slot plan.words k
HasReached n d slot plan Stored = IsStored n d slot plan
HasReached n d slot plan Shut = IsStored n d slot plan × Always d (λ c. IsClosed c (gate_sector slot))
HasReached n d slot plan Bodied = IsStored n d slot plan × Always d (λ c. IsClosed c (gate_sector slot)) × Always d (λ c. HasRoot c slot plan.next)

-- the block with this number in the list
abbrev pub StandsAt : List Written → ℕ → Written → Type 0
StandsAt [] k b = ⊥
StandsAt (x ∷ xs) zero b = x ≡ b
StandsAt (x ∷ xs) (suc k) b = StandsAt xs k b
