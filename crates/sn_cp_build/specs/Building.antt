-- What is built of a layer over the tree of an inode file.
use Rattle.std.specs.Prelude.{◌≡◌, ◌⊎◌, ℕ, ◌≤◌, List, length, All, Contains}
use Rattle.std.specs.List.Sorted.{IsStrictlyIncreasing}
use Rattle.sn_alloc.specs.Taking.{IsFreeData}
use Rattle.sn_image.specs.Image.{image}
use Rattle.sn_image.specs.Reach.{reach}
use Rattle.sn_image.specs.Sound.{IsInodeFile, IsSound}
use Rattle.sn_inode.specs.Changes.{IsWith}
use Rattle.sn_inode.specs.declared.changes.InodeChange.{InodeChange}
use Rattle.sn_layout.specs.Geometry.{start_of}
use Rattle.sn_layout.specs.declared.geometry.Area.TheVariants.{Data}
use Rattle.sn_layout.specs.declared.tree.BlockTree.{BlockTree}
use Rattle.sn_limits.specs.declared.limits.Limits.{Limits}
use Rattle.sn_ondisk.specs.TreeLaws.{SameIn}
use Rattle.sn_ondisk.specs.Trees.{Store}
use Rattle.sn_overlay.specs.Layers.{Layer, through}
use Rattle.sn_overlay.specs.Needs.{need}
use Rattle.sn_tree.specs.Drafts.{Draft, numbers_of as blocks_of}
use Rattle.sn_tree.specs.Plans.{Holds}
use Rattle.sn_cp_nodes.specs.Built.{IsGround}
use Rattle.sn_cp_build.specs.Bits.{TellsBit, TellsBlocks}
use Rattle.sn_cp_build.specs.Edits.{IsEdited}
use Rattle.sn_cp_build.specs.Planned.{AreBuilt, numbers_of}
use Rattle.sn_cp_build.specs.declared.building.Built.{Built}
use Rattle.sn_cp_build.specs.declared.edits.SnapshotEdit.{SnapshotEdit}

-- A tree was planned: its nodes one after the other, and then the inode file with what became of their inodes.
pub record IsTreePlanned (Told : Type 0) (limits : Limits) (s : Store) (file : BlockTree) (layer : Layer) (new : BlockTree) (old_draft new_draft : Draft) : Type 0 where
  pub changes : List InodeChange
  pub between : Draft
  pub nodes : AreBuilt Told limits s file layer old_draft (numbers_of layer) changes between
  pub inodes : IsWith Told limits s file new changes between new_draft
  pub larger : file.size ≤ new.size
  pub file_is : IsInodeFile limits new

-- What the new inode file is in a store: it denotes the tree that is seen through the layer, is sound, and bit 0 of the map says exactly what it reaches, which is nothing but new blocks and those that the old one reached.
pub record IsFrozen (n : ℕ) (limits : Limits) (s : Store) (file : BlockTree) (layer : Layer) (built : Built) (r : Store) : Type 0 where
  pub tree : image r built.inode_file ≡ through layer (image s file)
  pub sound : IsSound limits n r built.inode_file
  pub bits : TellsBlocks built.map (reach r built.inode_file)
  pub within : (block : ℕ) → Contains (reach r built.inode_file) block → Contains (reach s file) block ⊎ Contains (blocks_of built.blocks.items) block

-- What holds whether or not the device tells its bytes: the new blocks were free, rise, and are no more than the layer needs; of the map nothing changes but bit 0 and what the edit says of the bits of snapshots.
pub record IsWellBuilt (n : ℕ) (limits : Limits) (words : List ℕ) (layer : Layer) (edit : SnapshotEdit) (built : Built) : Type 0 where
  pub free : All (IsFreeData words (start_of n Data)) (blocks_of built.blocks.items)
  pub rise : IsStrictlyIncreasing (blocks_of built.blocks.items)
  pub few : length built.blocks.items ≤ need limits layer
  pub as_many : length built.map ≡ length words
  pub snapshots : IsEdited edit words built.map

-- Over a sound root whose map says in this bit what it reaches, and a layer that shows a name tree, the new inode file is what is wanted in each store that has the new blocks and agrees with the old one in what the old root reaches: so writes elsewhere don't matter.
abbrev pub Builds : ℕ → Limits → Store → BlockTree → ℕ → List ℕ → Layer → Built → Type 0
Builds n limits s file bit words layer built = IsGround limits n s file layer → TellsBit bit words (reach s file)
    → (r : Store) → SameIn (reach s file) s r → Holds r built.blocks.items → IsFrozen n limits s file layer built r
