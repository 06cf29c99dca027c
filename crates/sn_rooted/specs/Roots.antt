-- The trees of a root on a device, and when they can be read.
use Rattle.std.specs.Prelude.{◌≡◌, ℕ, ◌*◌, ◌≤◌, if◌then◌else◌, List, [], ◌∷◌, length, Option, Some, None, All, Contains}
use Rattle.std.specs.Option.{option_map}
use Rattle.std.specs.Str.{bytes_eq}
use Rattle.sn_device.specs.Disk.{reads}
use Rattle.sn_device.specs.declared.device.Device.{Ghosts}
use Rattle.sn_block.specs.Lending.{device_of}
use Rattle.sn_block.specs.declared.blocks.Blocks.{Blocks}
use Rattle.sn_limits.specs.declared.limits.Limits.{Limits}
use Rattle.sn_limits.specs.Versions.{limits_of}
use Rattle.sn_layout.specs.declared.root.RootBody.{RootBody}
use Rattle.sn_layout.specs.declared.snapshot.Snapshot.{Snapshot}
use Rattle.sn_layout.specs.declared.tree.BlockTree.{BlockTree}
use Rattle.sn_layout_node.specs.Inode.{size_of}
use Rattle.sn_layout_node.specs.declared.content.Content.{Content}
use Rattle.sn_model.specs.Tree.{Tree}
use Rattle.sn_model.specs.World.{Trees}
use Rattle.sn_ondisk.specs.Trees.{Store, store_of}
use Rattle.sn_image.specs.Contents.{bytes_of, content_reach}
use Rattle.sn_image.specs.Image.{frozen_of, image}
pub use Rattle.sn_image.specs.Image.{frozen_entry}
use Rattle.sn_image.specs.Sound.{IsSound}
use Rattle.sn_tree_read.specs.Reads.{IsOutside}
use Rattle.sn_walk.specs.declared.object.Home.{Home}
use Rattle.sn_walk.specs.declared.object.Home.TheVariants.{Live, Frozen}

-- ---- one tree

-- A root is sound on a disk whose blocks are on a device of this many sectors, and its version is known.
pub record IsSoundRoot (limits : Limits) (sectors : ℕ) (s : Store) (file : BlockTree) : Type 0 where
  pub version : limits_of limits.version ≡ Some limits
  pub blocks : ℕ
  pub fits : 8 * blocks ≤ sectors
  pub sound : IsSound limits blocks s file

-- The blocks of a content are on a device of this many sectors, and hold as many bytes as its size says.
pub record IsWhole (sectors : ℕ) (s : Store) (content : Content) : Type 0 where
  pub inside : (offset n : ℕ) → IsOutside sectors s content offset n → ⊥
  pub blocks : (block : ℕ) → Contains (content_reach s content) block → length (s block) ≡ 4096
  pub size : length (bytes_of s content) ≡ size_of content

module _ {D : Type 0} {g : Ghosts D} where
  -- what is in the blocks of the device
  abbrev pub store_on : Blocks D g → Store
  store_on blocks = store_of (reads (g.disk (device_of blocks)))

  -- the tree that a root denotes there
  abbrev pub tree_on : Blocks D g → BlockTree → Tree
  tree_on blocks file = image (store_on blocks) file

  -- the root is sound there
  abbrev pub IsSoundOn : Blocks D g → Limits → BlockTree → Type 0
  IsSoundOn blocks limits file = IsSoundRoot limits (g.status (device_of blocks)).sectors (store_on blocks) file

-- ---- all trees of a root

-- the snapshot with a name
abbrev pub snapshot_named : List ℕ → List Snapshot → Option Snapshot
snapshot_named name [] = None
snapshot_named name (x ∷ xs) = if bytes_eq name x.name then Some x else snapshot_named name xs

-- the inode file of the live tree, or of a snapshot's
abbrev pub file_in : RootBody → Home → Option BlockTree
file_in root Live = Some root.inode_file
file_in root (Frozen name) = option_map (λ snapshot. snapshot.tree) (snapshot_named name root.snapshots)

-- the live tree of a root, and the frozen ones by the names of its snapshots
abbrev pub trees_at : Store → RootBody → Trees
trees_at s root = record { live = image s root.inode_file; frozen = frozen_of s root.snapshots }

-- The live tree of a root and each of its snapshots are sound.
pub record AreSound (sectors : ℕ) (s : Store) (root : RootBody) : Type 0 where
  pub live : IsSoundRoot root.limits sectors s root.inode_file
  pub frozen : All (λ (snapshot : Snapshot). IsSoundRoot root.limits sectors s snapshot.tree) root.snapshots
