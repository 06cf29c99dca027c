-- A root that was checked but for its links, and what can be read of it.
use Rattle.std.specs.Prelude.{◌≡◌, ℕ, ◌*◌, ◌/◌, ◌<◌, ◌≤◌, Some}
use Rattle.sn_layout.specs.declared.tree.BlockTree.{BlockTree}
use Rattle.sn_layout_node.specs.Inode.{IsInode}
use Rattle.sn_layout_node.specs.declared.content.Content.TheVariants.{Tree}
use Rattle.sn_layout_node.specs.declared.inode.Inode.{Inode}
use Rattle.sn_limits.specs.declared.kind.Kind.TheVariants.{Directory}
use Rattle.sn_limits.specs.declared.limits.Limits.{Limits}
use Rattle.sn_ondisk.specs.Trees.{Store}
use Rattle.sn_image.specs.Inodes.{inode_at}
use Rattle.sn_dir.specs.Blocks.{CanRead}
use Rattle.sn_inode.specs.Reads.{CanReadRecord}
use Rattle.sn_check_root.specs.Reading.{TreeLies}
use Rattle.sn_check_root.specs.Rules.{IsSoundButLinks}

-- A root is sound but for its links, on a disk that fits on a device of so many sectors.
pub record IsChecked (limits : Limits) (sectors : ℕ) (s : Store) (inodes : BlockTree) : Type 0 where
  pub blocks : ℕ
  pub room : 8 * blocks ≤ sectors
  pub sound : IsSoundButLinks limits blocks s inodes

-- a number is that of a directory with this tree
pub record IsDirectoryOf (s : Store) (inodes : BlockTree) (number : ℕ) (tree : BlockTree) : Type 0 where
  pub inode : Inode
  pub is : inode_at s inodes number ≡ Some inode
  pub kind : inode.kind ≡ Directory
  pub content : inode.content ≡ Tree tree

-- The blocks of a directory can be read.
pub record CanReadAll (sectors : ℕ) (s : Store) (tree : BlockTree) : Type 0 where
  pub lies : TreeLies sectors s tree
  pub each : (i : ℕ) → i < tree.size / 4096 → CanRead sectors s tree i

-- Its inode file, its records and its directories can be read, and there are no more records than numbers.
pub record IsReadable (limits : Limits) (sectors : ℕ) (s : Store) (inodes : BlockTree) : Type 0 where
  pub least : 4096 ≤ inodes.size
  pub most : inodes.size / 128 ≤ 65536
  pub file : TreeLies sectors s inodes
  pub records : (number : ℕ) → CanReadRecord limits sectors s inodes number
  pub directories : (number : ℕ) (tree : BlockTree) → IsDirectoryOf s inodes number tree → CanReadAll sectors s tree
  pub valid : (number : ℕ) (inode : Inode) → inode_at s inodes number ≡ Some inode → IsInode limits inode
