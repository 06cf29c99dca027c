-- What can't be read of an inode, and the block that the fault names.
use Rattle.std.specs.Prelude.{◌≡◌, ℕ, ◌/◌, Option, IsSomeAnd}
use Rattle.sn_limits.specs.declared.limits.Limits.{Limits}
use Rattle.sn_layout.specs.declared.tree.BlockTree.{BlockTree}
use Rattle.sn_layout_node.specs.declared.inode.Inode.{Inode}
use Rattle.sn_ondisk.specs.Trees.{Store}
use Rattle.sn_image.specs.Inodes.{inode_at}
use Rattle.sn_tree_read.specs.Paths.{block_named, block_met}
use Rattle.sn_inode.specs.Reads.{CanReadRecord, CanReadAcls}

-- The record of a number can't be read, and the fault names the block that the way to it ends at.
pub record IsUnreadRecord (limits : Limits) (sectors : ℕ) (s : Store) (inodes : BlockTree) (number : ℕ) (block : Option ℕ) : Type 0 where
  pub unread : CanReadRecord limits sectors s inodes number → ⊥
  pub met : block ≡ block_met sectors s inodes (number / 32)

-- The ACLs of an inode can't be read, and the fault names their block.
pub record AreUnreadAcls (sectors : ℕ) (s : Store) (inode : Inode) (block : Option ℕ) : Type 0 where
  pub unread : CanReadAcls sectors s inode → ⊥
  pub named : block ≡ block_named inode.acl_block

-- Those of the inode that a number has can't be read.
abbrev pub HasUnreadAcls : ℕ → Store → BlockTree → ℕ → Option ℕ → Type 0
HasUnreadAcls sectors s inodes number block = IsSomeAnd (inode_at s inodes number) (λ inode. AreUnreadAcls sectors s inode block)
