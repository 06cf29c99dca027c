-- What can't be read of a root's tree, and the block that is reported for it.
use Rattle.std.specs.Prelude.{◌⊎◌, ℕ, List, Option, IsSomeAnd}
use Rattle.sn_limits.specs.declared.limits.Limits.{Limits}
use Rattle.sn_layout.specs.declared.tree.BlockTree.{BlockTree}
use Rattle.sn_layout_node.specs.Directory.{Link}
use Rattle.sn_ondisk.specs.Trees.{Store}
use Rattle.sn_image.specs.Inodes.{inode_at}
use Rattle.sn_tree_read.specs.Reads.{IsOutsideAt}
use Rattle.sn_inode.specs.Unread.{HasUnreadAcls, IsUnreadRecord}
use Rattle.sn_dir.specs.Blocks.{IsDamagedAt}
use Rattle.sn_rooted.specs.Nodes.{file_content_if, names_tree_if}

-- The record of a number can't be read, or the ACLs of its inode.
abbrev pub IsUnreadInode : Limits → ℕ → Store → BlockTree → ℕ → Option ℕ → Type 0
IsUnreadInode limits sectors s file number block = IsUnreadRecord limits sectors s file number block ⊎ HasUnreadAcls sectors s file number block

-- Names of a directory can't be read, which are needed: those before them leave the answer open.
abbrev pub HasUnreadNames : (List Link → Type 0) → ℕ → Store → BlockTree → ℕ → Option ℕ → Type 0
HasUnreadNames IsOpen sectors s file number block = IsSomeAnd (names_tree_if (inode_at s file number)) (λ tree. IsDamagedAt IsOpen sectors s tree block)

-- Bytes of a file can't be read, among this many from an offset on.
abbrev pub HasUnreadBytes : ℕ → ℕ → ℕ → Store → BlockTree → ℕ → Option ℕ → Type 0
HasUnreadBytes offset n sectors s file number block = IsSomeAnd (file_content_if (inode_at s file number)) (λ content. IsOutsideAt sectors s content offset n block)
