-- The blocks that a root reaches.
use Rattle.std.specs.Prelude.{ℕ, ◌-◌, ◌/◌, ◌==◌, if◌then◌else◌, List, [], ◌∷◌, ◌++◌, Option}
use Rattle.std.specs.Option.{option_map_or}
use Rattle.std.specs.List.{flat_map, range_with_len}
use Rattle.sn_layout.specs.declared.tree.BlockTree.{BlockTree}
use Rattle.sn_layout_node.specs.declared.inode.Inode.{Inode}
use Rattle.sn_ondisk.specs.Trees.{Store, tree_reach}
use Rattle.sn_image.specs.Contents.{content_reach}
use Rattle.sn_image.specs.Inodes.{inode_at}

-- the block at a pointer, none at 0
abbrev pub block_reach : ℕ → List ℕ
block_reach pointer = if pointer == 0 then [] else pointer ∷ []

-- the blocks of an inode: its ACL block, and those of its content
abbrev pub inode_reach : Store → Option Inode → List ℕ
inode_reach s found = option_map_or (λ inode. block_reach inode.acl_block ++ content_reach s inode.content) found []

-- the blocks of the inode of a number
unfoldable pub reach_at : Store → BlockTree → ℕ → List ℕ
reach_at s inodes number = inode_reach s (inode_at s inodes number)

-- the numbers that nodes can have
unfoldable pub numbers : BlockTree → List ℕ
numbers inodes = range_with_len 2 (inodes.size / 128 - 2)

-- the blocks of a root, with repeats: those of the inode file, and those of each inode
unfoldable pub reach : Store → BlockTree → List ℕ
reach s inodes = tree_reach s inodes ++ flat_map (reach_at s inodes) (numbers inodes)
