-- What can be read of an inode.
use Rattle.std.specs.Prelude.{◌≡◌, ℕ, ◌/◌, true, List, None}
use Rattle.sn_limits.specs.declared.kind.Kind.{Kind}
use Rattle.sn_limits.specs.declared.kind.Kind.TheVariants.{File}
use Rattle.sn_limits.specs.declared.limits.Limits.{Limits}
use Rattle.sn_layout.specs.declared.tree.BlockTree.{BlockTree}
use Rattle.sn_layout_node.specs.declared.inode.Inode.{Inode}
use Rattle.sn_ondisk.specs.Trees.{Store}
use Rattle.sn_image.specs.Acls.{acls_in}
use Rattle.sn_image.specs.Inodes.{is_number, record_at}
use Rattle.sn_image.specs.Sound.{SpellsRecord, SpellsAcls, HasAcls}
use Rattle.sn_tree_read.specs.Paths.{lies_on, block_lies_on}

-- Where a node can have the number, the block of its record is on a device of so many sectors, as each block on the way to it is, and the record is spelled. No other record is read.
pub record CanReadRecord (limits : Limits) (sectors : ℕ) (s : Store) (inodes : BlockTree) (number : ℕ) : Type 0 where
  pub lies : is_number inodes number ≡ true → block_lies_on sectors s inodes (number / 32) ≡ true
  pub spelled : is_number inodes number ≡ true → SpellsRecord limits (record_at s inodes number)

-- A block spells ACLs that such an inode can have: a file has no default ACL.
pub record HoldsAcls (kind : Kind) (block : List ℕ) : Type 0 where
  pub spelled : SpellsAcls block
  pub of_file : kind ≡ File → (acls_in block).default ≡ None

-- An inode's ACL block, if it has one, is on a device of so many sectors, and is spelled.
pub record CanReadAcls (sectors : ℕ) (s : Store) (inode : Inode) : Type 0 where
  pub lies : lies_on sectors inode.acl_block ≡ true
  pub has : HasAcls s inode
