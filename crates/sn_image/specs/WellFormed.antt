-- The rules of the format that can't be seen in a name tree itself.
use Rattle.std.specs.Prelude.{◌≡◌, ◌≢◌, ℕ, ◌/◌, ◌<◌, Some}
use Rattle.sn_limits.specs.declared.kind.Kind.TheVariants.{File}
use Rattle.sn_limits.specs.declared.limits.Limits.{Limits}
use Rattle.sn_layout.specs.Bytes.{zeros}
use Rattle.sn_layout.specs.declared.tree.BlockTree.{BlockTree}
use Rattle.sn_layout_node.specs.declared.inode.Inode.{Inode}
use Rattle.sn_model.specs.Tree.{names_for}
use Rattle.sn_ondisk.specs.Trees.{Store}
use Rattle.sn_image.specs.Image.{image}
use Rattle.sn_image.specs.Inodes.{record_at, inode_at}
use Rattle.sn_image.specs.Names.{names_at}
use Rattle.sn_image.specs.Sound.{IsInodeFile, EndsAtSize, SpellsRecord, SpellsAcls, HasContent, AreOnce}

-- A root is well formed: each tree ends at its size, the contents of blocks are spelled, no name occurs twice in a directory, and a file counts the names that it has. Whether a well-formed root is sound is left to where its blocks are, and to the tree that it denotes.
pub record IsWellFormed (limits : Limits) (s : Store) (inodes : BlockTree) : Type 0 where
  pub file : IsInodeFile limits inodes
  pub ends : EndsAtSize s inodes
  pub spelled : (number : ℕ) → number < inodes.size / 128 → SpellsRecord limits (record_at s inodes number)
  pub reserved : (number : ℕ) → number < 2 → record_at s inodes number ≡ zeros 128
  pub acls : (number : ℕ) (inode : Inode) → inode_at s inodes number ≡ Some inode → inode.acl_block ≢ 0 → SpellsAcls (s inode.acl_block)
  pub contents : (number : ℕ) (inode : Inode) → inode_at s inodes number ≡ Some inode → HasContent s inode.kind inode.content
  pub once : (directory : ℕ) → AreOnce (names_at s inodes directory)
  pub counted : (number : ℕ) (inode : Inode) → inode_at s inodes number ≡ Some inode → inode.kind ≡ File → names_for (image s inodes) number ≡ inode.links
