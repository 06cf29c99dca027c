-- When a root is sound. Each rule of the format has its definition here, in the order in which a check looks:
-- - each pointer names a block of the data area, and no block is reached twice: `IsPlaced`;
-- - the size of the inode file, and the indices past the end of any tree: `IsInodeFile`, `EndsAtSize`;
-- - the spelling of records, of ACL blocks and of directory blocks: `HasRecords`, `HasAcls`, `HasBlocks`. That the links of
--   a directory are 1 and those of a file at most 32,767, that up to 64 bytes are in the inode, and that the sixteen pointers
--   of indices past the size are 0, is in the spelling of a record; which numbers and names a directory block can have, and
--   that none of them crosses the block, in the spelling of that; that the entries of ACLs are valid and in order, and not
--   both lists empty, in the spelling of those;
-- - inodes 0 and 1 are unused, and inode 2 is a directory: `HasRecords`;
-- - a file has no default ACL: `HasAcls`. That no two inodes share an ACL block is in `IsPlaced`;
-- - no block of a directory is a hole, no name occurs twice in it, it doesn't have too many, and none in the root hides the
--   directory of snapshots: `HasBlocks`, `HasNames`;
-- - each name leads to an inode that is used, the root has no name, each other directory has one and is reached from the
--   root, and a file has as many names as its inode says: `IsLinked`.
-- A file without names is no fault. What the block map says of the blocks is said where all roots of a disk are.
use Rattle.std.specs.Prelude.{◌≡◌, ◌≢◌, ℕ, ◌+◌, ◌-◌, ◌*◌, ◌/◌, ◌%◌, ◌^◌, ◌<◌, ◌≤◌, ◌==◌, true, List, length, None, Some, IsSomeAnd, count_by, sum_by, slice_index, Contains, codes, is_some}
use Rattle.std.specs.List.{AllByRecursion}
use Rattle.std.specs.Str.{bytes_eq}
use Rattle.sn_limits.specs.declared.kind.Kind.{Kind}
use Rattle.sn_limits.specs.declared.kind.Kind.TheVariants.{File, Directory}
use Rattle.sn_limits.specs.declared.limits.Limits.{Limits}
use Rattle.sn_layout.specs.declared.geometry.Area.TheVariants.{Data}
use Rattle.sn_layout.specs.declared.tree.BlockTree.{BlockTree}
use Rattle.sn_layout.specs.Bytes.{zeros}
use Rattle.sn_layout.specs.Geometry.{IsIn}
use Rattle.sn_layout.specs.Pointers.{levels_of}
use Rattle.sn_layout_acl.specs.AclBlock.{IsAclBlock, acl_block_bytes}
use Rattle.sn_layout_acl.specs.declared.acl_block.AclBlock.{AclBlock}
use Rattle.sn_layout_node.specs.Directory.{Link, IsDirectoryBlock, number_of}
use Rattle.sn_layout_node.specs.Inode.{IsRecord, record_bytes}
use Rattle.sn_layout_node.specs.declared.content.Content.{Content}
use Rattle.sn_layout_node.specs.declared.content.Content.TheVariants.{Inline, Tree}
use Rattle.sn_layout_node.specs.declared.inode.Inode.{Inode}
use Rattle.sn_layout_node.specs.declared.inode.InodeRecord.{InodeRecord}
use Rattle.sn_ondisk.specs.Counts.{times}
use Rattle.sn_ondisk.specs.Trees.{Store, entry, data_block}
use Rattle.sn_image.specs.Acls.{acls_at}
use Rattle.sn_image.specs.Inodes.{record_at, inode_at}
use Rattle.sn_image.specs.Names.{names_at}
use Rattle.sn_image.specs.Reach.{numbers, reach}

-- 4,096 bytes
pub record IsBlock (bytes : List ℕ) : Type 0 where
  pub size : length bytes ≡ 4096
  pub each : AllByRecursion (λ b. b < 256) bytes

-- Each pointer names a block of the data area, and no block is named twice.
pub record IsPlaced (n : ℕ) (s : Store) (inodes : BlockTree) : Type 0 where
  pub within : (block : ℕ) → Contains (reach s inodes) block → IsIn n Data block
  pub once : (block : ℕ) → times block (reach s inodes) ≤ 1

-- The inode file has whole blocks, at least one, and at most a record for each number.
pub record IsInodeFile (limits : Limits) (inodes : BlockTree) : Type 0 where
  pub least : 4096 ≤ inodes.size
  pub most : inodes.size ≤ 128 * (limits.largest_number + 1)
  pub whole : inodes.size % 4096 ≡ 0

-- how many bytes are below a pointer that is so many levels below the sixteen
abbrev pub span_at : ℕ → ℕ → ℕ
span_at size depth = 4096 * 1024 ^ (levels_of size - depth)

-- On each level the pointers of indices wholly past the size are 0, and in the last block the bytes past the size are.
pub record EndsAtSize (s : Store) (tree : BlockTree) : Type 0 where
  pub pointers : (depth i : ℕ) → depth ≤ levels_of tree.size → tree.size ≤ i * span_at tree.size depth → entry s depth tree.pointers i ≡ 0
  pub bytes : (i k : ℕ) → k < 4096 → tree.size ≤ 4096 * i + k → slice_index (data_block s tree i) k ≡ 0

abbrev pub ContentEnds : Store → Content → Type 0
ContentEnds s (Inline bytes) = Unit {0}
ContentEnds s (Tree tree) = EndsAtSize s tree

-- the bytes are those of one record
abbrev pub SpellsRecord : Limits → List ℕ → Type 0
SpellsRecord limits bytes = (r : InodeRecord) × IsRecord limits r × (bytes ≡ record_bytes r)

-- Each record of the inode file is spelled. The first two are unused, and the third is the root directory.
pub record HasRecords (limits : Limits) (s : Store) (inodes : BlockTree) : Type 0 where
  pub spelled : (number : ℕ) → number < inodes.size / 128 → SpellsRecord limits (record_at s inodes number)
  pub reserved : (number : ℕ) → number < 2 → record_at s inodes number ≡ zeros 128
  pub root : IsSomeAnd (inode_at s inodes 2) (λ inode. inode.kind ≡ Directory)

-- the bytes are those of one ACL block
abbrev pub SpellsAcls : List ℕ → Type 0
SpellsAcls bytes = (acls : AclBlock) × IsAclBlock acls × (bytes ≡ acl_block_bytes acls)

-- An ACL block is spelled, and a file has no default ACL.
pub record HasAcls (s : Store) (inode : Inode) : Type 0 where
  pub spelled : inode.acl_block ≢ 0 → SpellsAcls (s inode.acl_block)
  pub of_file : inode.kind ≡ File → (acls_at s inode.acl_block).default ≡ None

-- The blocks of a directory are there, and each is spelled.
pub record HasBlocks (s : Store) (tree : BlockTree) : Type 0 where
  pub no_hole : (i : ℕ) → 4096 * i < tree.size → entry s (levels_of tree.size) tree.pointers i ≢ 0
  pub spelled : (i : ℕ) → 4096 * i < tree.size → IsDirectoryBlock (data_block s tree i)

abbrev pub HasContent : Store → Kind → Content → Type 0
HasContent s File content = ContentEnds s content
HasContent s Directory (Inline bytes) = ⊥
HasContent s Directory (Tree tree) = EndsAtSize s tree × HasBlocks s tree

-- An inode's ACLs and its blocks are spelled.
pub record HasInodes (s : Store) (inodes : BlockTree) : Type 0 where
  pub acls : (number : ℕ) (inode : Inode) → inode_at s inodes number ≡ Some inode → HasAcls s inode
  pub contents : (number : ℕ) (inode : Inode) → inode_at s inodes number ≡ Some inode → HasContent s inode.kind inode.content

-- No name occurs twice among these.
abbrev pub AreOnce : List Link → Type 0
AreOnce names = (name : List ℕ) → count_by (λ l. bytes_eq l.name name) names ≤ 1

-- No name occurs twice in a directory, none has too many, and none in the root hides the directory of snapshots.
pub record HasNames (limits : Limits) (s : Store) (inodes : BlockTree) : Type 0 where
  pub once : (directory : ℕ) → AreOnce (names_at s inodes directory)
  pub few : (directory : ℕ) → length (names_at s inodes directory) ≤ limits.names
  pub hidden : number_of (codes ".snapshot") (names_at s inodes 2) ≡ None

-- how many names a number has, in all directories
abbrev pub name_count : Store → BlockTree → ℕ → ℕ
name_count s inodes number = sum_by (λ directory. count_by (λ l. l.number == number) (names_at s inodes directory)) (numbers inodes)

-- A directory is reached from the root by names.
pub data IsReached (s : Store) (inodes : BlockTree) : ℕ → Type 0 where
  root : IsReached s inodes 2
  below : (directory : ℕ) (name : Link) → IsReached s inodes directory → Contains (names_at s inodes directory) name → IsReached s inodes name.number

-- Names and links agree: each name leads to an inode, the root has none, each other inode has as many as it says, which for
-- a directory is one, and directories are reached.
pub record IsLinked (s : Store) (inodes : BlockTree) : Type 0 where
  pub leads : (directory : ℕ) (name : Link) → Contains (names_at s inodes directory) name → is_some (inode_at s inodes name.number) ≡ true
  pub unnamed : name_count s inodes 2 ≡ 0
  pub counted : (number : ℕ) (inode : Inode) → number ≢ 2 → inode_at s inodes number ≡ Some inode → name_count s inodes number ≡ inode.links
  pub reached : (number : ℕ) (inode : Inode) → inode_at s inodes number ≡ Some inode → inode.kind ≡ Directory → IsReached s inodes number

-- A root is sound on a disk of n blocks.
pub record IsSound (limits : Limits) (n : ℕ) (s : Store) (inodes : BlockTree) : Type 0 where
  pub placed : IsPlaced n s inodes
  pub file : IsInodeFile limits inodes
  pub ends : EndsAtSize s inodes
  pub records : HasRecords limits s inodes
  pub used : HasInodes s inodes
  pub names : HasNames limits s inodes
  pub linked : IsLinked s inodes
