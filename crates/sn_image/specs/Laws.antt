-- What an image depends on, and how it is read.
use Rattle.std.specs.Prelude.{◌≡◌, ◌⊎◌, ℕ, ◌+◌, ◌*◌, ◌<◌, ◌≤◌, List, length, None, Some, sum_by, slice_index, Contains}
use Rattle.std.specs.FinMap as fin
use Rattle.sn_device.specs.Sectors.{Contents, AreSectors, AgreesOn}
use Rattle.sn_limits.specs.declared.limits.Limits.{Limits}
use Rattle.sn_limits.specs.Versions.{Allows, limits_of}
use Rattle.sn_layout.specs.declared.geometry.Area.TheVariants.{Data}
use Rattle.sn_layout.specs.declared.snapshot.Snapshot.{Snapshot}
use Rattle.sn_layout.specs.declared.tree.BlockTree.{BlockTree}
use Rattle.sn_layout.specs.Bytes.{zeros}
use Rattle.sn_layout.specs.Geometry.{IsIn}
use Rattle.sn_layout.specs.Snapshot.{AreSnapshots}
use Rattle.sn_layout_acl.specs.AclBlock.{IsAclBlock, acl_block_bytes}
use Rattle.sn_layout_acl.specs.declared.acl_block.AclBlock.{AclBlock}
use Rattle.sn_layout_node.specs.Directory.{Link, Spells, number_of}
use Rattle.sn_layout_node.specs.Inode.{IsInode, inode_bytes, size_of}
use Rattle.sn_layout_node.specs.declared.content.Content.{Content}
use Rattle.sn_layout_node.specs.declared.inode.Inode.{Inode}
use Rattle.sn_model.specs.Tree.{link_to, names_in as tree_names_in, names_for, link_count}
use Rattle.sn_model.specs.NameTree.{IsTree}
use Rattle.sn_ondisk.specs.Blocks.{InBlocks}
use Rattle.sn_ondisk.specs.Counts.{times}
use Rattle.sn_ondisk.specs.TreeLaws.{SameIn}
use Rattle.sn_ondisk.specs.Trees.{Store, store_of, tree_bytes, tree_reach}
use Rattle.sn_image.specs.Acls.{acls_in}
use Rattle.sn_image.specs.Contents.{bytes_of, byte_of, content_reach}
use Rattle.sn_image.specs.Image.{node_of, node_at, image}
use Rattle.sn_image.specs.Inodes.{inode_of, inode_at}
use Rattle.sn_image.specs.Names.{names_in, names_at, names_under}
use Rattle.sn_image.specs.Reach.{inode_reach, reach_at, numbers, reach}
use Rattle.sn_image.specs.Sound.{IsBlock, IsPlaced, AreOnce, name_count, IsSound}
use Rattle.sn_image.specs.WellFormed.{IsWellFormed}

-- The node of a number is that of its inode.
abbrev pub NodesAreTheirInodes : Type 0
NodesAreTheirInodes = (s : Store) (inodes : BlockTree) (number : ℕ) → fin.get (image s inodes).nodes number ≡ node_at s inodes number

-- The name of a directory denotes the number that is listed with it there.
abbrev pub NamesAreInTheirDirectory : Type 0
NamesAreInTheirDirectory = (s : Store) (inodes : BlockTree) (directory : ℕ) (name : List ℕ) → fin.get (image s inodes).links (link_to directory name) ≡ number_of name (names_at s inodes directory)

-- An inode is read alike from both stores: its node, its names and what it reaches.
pub record InodeReadsAlike (s r : Store) (inode : Inode) : Type 0 where
  pub node : node_of r inode ≡ node_of s inode
  pub names : names_under r (Some inode) ≡ names_under s (Some inode)
  pub reach : inode_reach r (Some inode) ≡ inode_reach s (Some inode)

-- What an inode denotes depends on the blocks that it reaches.
abbrev pub InodesDependOnTheirReach : Type 0
InodesDependOnTheirReach = (s r : Store) (inode : Inode) → SameIn (inode_reach s (Some inode)) s r → InodeReadsAlike s r inode

-- A root is read alike from both stores: each inode, the tree that it denotes, and what it reaches.
pub record RootReadsAlike (s r : Store) (inodes : BlockTree) : Type 0 where
  pub each : (number : ℕ) → inode_at r inodes number ≡ inode_at s inodes number
  pub image : image r inodes ≡ image s inodes
  pub reach : reach r inodes ≡ reach s inodes

-- What a root denotes and reaches depends on the blocks that it reaches.
abbrev pub RootsDependOnTheirReach : Type 0
RootsDependOnTheirReach = (s r : Store) (inodes : BlockTree) → SameIn (reach s inodes) s r → RootReadsAlike s r inodes

-- So on a disk it depends on the sectors of those blocks.
abbrev pub RootsDependOnTheirSectors : Type 0
RootsDependOnTheirSectors = (c d : Contents) (inodes : BlockTree) → AgreesOn (InBlocks (reach (store_of c) inodes)) c d → RootReadsAlike (store_of c) (store_of d) inodes

-- A root reaches a block as often as the inode file and each of its inodes do together.
abbrev pub ReachIsASum : Type 0
ReachIsASum = (s : Store) (inodes : BlockTree) (block : ℕ)
    → times block (reach s inodes)
    ≡ times block (tree_reach s inodes) + sum_by (λ number. times block (reach_at s inodes number)) (numbers inodes)

-- It reaches what the inode file reaches, and what each inode does.
abbrev pub ReachHasEachPart : Type 0
ReachHasEachPart = (s : Store) (inodes : BlockTree) (block : ℕ)
    → (Contains (tree_reach s inodes) block → Contains (reach s inodes) block)
    × ((number : ℕ) → Contains (reach_at s inodes number) block → Contains (reach s inodes) block)

-- And nothing else.
abbrev pub ReachIsOfAPart : Type 0
ReachIsOfAPart = (s : Store) (inodes : BlockTree) (block : ℕ) → Contains (reach s inodes) block
    → Contains (tree_reach s inodes) block ⊎ ((number : ℕ) × Contains (reach_at s inodes number) block)

-- A record that spells an inode is read as that inode.
abbrev pub RecordsAreRead : Type 0
RecordsAreRead = (limits : Limits) (inode : Inode) → IsInode limits inode → inode_of (inode_bytes inode) ≡ Some inode

-- Zeros are read as no inode.
abbrev pub UnusedIsRead : Type 0
UnusedIsRead = inode_of (zeros 128) ≡ None

-- A block that spells ACLs is read as those.
abbrev pub AclBlocksAreRead : Type 0
AclBlocksAreRead = (acls : AclBlock) → IsAclBlock acls → acls_in (acl_block_bytes acls) ≡ acls

-- A block that spells names is read as those.
abbrev pub DirectoryBlocksAreRead : Type 0
DirectoryBlocksAreRead = (block : List ℕ) (links : List Link) → Spells block links → names_in block ≡ links

-- Where each block that a content reaches has 4,096 bytes, a byte in its own block is the byte of the content.
abbrev pub BytesAreInTheirBlocks : Type 0
BytesAreInTheirBlocks = (s : Store) (content : Content) → ((block : ℕ) → Contains (content_reach s content) block → length (s block) ≡ 4096)
    → (k : ℕ) → k < size_of content → slice_index (bytes_of s content) k ≡ byte_of s content k

-- A tree with room for its size, in which each block that it reaches has 4,096 bytes, has as many bytes as its size says.
abbrev pub TreesHaveTheirSize : Type 0
TreesHaveTheirSize = (s : Store) (tree : BlockTree) → length tree.pointers ≡ 16 → tree.size ≤ 70368744177664
    → ((block : ℕ) → Contains (tree_reach s tree) block → length (s block) ≡ 4096) → length (tree_bytes s tree) ≡ tree.size

-- A block of the data area is one on the disk.
abbrev pub DataBlocksAreWhole : Type 0
DataBlocksAreWhole = (c : Contents) (n block : ℕ) → AreSectors c → 8 * n ≤ length c → IsIn n Data block → IsBlock (store_of c block)

-- A sound root denotes a name tree.
abbrev pub SoundRootsAreTrees : Type 0
SoundRootsAreTrees = (limits : Limits) (n : ℕ) (s : Store) (inodes : BlockTree) → limits_of limits.version ≡ Some limits
    → ((block : ℕ) → IsIn n Data block → IsBlock (s block))
    → IsSound limits n s inodes → IsTree limits (image s inodes)

-- A sound root stays sound under limits that allow more, and a list of snapshots that a root body may have stays one.
abbrev pub SoundStays : Type 0
SoundStays = (less more : Limits) (n : ℕ) (s : Store) (inodes : BlockTree) → Allows less more → IsSound less n s inodes → IsSound more n s inodes

abbrev pub SnapshotsStay : Type 0
SnapshotsStay = (less more : Limits) (snapshots : List Snapshot) → Allows less more → AreSnapshots less snapshots → AreSnapshots more snapshots

-- Where no name occurs twice in a directory, it has as many names in the tree as are in it.
abbrev pub NamesInAreCounted : Type 0
NamesInAreCounted = (s : Store) (inodes : BlockTree) (directory : ℕ) → ((d : ℕ) → AreOnce (names_at s inodes d))
    → tree_names_in (image s inodes) directory ≡ length (names_at s inodes directory)

-- And a number as many as are in all directories together.
abbrev pub NamesForAreCounted : Type 0
NamesForAreCounted = (s : Store) (inodes : BlockTree) (number : ℕ) → ((d : ℕ) → AreOnce (names_at s inodes d))
    → names_for (image s inodes) number ≡ name_count s inodes number

-- In a sound root an inode has as many links as the tree shows of its node.
abbrev pub LinksAreCounted : Type 0
LinksAreCounted = (limits : Limits) (n : ℕ) (s : Store) (inodes : BlockTree) (number : ℕ) (inode : Inode) → IsSound limits n s inodes → inode_at s inodes number ≡ Some inode
    → inode.links ≡ link_count inode.kind (names_for (image s inodes) number)

-- A sound root is well formed.
abbrev pub SoundRootsAreWellFormed : Type 0
SoundRootsAreWellFormed = (limits : Limits) (n : ℕ) (s : Store) (inodes : BlockTree) → IsSound limits n s inodes → IsWellFormed limits s inodes

-- A well-formed root whose blocks are placed is sound where it denotes a name tree.
abbrev pub NameTreesAreSound : Type 0
NameTreesAreSound = (limits : Limits) (n : ℕ) (s : Store) (inodes : BlockTree) → IsPlaced n s inodes → IsWellFormed limits s inodes
    → IsTree limits (image s inodes) → IsSound limits n s inodes
