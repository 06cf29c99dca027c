-- Parts of a root, each sound by itself, and what is wrong with one.
use Rattle.std.specs.Prelude.{◌≡◌, ◌≢◌, ◌⊎◌, ℕ, ◌/◌, ◌<◌, ◌≤◌, true, List, length, None, Some, codes, count_by}
use Rattle.std.specs.Str.{bytes_eq}
use Rattle.sn_layout.specs.Pointers.{levels_of}
use Rattle.sn_layout.specs.declared.tree.BlockTree.{BlockTree}
use Rattle.sn_layout_node.specs.Directory.{Link, IsDirectoryBlock, number_of}
use Rattle.sn_layout_node.specs.declared.content.Content.{Content}
use Rattle.sn_layout_node.specs.declared.inode.Inode.{Inode}
use Rattle.sn_limits.specs.declared.kind.Kind.{Kind}
use Rattle.sn_limits.specs.declared.kind.Kind.TheVariants.{Directory}
use Rattle.sn_limits.specs.declared.limits.Limits.{Limits}
use Rattle.sn_model.specs.declared.fault.Damage.{Damage}
use Rattle.sn_model.specs.declared.fault.Damage.TheVariants.{Pointer, ReachedTwice, Misspelt}
use Rattle.sn_ondisk.specs.Trees.{Store, entry, data_block}
use Rattle.sn_image.specs.Inodes.{is_number, record_at, inode_at}
use Rattle.sn_image.specs.Names.{names_by}
use Rattle.sn_image.specs.Sound.{AreOnce, EndsAtSize, HasAcls, HasContent, HasInodes, HasNames, HasRecords, IsInodeFile, IsPlaced, SpellsRecord}
use Rattle.sn_sound.specs.Faults.{IsContentFault, IsMisspelt, IsReachedTwice, LeadsOut}
use Rattle.sn_marks.specs.Marks.{IsAstray}

-- ---- what is wrong

-- A rule is broken, which is reported at one block.
pub data Breaks (Rule : Type 0) (block : ℕ) : Damage → ℕ → Type 0 where
  breaks : (Rule → ⊥) → Breaks Rule block Misspelt block

-- Something is misspelt, at a block of which this is so.
pub data IsSpeltWrong (Wrong : ℕ → Type 0) : Damage → ℕ → Type 0 where
  misspelt : (block : ℕ) → Wrong block → IsSpeltWrong Wrong Misspelt block

-- These blocks can't all be gone through, or something is misspelt.
pub data IsWrong (n k : ℕ) (blocks old : List ℕ) (Wrong : ℕ → Type 0) : Damage → ℕ → Type 0 where
  astray : (damage : Damage) (block : ℕ) → IsAstray n k blocks old damage block → IsWrong n k blocks old Wrong damage block
  misspelt : (block : ℕ) → Wrong block → IsWrong n k blocks old Wrong Misspelt block

-- A fault that one root has, of its pointers or of what is spelled. `body` is the block of the root body.
abbrev pub StandsInRoot : Limits → ℕ → Store → BlockTree → ℕ → Damage → ℕ → Type 0
StandsInRoot limits n s inodes body Pointer block = LeadsOut n s inodes block
StandsInRoot limits n s inodes body ReachedTwice block = IsReachedTwice s inodes block
StandsInRoot limits n s inodes body Misspelt block = IsMisspelt limits s inodes body block
StandsInRoot limits n s inodes body other block = ⊥

-- ---- directories

-- A block of a directory is there, and spells names.
pub record IsNamesBlock (s : Store) (tree : BlockTree) (i : ℕ) : Type 0 where
  pub no_hole : entry s (levels_of tree.size) tree.pointers i ≢ 0
  pub spelled : IsDirectoryBlock (data_block s tree i)

-- It is a hole, or spells none.
pub data IsBadBlock (s : Store) (tree : BlockTree) (i top : ℕ) : ℕ → Type 0 where
  hole : entry s (levels_of tree.size) tree.pointers i ≡ 0 → IsBadBlock s tree i top top
  misspelt : (IsDirectoryBlock (data_block s tree i) → ⊥) → IsBadBlock s tree i top (entry s (levels_of tree.size) tree.pointers i)

-- One of the blocks of a directory is bad.
abbrev pub HasBadBlock : Store → BlockTree → ℕ → ℕ → Type 0
HasBadBlock s tree top block = (i : ℕ) × (i < tree.size / 4096) × IsBadBlock s tree i top block

-- A name occurs twice among these.
abbrev pub StandsTwice : List Link → Type 0
StandsTwice names = (name : List ℕ) × (2 ≤ count_by (λ l. bytes_eq l.name name) names)

-- Names of one directory: none occurs twice, and there aren't too many.
pub record AreNames (limits : Limits) (names : List Link) : Type 0 where
  pub once : AreOnce names
  pub few : length names ≤ limits.names

-- ---- inodes

-- The content of an inode is sound.
pub record IsSoundContent (limits : Limits) (s : Store) (kind : Kind) (content : Content) : Type 0 where
  pub has : HasContent s kind content
  pub names : AreNames limits (names_by s kind content)

-- An inode is sound.
pub record IsSoundInode (limits : Limits) (s : Store) (inode : Inode) : Type 0 where
  pub acls : HasAcls s inode
  pub content : IsSoundContent limits s inode.kind inode.content

-- A rule of an inode is broken. `top` is the block of its record.
abbrev pub IsInodeFault : Limits → Store → Inode → ℕ → ℕ → Type 0
IsInodeFault limits s inode top block = ((block ≡ inode.acl_block) × (HasAcls s inode → ⊥)) ⊎ IsContentFault limits s inode.kind inode.content (names_by s inode.kind inode.content) top block

-- What is under a number is sound: a record, and the inode that it may be of.
pub record IsSoundNumber (limits : Limits) (s : Store) (inodes : BlockTree) (number : ℕ) : Type 0 where
  pub spelled : is_number inodes number ≡ true → SpellsRecord limits (record_at s inodes number)
  pub used : (inode : Inode) → inode_at s inodes number ≡ Some inode → IsSoundInode limits s inode

-- The content is sound and it is a directory, in which no name hides the directory of snapshots.
pub record IsRootInode (s : Store) (inode : Inode) : Type 0 where
  pub has : HasContent s inode.kind inode.content
  pub kind : inode.kind ≡ Directory
  pub hidden : number_of (codes ".snapshot") (names_by s inode.kind inode.content) ≡ None

-- ---- roots

-- All that is in an inode file is sound, but for its links.
pub record HasSoundRecords (limits : Limits) (s : Store) (inodes : BlockTree) : Type 0 where
  pub records : HasRecords limits s inodes
  pub used : HasInodes s inodes
  pub names : HasNames limits s inodes

-- A root is sound, but for its links.
pub record IsSoundButLinks (limits : Limits) (n : ℕ) (s : Store) (inodes : BlockTree) : Type 0 where
  pub placed : IsPlaced n s inodes
  pub file : IsInodeFile limits inodes
  pub ends : EndsAtSize s inodes
  pub records : HasRecords limits s inodes
  pub used : HasInodes s inodes
  pub names : HasNames limits s inodes
