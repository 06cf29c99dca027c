-- The faults of one root, each with the block that it is reported at. Whether there is one is said of any blocks at all, so that a fault that is reported can be seen by itself.
use Rattle.std.specs.Prelude.{◌≡◌, ◌≢◌, ◌⊎◌, ℕ, zero, suc, ◌+◌, ◌*◌, ◌/◌, ◌<◌, ◌≤◌, ◌==◌, if◌then◌else◌, List, length, Some, None, IsSomeAnd, count_by, slice_index, Contains, codes}
use Rattle.std.specs.Str.{bytes_eq}
use Rattle.sn_limits.specs.declared.kind.Kind.{Kind}
use Rattle.sn_limits.specs.declared.kind.Kind.TheVariants.{File, Directory}
use Rattle.sn_limits.specs.declared.limits.Limits.{Limits}
use Rattle.sn_layout.specs.declared.geometry.Area.TheVariants.{Data}
use Rattle.sn_layout.specs.declared.tree.BlockTree.{BlockTree}
use Rattle.sn_layout.specs.Bytes.{zeros}
use Rattle.sn_layout.specs.Geometry.{IsIn}
use Rattle.sn_layout.specs.Pointers.{levels_of}
use Rattle.sn_layout_node.specs.Directory.{Link, IsDirectoryBlock, number_of}
use Rattle.sn_layout_node.specs.declared.content.Content.{Content}
use Rattle.sn_layout_node.specs.declared.content.Content.TheVariants.{Inline, Tree}
use Rattle.sn_layout_node.specs.declared.inode.Inode.{Inode}
use Rattle.sn_ondisk.specs.Counts.{times}
use Rattle.sn_ondisk.specs.Trees.{Store, entry, data_block}
use Rattle.sn_image.specs.Inodes.{record_at, inode_at}
use Rattle.sn_image.specs.Names.{names_in, names_at}
use Rattle.sn_image.specs.Reach.{reach}
use Rattle.sn_image.specs.Sound.{IsInodeFile, SpellsRecord, HasAcls, IsReached, span_at, name_count}

-- ---- pointers

-- A pointer leads out of the data area.
pub record LeadsOut (n : ℕ) (s : Store) (inodes : BlockTree) (pointer : ℕ) : Type 0 where
  pub among : Contains (reach s inodes) pointer
  pub outside : IsIn n Data pointer → ⊥

-- A block is reached twice.
abbrev pub IsReachedTwice : Store → BlockTree → ℕ → Type 0
IsReachedTwice s inodes block = 2 ≤ times block (reach s inodes)

-- ---- block trees

-- the block that has the pointers of a level: that of the sixteen, or the indirect block above
abbrev pub holder_of : Store → BlockTree → ℕ → ℕ → ℕ → ℕ
holder_of s tree top zero i = top
holder_of s tree top (suc depth) i = entry s depth tree.pointers (i / 1024)

-- A rule of a tree is broken. `top` is the block of its sixteen pointers.
pub data IsTreeFault (s : Store) (tree : BlockTree) (top : ℕ) : ℕ → Type 0 where
  -- a pointer is wholly past the size
  pointer : (depth i : ℕ) → depth ≤ levels_of tree.size → tree.size ≤ i * span_at tree.size depth → entry s depth tree.pointers i ≢ 0
      → IsTreeFault s tree top (holder_of s tree top depth i)
  -- a byte other than 0 is past it
  byte : (i k : ℕ) → k < 4096 → tree.size ≤ 4096 * i + k → slice_index (data_block s tree i) k ≢ 0
      → IsTreeFault s tree top (entry s (levels_of tree.size) tree.pointers i)

-- ---- inodes

-- the block of a number's record, or where there is a hole the block of the inode file's root
abbrev pub record_block : Store → BlockTree → ℕ → ℕ → ℕ
record_block s inodes body number =
    let pointer = entry s (levels_of inodes.size) inodes.pointers (number / 32) in
    if pointer == 0 then body else pointer

-- A directory breaks a rule. Faults of the whole directory are reported at its record's block.
pub data IsDirectoryFault (limits : Limits) (s : Store) (tree : BlockTree) (names : List Link) (top : ℕ) : ℕ → Type 0 where
  hole : (i : ℕ) → 4096 * i < tree.size → entry s (levels_of tree.size) tree.pointers i ≡ 0 → IsDirectoryFault limits s tree names top top
  misspelt : (i : ℕ) → 4096 * i < tree.size → (IsDirectoryBlock (data_block s tree i) → ⊥) → IsDirectoryFault limits s tree names top (entry s (levels_of tree.size) tree.pointers i)
  twice : (name : List ℕ) → 2 ≤ count_by (λ l. bytes_eq l.name name) names → IsDirectoryFault limits s tree names top top
  many : limits.names < length names → IsDirectoryFault limits s tree names top top

-- An inode's content breaks a rule.
abbrev pub IsContentFault : Limits → Store → Kind → Content → List Link → ℕ → ℕ → Type 0
IsContentFault limits s kind (Inline bytes) names top block = ⊥
IsContentFault limits s File (Tree tree) names top block = IsTreeFault s tree top block
IsContentFault limits s Directory (Tree tree) names top block = IsTreeFault s tree top block ⊎ IsDirectoryFault limits s tree names top block

-- A block spells no value of its kind, or a rule of trees is broken. `body` is the block of the root body.
pub data IsMisspelt (limits : Limits) (s : Store) (inodes : BlockTree) (body : ℕ) : ℕ → Type 0 where
  size : (IsInodeFile limits inodes → ⊥) → IsMisspelt limits s inodes body body
  file : (block : ℕ) → IsTreeFault s inodes body block → IsMisspelt limits s inodes body block
  misspelt_record : (number : ℕ) → number < inodes.size / 128 → (SpellsRecord limits (record_at s inodes number) → ⊥) → IsMisspelt limits s inodes body (record_block s inodes body number)
  reserved : (number : ℕ) → number < 2 → record_at s inodes number ≢ zeros 128 → IsMisspelt limits s inodes body (record_block s inodes body number)
  root : (IsSomeAnd (inode_at s inodes 2) (λ inode. inode.kind ≡ Directory) → ⊥) → IsMisspelt limits s inodes body (record_block s inodes body 2)
  acls : (number : ℕ) (inode : Inode) → inode_at s inodes number ≡ Some inode → (HasAcls s inode → ⊥) → IsMisspelt limits s inodes body inode.acl_block
  content : (number : ℕ) (inode : Inode) (block : ℕ) → inode_at s inodes number ≡ Some inode
      → IsContentFault limits s inode.kind inode.content (names_at s inodes number) (record_block s inodes body number) block → IsMisspelt limits s inodes body block
  hidden : number_of (codes ".snapshot") (names_at s inodes 2) ≢ None → IsMisspelt limits s inodes body (record_block s inodes body 2)

-- ---- names

-- a name of a directory, and the directory block that has it
pub record IsNameIn (s : Store) (inodes : BlockTree) (directory : ℕ) (name : Link) (block : ℕ) : Type 0 where
  pub inode : Inode
  pub is : inode_at s inodes directory ≡ Some inode
  pub kind : inode.kind ≡ Directory
  pub tree : BlockTree
  pub content : inode.content ≡ Tree tree
  pub i : ℕ
  pub within : i < tree.size / 4096
  pub has : Contains (names_in (data_block s tree i)) name
  pub here : block ≡ entry s (levels_of tree.size) tree.pointers i

-- Names and inodes don't agree.
pub data IsLinkFault (s : Store) (inodes : BlockTree) (body : ℕ) : ℕ → Type 0 where
  leads : (directory : ℕ) (name : Link) (block : ℕ) → IsNameIn s inodes directory name block → inode_at s inodes name.number ≡ None → IsLinkFault s inodes body block
  named_root : name_count s inodes 2 ≢ 0 → IsLinkFault s inodes body (record_block s inodes body 2)
  counted : (number : ℕ) (inode : Inode) → number ≢ 2 → inode_at s inodes number ≡ Some inode → name_count s inodes number ≢ inode.links → IsLinkFault s inodes body (record_block s inodes body number)
  apart : (number : ℕ) (inode : Inode) → inode_at s inodes number ≡ Some inode → inode.kind ≡ Directory → (IsReached s inodes number → ⊥) → IsLinkFault s inodes body (record_block s inodes body number)
