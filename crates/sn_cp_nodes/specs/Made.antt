-- What becomes of the content of one node, as its parts are planned.
use Rattle.std.specs.Prelude.{◌≡◌, ◌≢◌, ℕ, ◌+◌, ◌*◌, ◌%◌, ◌<◌, ◌≤◌, Bool, true, false, List, [], length, map, Option, None, Some, All, IfSome}
use Rattle.std.specs.List.Sorted.{IsStrictlyIncreasing}
use Rattle.sn_alloc.specs.Taking.{IsFreeData, free_data}
use Rattle.sn_dir_change.specs.Changes.{AreChanges}
use Rattle.sn_dir_change.specs.Planned.{IsDirectoryPlanned, IsSizeWith, CannotRead}
use Rattle.sn_dir_change.specs.declared.name_change.NameChange.{NameChange}
use Rattle.sn_image.specs.Contents.{content_reach}
use Rattle.sn_inode.specs.Changes.{IsChange}
use Rattle.sn_inode.specs.declared.changes.AclChange.{AclChange}
use Rattle.sn_inode.specs.declared.changes.InodeChange.{InodeChange}
use Rattle.sn_inode.specs.declared.changes.RecordChange.{RecordChange}
use Rattle.sn_inode.specs.declared.changes.RecordChange.TheVariants.{Unused, Used}
use Rattle.sn_layout.specs.Pointers.{levels_of}
use Rattle.sn_layout.specs.declared.tree.BlockTree.{BlockTree}
use Rattle.sn_layout_node.specs.Inode.{size_of}
use Rattle.sn_layout_node.specs.declared.content.Content.{Content}
use Rattle.sn_layout_node.specs.declared.content.Content.TheVariants.{Inline, Tree}
use Rattle.sn_layout_node.specs.declared.inode.Inode.{Inode}
use Rattle.sn_limits.specs.declared.limits.Limits.{Limits}
use Rattle.sn_limits.specs.declared.kind.Kind.{Kind}
use Rattle.sn_model.specs.declared.link.Link.{Link}
use Rattle.sn_limits.specs.declared.kind.Kind.TheVariants.{File, Directory}
use Rattle.sn_overlay.specs.declared.node.NodeChange.{NodeChange}
use Rattle.sn_overlay.specs.declared.node.NodeChange.TheVariants.{Changed, Gone}
use Rattle.sn_overlay.specs.declared.node.NodeState.{NodeState}
use Rattle.sn_ondisk.specs.Counts.{times}
use Rattle.sn_ondisk.specs.Trees.{Store}
use Rattle.sn_tree.specs.Drafts.{Draft, grown, numbers_of}
use Rattle.sn_tree.specs.Orders.{AreInOrder}
use Rattle.sn_tree.specs.Steps.{LeadsOutside}
use Rattle.sn_content.specs.Contents.{IsContentPlanned, IsReleased}
use Rattle.sn_cp_nodes.specs.Inodes.{FitsRecord, IsInodeFor}
use Rattle.sn_cp_nodes.specs.Parts.{Blocks, Names, content_of, dirty_of, empty_tree, keep_of}

-- a name and what it is to denote: a number, or nothing
abbrev pub Pair : Type 0
Pair = List ℕ × Option ℕ

abbrev pub pair_of : NameChange → Pair
pair_of change = (change.name.now, change.number)

abbrev pub pair_in : Link × Option ℕ → Pair
pair_in entry = (entry.0.name, entry.1)

-- the names of a list and what each is to denote, as changes
abbrev pub ChangeThem : Names → List NameChange → Type 0
ChangeThem names changes = map pair_of changes ≡ map pair_in names

-- The tree in which a directory's names change: the old one, or one without blocks for a directory that was made anew, for which all that was there is released.
pub record IsBegun (Told : Type 0) (s : Store) (old : Content) (fresh : Bool) (tree : BlockTree) (old_draft new_draft : Draft) : Type 0 where
  pub released : List ℕ
  pub grew : new_draft ≡ grown old_draft [] released
  pub kept : fresh ≡ false → (old ≡ Tree tree) × (released ≡ [])
  pub empty : fresh ≡ true → tree ≡ empty_tree
  pub all : Told → fresh ≡ true → (block : ℕ) → block ≢ 0 → times block released ≡ times block (content_reach s old)

-- A directory was planned: from the tree with which it begins, with these names changed.
pub record IsDirectoryMade (Told : Type 0) (s : Store) (old : Content) (fresh : Bool) (names : Names) (new : BlockTree) (old_draft new_draft : Draft) : Type 0 where
  pub tree : BlockTree
  pub between : Draft
  pub changes : List NameChange
  pub are : ChangeThem names changes
  pub can : AreChanges changes
  pub begun : IsBegun Told s old fresh tree old_draft between
  pub planned : IsDirectoryPlanned Told s tree new changes between new_draft

-- Fewer blocks are left than a path for each name and one more take, in a directory of the size that this one gets.
pub record IsTooSmall (Told : Type 0) (s : Store) (old : Content) (fresh : Bool) (names : Names) (draft : Draft) : Type 0 where
  pub tree : BlockTree
  pub changes : List NameChange
  pub size : ℕ
  pub are : ChangeThem names changes
  pub kept : fresh ≡ false → old ≡ Tree tree
  pub empty : fresh ≡ true → tree ≡ empty_tree
  pub sized : IsSizeWith Told s tree changes size
  pub less : free_data draft.words draft.first < length draft.added + (levels_of size + 1) * (length names + 1)

-- ---- what isn't damaged

-- A file's blocks can have these indices in it, and each block that its number reached is on the device.
pub record CanMakeFile (sectors : ℕ) (s : Store) (old : Content) (size : ℕ) (written : Blocks) : Type 0 where
  pub order : AreInOrder size (dirty_of written)
  pub lies : LeadsOutside sectors (content_reach s old) → ⊥

-- A directory's blocks are there to be read, with room for as many more as there are numbers of blocks.
pub record CanBegin (sectors : ℕ) (s : Store) (old : Content) : Type 0 where
  pub tree : BlockTree
  pub is : old ≡ Tree tree
  pub whole : tree.size % 4096 ≡ 0
  pub most : tree.size ≤ 35184372088832
  pub read : CannotRead sectors s tree → ⊥

-- A directory can have these names, the old one can be read unless it was made anew, and each block that its number reached is on the device.
pub record CanMakeDirectory (sectors : ℕ) (s : Store) (old : Content) (fresh : Bool) (names : Names) : Type 0 where
  pub can : (changes : List NameChange) → ChangeThem names changes → AreChanges changes
  pub begin : fresh ≡ false → CanBegin sectors s old
  pub lies : LeadsOutside sectors (content_reach s old) → ⊥

-- ---- a node

-- a file's content, with the size and the blocks of the layer
pub record IsFileMade (Told : Type 0) (s : Store) (old : Content) (state : NodeState) (written : Blocks) (new : Content) (old_draft new_draft : Draft) : Type 0 where
  pub size : size_of new ≡ state.size
  pub order : AreInOrder state.size (dirty_of written)
  pub planned : IsContentPlanned Told s old new (keep_of state) (dirty_of written) old_draft new_draft

-- a directory's, whose bytes are its names
abbrev pub IsTreeMade : Type 0 → Store → Content → NodeState → Names → Content → Draft → Draft → Type 0
IsTreeMade Told s old state names (Inline bytes) old_draft new_draft = ⊥
IsTreeMade Told s old state names (Tree tree) old_draft new_draft = IsDirectoryMade Told s old state.fresh names tree old_draft new_draft

abbrev pub IsMadeAs : Kind → Type 0 → Store → Content → NodeState → Names → Blocks → Content → Draft → Draft → Type 0
IsMadeAs File Told s old state names written new old_draft new_draft = IsFileMade Told s old state written new old_draft new_draft
IsMadeAs Directory Told s old state names written new old_draft new_draft = IsTreeMade Told s old state names new old_draft new_draft

-- the content of a node that changed: that of a file has the size and the blocks of the layer, that of a directory its names
abbrev pub IsContentMade : Type 0 → Store → Content → NodeState → Names → Blocks → Content → Draft → Draft → Type 0
IsContentMade Told s old state names written new old_draft new_draft = IsMadeAs state.kind Told s old state names written new old_draft new_draft

-- The inode of a node that changed was made, with its content.
pub record IsInodeMade (Told : Type 0) (s : Store) (was : Option Inode) (state : NodeState) (names : Names) (written : Blocks) (record_change : RecordChange) (old_draft new_draft : Draft) : Type 0 where
  pub inode : Inode
  pub acls : AclChange
  pub used : record_change ≡ Used inode acls
  pub made : IsInodeFor was state inode.content inode acls
  pub fits : FitsRecord inode
  pub content : IsContentMade Told s (content_of was) state names written inode.content old_draft new_draft

-- What a number had was released, if it had anything.
abbrev pub IsGone : Type 0 → Store → Option Inode → ℕ → Option InodeChange → Draft → Draft → Type 0
IsGone Told s None number change old_draft new_draft = (change ≡ None) × (new_draft ≡ old_draft)
IsGone Told s (Some inode) number change old_draft new_draft = (change ≡ Some (record { number = number; «record» = Unused })) × IsReleased Told s inode.content old_draft new_draft

-- The inode of a number is to change as it was made.
pub record IsChangeMade (Told : Type 0) (s : Store) (was : Option Inode) (state : NodeState) (names : Names) (written : Blocks) (new : Option InodeChange) (old_draft new_draft : Draft) : Type 0 where
  pub change : InodeChange
  pub is : new ≡ Some change
  pub made : IsInodeMade Told s was state names written change.«record» old_draft new_draft

-- What became of a number was planned: it is gone, or has the inode that was made.
abbrev pub IsNodeMade : Type 0 → Store → Option Inode → ℕ → NodeChange → Names → Blocks → Option InodeChange → Draft → Draft → Type 0
IsNodeMade Told s was number (Gone by_close) names written new old_draft new_draft = IsGone Told s was number new old_draft new_draft
IsNodeMade Told s was number (Changed state) names written new old_draft new_draft = IsChangeMade Told s was state names written new old_draft new_draft

-- ---- where there is too little room

-- Fewer blocks are left than a path for each block that was written and one more take, in a file of this size, or than the names of a directory take.
abbrev pub IsTooSmallAs : Kind → Type 0 → Store → Content → NodeState → Names → Blocks → Draft → Type 0
IsTooSmallAs File Told s old state names written draft = free_data draft.words draft.first < length draft.added + (levels_of state.size + 1) * (length written + 1)
IsTooSmallAs Directory Told s old state names written draft = IsTooSmall Told s old state.fresh names draft

-- than what a node takes; one that is gone takes none
abbrev pub IsTooSmallFor : Type 0 → Store → Option Inode → NodeChange → Names → Blocks → Draft → Type 0
IsTooSmallFor Told s was (Gone by_close) names written draft = ⊥
IsTooSmallFor Told s was (Changed state) names written draft = IsTooSmallAs state.kind Told s (content_of was) state names written draft

-- ---- what of a node isn't damaged

abbrev pub CanMakeAs : Kind → ℕ → Store → Content → NodeState → Names → Blocks → Type 0
CanMakeAs File sectors s old state names written = CanMakeFile sectors s old state.size written
CanMakeAs Directory sectors s old state names written = CanMakeDirectory sectors s old state.fresh names

-- its content can be made
abbrev pub CanMakeContent : ℕ → Store → Content → NodeState → Names → Blocks → Type 0
CanMakeContent sectors s old state names written = CanMakeAs state.kind sectors s old state names written

-- The blocks that were added are free in the map, and none was added twice.
pub record HasTaken (draft : Draft) : Type 0 where
  pub free : All (IsFreeData draft.words draft.first) (numbers_of draft.added)
  pub rise : IsStrictlyIncreasing (numbers_of draft.added)

-- Its content can be made, and an inode that is made so is one that the number can have.
pub record CanMakeInode (Told : Type 0) (limits : Limits) (sectors : ℕ) (s : Store) (was : Option Inode) (number : ℕ) (state : NodeState) (names : Names) (written : Blocks) (draft : Draft) : Type 0 where
  pub content : CanMakeContent sectors s (content_of was) state names written
  pub fits : (record_change : RecordChange) (behind : Draft) → HasTaken behind → IsInodeMade Told s was state names written record_change draft behind
      → IsChange limits (record { number = number; «record» = record_change })

-- Each block that an inode reached is on the device, and the number is one that a node can have.
pub record CanRelease (limits : Limits) (sectors : ℕ) (s : Store) (number : ℕ) (inode : Inode) : Type 0 where
  pub fits : IsChange limits (record { number = number; «record» = Unused })
  pub lies : LeadsOutside sectors (content_reach s inode.content) → ⊥

abbrev pub CanPlan : Type 0 → Limits → ℕ → Store → Option Inode → ℕ → NodeChange → Names → Blocks → Draft → Type 0
CanPlan Told limits sectors s was number (Gone by_close) names written draft = IfSome was (CanRelease limits sectors s number)
CanPlan Told limits sectors s was number (Changed state) names written draft = CanMakeInode Told limits sectors s was number state names written draft
