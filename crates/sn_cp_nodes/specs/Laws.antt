-- What was planned of a node has what is seen of it through a layer.
use Rattle.std.specs.Prelude.{◌≡◌, ℕ, ◌+◌, ◌*◌, ◌<◌, Bool, true, false, List, length, Some, IsTrue}
use Rattle.std.specs.FinMap as fin
use Rattle.sn_alloc.specs.Taking.{free_data}
use Rattle.sn_dir_change.specs.Planned.{HasChanged}
use Rattle.sn_dir_change.specs.declared.name_change.NameChange.{NameChange}
use Rattle.sn_image.specs.Contents.{bytes_of}
use Rattle.sn_image.specs.Image.{image}
use Rattle.sn_image.specs.Inodes.{inode_at}
use Rattle.sn_image.specs.Names.{names_of}
use Rattle.sn_image.specs.Reach.{reach_at}
use Rattle.sn_image.specs.Sound.{AreOnce, ContentEnds, EndsAtSize, HasBlocks}
use Rattle.sn_layout.specs.declared.tree.BlockTree.{BlockTree}
use Rattle.sn_layout_node.specs.Directory.{number_of}
use Rattle.sn_layout_node.specs.Inode.{IsContent, size_of}
use Rattle.sn_layout_node.specs.declared.content.Content.{Content}
use Rattle.sn_layout_node.specs.declared.content.Content.TheVariants.{Tree}
use Rattle.sn_limits.specs.declared.kind.Kind.TheVariants.{File, Directory}
use Rattle.sn_limits.specs.declared.limits.Limits.{Limits}
use Rattle.sn_model.specs.Tree.{link_to}
use Rattle.sn_ondisk.specs.TreeLaws.{SameIn}
use Rattle.sn_ondisk.specs.Trees.{Store, tree_reach}
use Rattle.sn_overlay.specs.Layers.{Layer, block_seen, through}
use Rattle.sn_overlay.specs.Layers as layers
use Rattle.sn_overlay.specs.Lists.{changed_names, written_blocks}
use Rattle.sn_overlay.specs.Needs.{levels}
use Rattle.sn_overlay.specs.Pieces.{joined}
use Rattle.sn_overlay.specs.Sorted.{bytes_by_file_block}
use Rattle.sn_overlay.specs.declared.node.NodeChange.{NodeChange}
use Rattle.sn_overlay.specs.declared.node.NodeChange.TheVariants.{Changed}
use Rattle.sn_overlay.specs.declared.node.NodeState.{NodeState}
use Rattle.sn_tree.specs.Drafts.{Draft}
use Rattle.sn_tree.specs.Orders.{AreInOrder}
use Rattle.sn_tree.specs.Plans.{Holds}
use Rattle.sn_tree.specs.declared.new_block.NewBlock.{NewBlock}
use Rattle.sn_content.specs.Contents.{IsContentReplanned}
use Rattle.sn_cp_nodes.specs.Built.{CanBuildNode, IsGround, IsSafeGround, IsTooSmallAt}
use Rattle.sn_cp_nodes.specs.Made.{ChangeThem}
use Rattle.sn_cp_nodes.specs.Parts.{Blocks, IsPartOf, Names, content_of, dirty_of, empty_tree, keep_of}

-- A file that was planned with the size and the blocks of a layer has the bytes that are seen of it, and ends at its size.
abbrev pub FilesAreSeen : Type 0
FilesAreSeen = (limits : Limits) (n : ℕ) (s r : Store) (file : BlockTree) (layer : Layer) (number : ℕ) (state : NodeState) (written : Blocks) (content : Content) (added : List NewBlock) (released : List ℕ)
    → IsGround limits n s file layer → fin.get layer.nodes number ≡ Some (Changed state) → state.kind ≡ File → bytes_by_file_block written ≡ written_blocks layer number
    → IsContent limits File content → size_of content ≡ state.size → AreInOrder state.size (dirty_of written)
    → IsContentReplanned s (content_of (inode_at s file number)) content (keep_of state) (dirty_of written) added released → SameIn (reach_at s file number) s r → Holds r added
    → (bytes_of r content ≡ joined 4096 state.size (block_seen layer number state (layers.bytes_of (fin.get (image s file).nodes number)))) × ContentEnds r content

-- A directory has the names that are seen of it, none twice, in blocks that are there, and ends at its size.
pub record IsSeen (layer : Layer) (s : Store) (file : BlockTree) (number : ℕ) (r : Store) (new : BlockTree) : Type 0 where
  pub names : (name : List ℕ) → number_of name (names_of r (Tree new)) ≡ fin.get (through layer (image s file)).links (link_to number name)
  pub once : AreOnce (names_of r (Tree new))
  pub ends : EndsAtSize r new
  pub blocks : HasBlocks r new

-- So has one whose names were changed as a layer says, in the tree that was there, or in one without blocks where it was made anew.
abbrev pub DirectoriesAreSeen : Type 0
DirectoriesAreSeen = (limits : Limits) (n : ℕ) (s r : Store) (file : BlockTree) (layer : Layer) (number : ℕ) (state : NodeState) (names : Names) (tree new : BlockTree) (changes : List NameChange)
    → IsGround limits n s file layer → fin.get layer.nodes number ≡ Some (Changed state) → state.kind ≡ Directory → names ≡ changed_names layer number → ChangeThem names changes
    → (state.fresh ≡ true → tree ≡ empty_tree) → (state.fresh ≡ false → content_of (inode_at s file number) ≡ Tree tree)
    → (AreOnce (names_of s (Tree tree)) → SameIn (tree_reach s tree) s r → HasChanged s r tree new changes) → SameIn (reach_at s file number) s r
    → IsSeen layer s file number r new

-- ---- what a ground has

-- Where too few blocks are left for a number, fewer are than a path for each name and each block that changed of it and one more.
abbrev pub GroundsHaveRoom : Type 0
GroundsHaveRoom = (told : Bool) (limits : Limits) (n : ℕ) (s : Store) (file : BlockTree) (layer : Layer) (number : ℕ) (change : NodeChange) (names : Names) (written : Blocks) (draft : Draft)
    → IsTrue told → IsGround limits n s file layer → IsPartOf layer number change names written → IsTooSmallAt (IsTrue told) s file number change names written draft
    → free_data draft.words draft.first < length draft.added + levels limits * (length (changed_names layer number) + length (written_blocks layer number) + 1)

-- Where its blocks are on the device and can't be taken, what it has of a number can be read, and what becomes of it can be planned.
abbrev pub SafeGroundsAreBuilt : Type 0
SafeGroundsAreBuilt = (told : Bool) (limits : Limits) (n sectors : ℕ) (s : Store) (file : BlockTree) (layer : Layer) (number : ℕ) (change : NodeChange) (names : Names) (written : Blocks) (draft : Draft)
    → IsTrue told → IsSafeGround limits n sectors s file layer draft → IsPartOf layer number change names written
    → CanBuildNode (IsTrue told) limits sectors s file number change names written draft
