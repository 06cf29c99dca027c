-- What is built of one node of a layer.
use Rattle.std.specs.Prelude.{◌≡◌, ◌≢◌, ℕ, ◌+◌, ◌*◌, ◌≤◌, List, length, Option, None, Some, IfSome, Contains}
use Rattle.std.specs.Option.{option_map}
use Rattle.std.specs.FinMap as fin
use Rattle.sn_alloc.specs.Taking.{IsFreeData}
use Rattle.sn_image.specs.Contents.{content_reach}
use Rattle.sn_image.specs.Image.{image, node_of}
use Rattle.sn_image.specs.Inodes.{inode_at}
use Rattle.sn_image.specs.Names.{names_under}
use Rattle.sn_image.specs.Reach.{reach, reach_at}
use Rattle.sn_image.specs.Sound.{AreOnce, HasContent, IsBlock, IsSound, SpellsAcls}
use Rattle.sn_inode.specs.Reads.{CanReadRecord}
use Rattle.sn_inode.specs.declared.changes.InodeChange.{InodeChange}
use Rattle.sn_layout.specs.declared.tree.BlockTree.{BlockTree}
use Rattle.sn_layout_node.specs.Directory.{number_of}
use Rattle.sn_layout_node.specs.declared.inode.Inode.{Inode}
use Rattle.sn_limits.specs.Versions.{limits_of}
use Rattle.sn_limits.specs.declared.kind.Kind.TheVariants.{File}
use Rattle.sn_limits.specs.declared.limits.Limits.{Limits}
use Rattle.sn_model.specs.NameTree.{IsTree}
use Rattle.sn_model.specs.Tree.{Tree, link_to, names_for}
use Rattle.sn_ondisk.specs.Counts.{times}
use Rattle.sn_ondisk.specs.TreeLaws.{SameIn}
use Rattle.sn_ondisk.specs.Trees.{Store}
use Rattle.sn_overlay.specs.Layers.{Layer, through}
use Rattle.sn_overlay.specs.Lists.{changed_names, written_blocks}
use Rattle.sn_overlay.specs.Needs.{levels}
use Rattle.sn_overlay.specs.Seen.{LiesOver}
use Rattle.sn_overlay.specs.declared.node.NodeChange.{NodeChange}
use Rattle.sn_tree.specs.Drafts.{Draft, numbers_of, grown}
use Rattle.sn_tree.specs.Plans.{Holds}
use Rattle.sn_tree.specs.declared.new_block.NewBlock.{NewBlock}
use Rattle.sn_cp_nodes.specs.Inodes.{Becomes, content_for}
use Rattle.sn_cp_nodes.specs.Made.{CanPlan, IsTooSmallFor}
use Rattle.sn_cp_nodes.specs.Parts.{Blocks, Names, content_of}

-- What a build begins from: an inode file that is sound, whose blocks are whole, and a layer that is over its tree and shows a name tree.
pub record IsGround (limits : Limits) (n : ℕ) (s : Store) (file : BlockTree) (layer : Layer) : Type 0 where
  pub version : limits_of limits.version ≡ Some limits
  pub sound : IsSound limits n s file
  pub whole : (block : ℕ) → Contains (reach s file) block → IsBlock (s block)
  pub lies : LiesOver layer (image s file)
  pub tree : IsTree limits (through layer (image s file))

-- None of the blocks that a root reaches can be taken.
abbrev pub KeepsReach : Store → BlockTree → Draft → Type 0
KeepsReach s file draft = (block : ℕ) → Contains (reach s file) block → IsFreeData draft.words draft.first block → ⊥

-- A ground whose blocks are on a device of so many sectors, and can't be taken.
pub record IsSafeGround (limits : Limits) (n sectors : ℕ) (s : Store) (file : BlockTree) (layer : Layer) (draft : Draft) : Type 0 where
  pub ground : IsGround limits n s file layer
  pub room : 8 * n ≤ sectors
  pub kept : KeepsReach s file draft

-- The inode that a number gets denotes the node that is shown, whichever block its ACLs get, and is well formed.
pub record StandsFor (shown : Tree) (number : ℕ) (r : Store) (new : Option Inode) : Type 0 where
  pub node : option_map (node_of r) new ≡ fin.get shown.nodes number
  pub names : (name : List ℕ) → number_of name (names_under r new) ≡ fin.get shown.links (link_to number name)
  pub once : AreOnce (names_under r new)
  pub content : IfSome new (λ inode. HasContent r inode.kind inode.content)
  pub acls : IfSome new (λ inode. inode.acl_block ≢ 0 → SpellsAcls (r inode.acl_block))
  pub links : IfSome new (λ inode. inode.kind ≡ File → names_for shown number ≡ inode.links)

-- One node was built: how its number's inode is to change, if at all, and blocks that were added and released for its content, of which a path for each name and each block that changed and one more are the most. Over a device that tells its bytes the new content reaches, with what was released, what the old one reached with what was added, each block as often; and over a ground the inode denotes what is seen of the node. All that is so in any store that has the new blocks and agrees with the old one in what the number reached.
pub record BuildsNode (Told : Type 0) (limits : Limits) (s : Store) (file : BlockTree) (layer : Layer) (number : ℕ) (change : Option InodeChange) (old_draft new_draft : Draft) : Type 0 where
  pub added : List NewBlock
  pub released : List ℕ
  pub grew : new_draft ≡ grown old_draft added released
  pub few : length added ≤ levels limits * (length (changed_names layer number) + length (written_blocks layer number) + 1)
  pub none : Told → change ≡ None → inode_at s file number ≡ None
  pub reach : Told → (r : Store) → SameIn (reach_at s file number) s r → Holds r added → (block : ℕ) → block ≢ 0
      → times block (content_reach r (content_for change)) + times block released ≡ times block (content_reach s (content_of (inode_at s file number))) + times block (numbers_of added)
  pub stands : Told → (n : ℕ) → IsGround limits n s file layer → (r : Store) → SameIn (reach_at s file number) s r → Holds r added
      → (new : Option Inode) → Becomes r (inode_at s file number) change new → StandsFor (through layer (image s file)) number r new

-- Fewer blocks are left than what becomes of the number takes.
abbrev pub IsTooSmallAt : Type 0 → Store → BlockTree → ℕ → NodeChange → Names → Blocks → Draft → Type 0
IsTooSmallAt Told s file number change names written draft = IsTooSmallFor Told s (inode_at s file number) change names written draft

-- The number's record can be read, and what becomes of it can be planned.
pub record CanBuildNode (Told : Type 0) (limits : Limits) (sectors : ℕ) (s : Store) (file : BlockTree) (number : ℕ) (change : NodeChange) (names : Names) (written : Blocks) (draft : Draft) : Type 0 where
  pub read : CanReadRecord limits sectors s file number
  pub plan : CanPlan Told limits sectors s (inode_at s file number) number change names written draft
