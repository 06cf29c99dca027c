-- What was planned of the nodes of a layer, one after the other.
use Rattle.std.specs.Prelude.{◌≡◌, ℕ, ◌+◌, ◌*◌, List, [], ◌∷◌, ◌++◌, length, map, Option, None, Some, IfSome, Contains}
use Rattle.std.specs.FinMap as fin
use Rattle.sn_inode.specs.Changes.{IsChange}
use Rattle.sn_inode.specs.declared.changes.InodeChange.{InodeChange}
use Rattle.sn_layout.specs.declared.tree.BlockTree.{BlockTree}
use Rattle.sn_limits.specs.declared.limits.Limits.{Limits}
use Rattle.sn_ondisk.specs.Trees.{Store}
use Rattle.sn_overlay.specs.Layers.{Layer}
use Rattle.sn_overlay.specs.Lists.{changed_names, written_blocks}
use Rattle.sn_overlay.specs.Needs.{levels}
use Rattle.sn_overlay.specs.declared.node.NodeChange.{NodeChange}
use Rattle.sn_tree.specs.Drafts.{Draft}
use Rattle.sn_cp_nodes.specs.Built.{BuildsNode}

-- the numbers of the nodes that a layer has, in order
abbrev pub numbers_of : Layer → List ℕ
numbers_of layer = map (λ (e : ℕ × NodeChange). e.0) (fin.entries layer.nodes)

-- A layer some of whose files' blocks were taken has all else of another.
pub record IsLeft (layer : Layer) (taken : List ℕ) (left : Layer) : Type 0 where
  pub nodes : left.nodes ≡ layer.nodes
  pub names : left.names ≡ layer.names
  pub blocks : (number : ℕ) → ¬ Contains taken number → written_blocks left number ≡ written_blocks layer number

-- what becomes of an inode, if anything does
abbrev pub listed : Option InodeChange → List InodeChange
listed None = []
listed (Some change) = change ∷ []

-- How the inode of a number is to change, if at all, is a change of that number that can be made.
pub record IsFor (limits : Limits) (number : ℕ) (change : Option InodeChange) : Type 0 where
  pub number_is : IfSome change (λ change. change.number ≡ number)
  pub can : IfSome change (IsChange limits)

-- Nodes with these numbers were built, one after the other, of a layer over the tree of an inode file: what is to become of their inodes, from one draft to another.
pub data AreBuilt (Told : Type 0) (limits : Limits) (s : Store) (file : BlockTree) (layer : Layer) (old : Draft) : List ℕ → List InodeChange → Draft → Type 0 where
  none : AreBuilt Told limits s file layer old [] [] old
  more : (numbers : List ℕ) (changes : List InodeChange) (between new : Draft) (number : ℕ) (change : Option InodeChange)
      → AreBuilt Told limits s file layer old numbers changes between → IsFor limits number change → BuildsNode Told limits s file layer number change between new
      → AreBuilt Told limits s file layer old (numbers ++ number ∷ []) (changes ++ listed change) new

-- the most blocks that a node of a layer takes for its content
abbrev pub most_for : Limits → Layer → ℕ → ℕ
most_for limits layer number = levels limits * (length (changed_names layer number) + length (written_blocks layer number) + 1)
