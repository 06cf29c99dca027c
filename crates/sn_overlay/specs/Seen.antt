-- What is read of the tree below an overlay.
use Rattle.std.specs.Prelude.{◌≡◌, ℕ, List, length, Option, None, Some, if◌then◌else◌}
use Rattle.std.specs.Option.{option_map, unwrap_or}
use Rattle.std.specs.FinMap as map
use Rattle.sn_model.specs.Tree.{Node, Tree, link_count, names_for}
use Rattle.sn_model.specs.Changes.{ownership_of}
use Rattle.sn_overlay.specs.declared.node.NodeChange.{NodeChange}
use Rattle.sn_overlay.specs.declared.node.NodeChange.TheVariants.{Gone, Changed}
use Rattle.sn_overlay.specs.declared.node.NodeState.{NodeState}
use Rattle.sn_overlay.specs.declared.node.SeenNode.{SeenNode}
use Rattle.sn_overlay.specs.declared.file_block.FileBlock.{FileBlock}
use Rattle.sn_overlay.specs.Pieces.{zeros, piece}
use Rattle.sn_overlay.specs.Layers.{Layer, IsLayer, Fits, through, hides_block, bytes_of}

abbrev pub seen_of : Tree → ℕ → Node → SeenNode
seen_of tree number node = record { kind = node.kind; ownership = ownership_of node; links = link_count node.kind (names_for tree number); size = length node.bytes }

-- the node of a number
abbrev pub seen_node : Tree → ℕ → Option SeenNode
seen_node tree number = option_map (seen_of tree number) (map.get tree.nodes number)

-- a block of a file, with zeros past its end
abbrev pub seen_block : Tree → FileBlock → List ℕ
seen_block tree file_block = piece 4096 (bytes_of (map.get tree.nodes file_block.file)) file_block.index

-- A layer counts names: what it has of a node says how many names the node has in the tree that the layer makes of another, and what it doesn't have has as many as before.
pub record CountsNames (layer : Layer) (tree after : Tree) : Type 0 where
  pub changed : (number : ℕ) (state : NodeState) → map.get layer.nodes number ≡ Some (Changed state) → state.links ≡ link_count state.kind (names_for after number)
  pub others : (number : ℕ) → map.get layer.nodes number ≡ None → names_for after number ≡ names_for tree number

-- A layer lies over a tree: it is whole, fits the tree, and counts names.
pub record LiesOver (layer : Layer) (tree : Tree) : Type 0 where
  pub whole : IsLayer layer
  pub fits : Fits layer tree
  pub counts : CountsNames layer tree (through layer tree)

-- a node that a layer has, as it is seen
abbrev pub shown_state : NodeState → SeenNode
shown_state state = record { kind = state.kind; ownership = state.ownership; links = state.links; size = state.size }

-- the layer's node, or the one below
abbrev pub node_shown : Option NodeChange → Option SeenNode → Option SeenNode
node_shown None below = below
node_shown (Some (Gone by_close)) below = None
node_shown (Some (Changed state)) below = Some (shown_state state)

-- the layer's block, or zeros where what is below is hidden, or the one below
abbrev pub block_shown : Option NodeChange → Option (List ℕ) → ℕ → List ℕ → List ℕ
block_shown None written index below = below
block_shown (Some (Gone by_close)) written index below = zeros 4096
block_shown (Some (Changed state)) written index below = unwrap_or written (if hides_block (Some (Changed state)) index then zeros 4096 else below)
