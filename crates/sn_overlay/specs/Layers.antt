-- A layer: what changed of a tree, and the tree that is seen through it. What a layer has for a number, a name or a block takes precedence over what is below.
use Rattle.std.specs.Prelude.{◌≡◌, ℕ, ◌+◌, ◌*◌, ◌<◌, ◌≤◌, Bool, true, false, not, ◌||◌, nat_le, List, length, map, slice_index, Option, None, Some, is_some, if◌then◌else◌}
use Rattle.std.specs.Ordering.{nat_cmp}
use Rattle.std.specs.Option.{option_map, unwrap_or}
use Rattle.std.specs.FinMap as map
use Rattle.sn_acl.specs.declared.entries.Entry.{Entry}
use Rattle.sn_model.specs.declared.link.Link.{Link}
pub use Rattle.sn_model.specs.FileCalls.{bytes_of}
use Rattle.sn_model.specs.Tree.{Node, Tree, link_cmp}
use Rattle.sn_model.specs.Changes.{node_with}
use Rattle.sn_overlay.specs.declared.file_block.FileBlock.{FileBlock}
use Rattle.sn_overlay.specs.declared.node.NodeChange.{NodeChange}
use Rattle.sn_overlay.specs.declared.node.NodeChange.TheVariants.{Gone, Changed}
use Rattle.sn_overlay.specs.declared.node.NodeState.{NodeState}
use Rattle.sn_overlay.specs.Pieces.{zeros, piece, joined}
use Rattle.sn_overlay.specs.Keys.{file_block_cmp, file_block_at}
use Rattle.sn_overlay.specs.Overlaid.{overlaid}

-- what changed: nodes by number, names (a number, or none), and blocks of files
pub record Layer : Type 0 where
  pub nodes : map.FinMap nat_cmp NodeChange
  pub names : map.FinMap link_cmp (Option ℕ)
  pub blocks : map.FinMap file_block_cmp (List ℕ)

-- what is gone or made anew hides the names that the number had
abbrev pub hides_names : Option NodeChange → Bool
hides_names None = false
hides_names (Some (Gone by_close)) = true
hides_names (Some (Changed state)) = state.fresh

-- a file made anew hides the blocks that its number had, as a cut does with those after it
abbrev pub is_hidden : NodeState → ℕ → Bool
is_hidden state index = state.fresh || nat_le state.cut (index * 4096)

abbrev pub hides_block : Option NodeChange → ℕ → Bool
hides_block None index = false
hides_block (Some (Gone by_close)) index = true
hides_block (Some (Changed state)) index = is_hidden state index

-- the block of a changed file: the layer's, or zeros where what is below is hidden, or what is below
abbrev pub block_seen : Layer → ℕ → NodeState → List ℕ → ℕ → List ℕ
block_seen layer number state below index = unwrap_or (map.get layer.blocks (file_block_at number index)) (if is_hidden state index then zeros 4096 else piece 4096 below index)

abbrev pub node_seen : Layer → ℕ → Option NodeChange → Option Node → Option Node
node_seen layer number None below = below
node_seen layer number (Some (Gone by_close)) below = None
node_seen layer number (Some (Changed state)) below = Some (node_with state.kind state.ownership (joined 4096 state.size (block_seen layer number state (bytes_of below))))

abbrev pub name_seen : Layer → Link → Option (Option ℕ) → Option ℕ → Option ℕ
name_seen layer link (Some number) below = number
name_seen layer link None below = if hides_names (map.get layer.nodes link.directory) then None else below

-- the tree that is seen through a layer
unfoldable pub through : Layer → Tree → Tree
through layer tree = record {
  nodes = overlaid (map (λ e. (e.0, node_seen layer e.0 (Some e.1) (map.get tree.nodes e.0))) (map.entries layer.nodes)) tree.nodes;
  links = overlaid (map.entries layer.names) (map.retain_keys tree.links (λ link. not (hides_names (map.get layer.nodes link.directory))));
}

-- A layer is whole: what it has of names and blocks belongs to numbers that it has, blocks have 4,096 bytes and begin before the end of their file, and nothing is cut past its end.
pub record IsLayer (layer : Layer) : Type 0 where
  pub names : (link : Link) → is_some (map.get layer.names link) ≡ true → is_some (map.get layer.nodes link.directory) ≡ true
  pub blocks : (file_block : FileBlock) → is_some (map.get layer.blocks file_block) ≡ true → is_some (map.get layer.nodes file_block.file) ≡ true
  pub lengths : (file_block : FileBlock) (bytes : List ℕ) → map.get layer.blocks file_block ≡ Some bytes → length bytes ≡ 4096
  pub begins : (file_block : FileBlock) (state : NodeState) → is_some (map.get layer.blocks file_block) ≡ true → map.get layer.nodes file_block.file ≡ Some (Changed state) → file_block.index * 4096 < state.size
  pub cuts : (number : ℕ) (state : NodeState) → map.get layer.nodes number ≡ Some (Changed state) → state.cut ≤ state.size

-- the two ACLs of a node
abbrev pub acls_of : Node → List Entry × Option (List Entry)
acls_of node = (node.acl, node.default_acl)

-- It fits a tree below: what isn't made anew is there and of that kind, with those ACLs unless it says that they may differ, and blocks are zeros past the end of their file.
pub record Fits (layer : Layer) (tree : Tree) : Type 0 where
  pub kinds : (number : ℕ) (state : NodeState) → map.get layer.nodes number ≡ Some (Changed state) → state.fresh ≡ false → option_map (λ (node : Node). node.kind) (map.get tree.nodes number) ≡ Some state.kind
  pub acls : (number : ℕ) (state : NodeState) → map.get layer.nodes number ≡ Some (Changed state) → state.fresh ≡ false → state.acl_changed ≡ false → option_map acls_of (map.get tree.nodes number) ≡ Some (state.ownership.acl, state.ownership.default_acl)
  pub zeros : (number : ℕ) (state : NodeState) (index at : ℕ) → map.get layer.nodes number ≡ Some (Changed state) → at < 4096 → state.size ≤ index * 4096 + at → slice_index (block_seen layer number state (bytes_of (map.get tree.nodes number)) index) at ≡ 0
