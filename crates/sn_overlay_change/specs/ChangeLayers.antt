-- The layer of one change over a tree: what the change makes different there, and nothing else.
use Rattle.std.specs.Prelude.{ℕ, zero, suc, ◌+◌, ◌-◌, ◌/◌, ◌%◌, Bool, true, false, not, ◌&&◌, ◌==◌, nat_lt, min, max, List, length, Option, None, Some, if◌then◌else◌}
use Rattle.std.specs.FinMap as map
use Rattle.sn_limits.specs.declared.kind.Kind.{Kind}
use Rattle.sn_walk.specs.Views.{is_directory}
use Rattle.sn_model.specs.declared.change.Change.{Change}
use Rattle.sn_model.specs.declared.change.Change.TheVariants.{Make, AddLink, Remove, Rename, Write, SetSize, SetAttributes}
use Rattle.sn_model.specs.declared.change.Ownership.{Ownership}
use Rattle.sn_model.specs.declared.link.Link.{Link}
use Rattle.sn_model.specs.Tree.{Node, Tree, link_to, link_count, names_for}
use Rattle.sn_model.specs.Changes.{ownership_of, same_number, overwritten}
use Rattle.sn_overlay.specs.declared.node.NodeChange.TheVariants.{Gone, Changed}
use Rattle.sn_overlay.specs.declared.node.NodeState.{NodeState}
use Rattle.sn_overlay.specs.Pieces.{piece}
use Rattle.sn_overlay_change.specs.Blocks.{zeroed}
use Rattle.sn_overlay.specs.Keys.{file_block_at}
use Rattle.sn_overlay.specs.Layers.{Layer}
use Rattle.sn_overlay.specs.Overlays.{no_changes, with_node, with_name, with_block}
use Rattle.sn_model.specs.FileCalls.{blocks_spanned}

-- a node that is there, as it is
abbrev pub state_of : Tree → ℕ → Node → NodeState
state_of tree number node = record { kind = node.kind; ownership = ownership_of node; links = link_count node.kind (names_for tree number); size = length node.bytes; cut = length node.bytes; fresh = false; acl_changed = false }

-- a node that is made: it has one name, and no bytes
abbrev pub new_state : Kind → Ownership → NodeState
new_state kind o = record { kind = kind; ownership = o; links = 1; size = 0; cut = 0; fresh = true; acl_changed = true }

-- a node that is there is changed
abbrev pub with_change : Tree → ℕ → (NodeState → NodeState) → Layer → Option Node → Layer
with_change tree number change layer None = layer
with_change tree number change layer (Some node) = with_node layer number (Changed (change (state_of tree number node)))

abbrev pub changing : Tree → ℕ → (NodeState → NodeState) → Layer → Layer
changing tree number change layer = with_change tree number change layer (map.get tree.nodes number)

-- a directory of which a name changes
abbrev pub touching : Tree → ℕ → Layer → Layer
touching tree number layer = changing tree number (λ state. state) layer

abbrev pub one_name_more : NodeState → NodeState
one_name_more state = record state { links = state.links + 1 }

abbrev pub one_name_less : NodeState → NodeState
one_name_less state = record state { links = state.links - 1 }

-- what loses a name: a directory is removed, and a file stays
abbrev pub without_name : Tree → ℕ → Layer → Option Node → Layer
without_name tree number layer None = layer
without_name tree number layer (Some node) = with_node layer number (if is_directory node.kind then Gone false else Changed (one_name_less (state_of tree number node)))

-- what has a name loses it
abbrev pub removing : Tree → Link → Option ℕ → Layer
removing tree link None = no_changes
removing tree link (Some number) = with_name (without_name tree number (touching tree link.directory no_changes) (map.get tree.nodes number)) link None

abbrev pub with_ownership : Ownership → NodeState → NodeState
with_ownership o state = record state { ownership = o; acl_changed = true }

-- the layer of a change of nodes and names
abbrev pub make_layer : Tree → Link → ℕ → Kind → Ownership → Layer
make_layer tree link number kind o = with_name (with_node (touching tree link.directory no_changes) number (Changed (new_state kind o))) link (Some number)

abbrev pub link_layer : Tree → Link → ℕ → Layer
link_layer tree link number = with_name (changing tree number one_name_more (touching tree link.directory no_changes)) link (Some number)

abbrev pub remove_layer : Tree → Link → Layer
remove_layer tree link = removing tree link (map.get tree.links link)

abbrev pub ownership_layer : Tree → ℕ → Ownership → Layer
ownership_layer tree number o = changing tree number (with_ownership o) no_changes

-- a file of another size: what was past the lesser one is cut off
abbrev pub size_state : ℕ → NodeState → NodeState
size_state size state = record state { size = size; cut = min size state.size }

-- whether a file is cut off inside a block
abbrev pub cuts_block : List ℕ → ℕ → Bool
cuts_block bytes size = nat_lt size (length bytes) && not (size % 4096 == 0)

-- that block, with zeros from there on
abbrev pub with_tail : Bool → Layer → ℕ → ℕ → List ℕ → Layer
with_tail false layer number size bytes = layer
with_tail true layer number size bytes = with_block layer (file_block_at number (size / 4096)) (zeroed (size % 4096) (piece 4096 bytes (size / 4096)))

abbrev pub cut_layer : Tree → ℕ → ℕ → Option Node → Layer
cut_layer tree number size None = no_changes
cut_layer tree number size (Some node) = with_tail (cuts_block node.bytes size) (with_node no_changes number (Changed (size_state size (state_of tree number node)))) number size node.bytes

abbrev pub size_layer : Tree → ℕ → ℕ → Layer
size_layer tree number size = cut_layer tree number size (map.get tree.nodes number)

-- what has the new name of a rename loses it, if anything has it
abbrev pub replacing : Tree → Layer → Option ℕ → Layer
replacing tree layer None = layer
replacing tree layer (Some number) = without_name tree number layer (map.get tree.nodes number)

-- a name exchanged for another: both directories, what loses the new name, and both names
abbrev pub exchange_layer : Tree → Link → Link → ℕ → Layer
exchange_layer tree old new number = with_name (with_name (replacing tree (touching tree new.directory (touching tree old.directory no_changes)) (map.get tree.links new)) old None) new (Some number)

-- where both names are of one object, nothing changes
abbrev pub renaming : Tree → Link → Link → Option ℕ → Layer
renaming tree old new None = no_changes
renaming tree old new (Some number) = if same_number number (map.get tree.links new) then no_changes else exchange_layer tree old new number

abbrev pub rename_layer : Tree → Link → Link → Layer
rename_layer tree old new = renaming tree old new (map.get tree.links old)

-- so many blocks of a file from one on, each as a function gives it
unfoldable pub with_blocks : Layer → ℕ → (ℕ → List ℕ) → ℕ → ℕ → Layer
with_blocks layer number block first zero = layer
with_blocks layer number block first (suc more) = with_block (with_blocks layer number block first more) (file_block_at number (first + more)) (block (first + more))

-- a file that ends no sooner than what is written
abbrev pub written_state : ℕ → NodeState → NodeState
written_state end state = record state { size = max state.size end }

-- each block that bytes are written to, as it is afterwards
abbrev pub writing : Tree → ℕ → ℕ → List ℕ → Option Node → Layer
writing tree number offset bytes None = no_changes
writing tree number offset bytes (Some node) = with_blocks (with_node no_changes number (Changed (written_state (offset + length bytes) (state_of tree number node)))) number (piece 4096 (overwritten node.bytes offset bytes)) (offset / 4096) (blocks_spanned offset (length bytes))

abbrev pub write_layer : Tree → ℕ → ℕ → List ℕ → Layer
write_layer tree number offset bytes = writing tree number offset bytes (map.get tree.nodes number)

-- the layer of a change
abbrev pub layer_of_change : Tree → Change → Layer
layer_of_change tree (Make directory name number kind o) = make_layer tree (link_to directory name) number kind o
layer_of_change tree (AddLink directory name number) = link_layer tree (link_to directory name) number
layer_of_change tree (Remove directory name) = remove_layer tree (link_to directory name)
layer_of_change tree (Rename old_directory old_name new_directory new_name) = rename_layer tree (link_to old_directory old_name) (link_to new_directory new_name)
layer_of_change tree (Write number offset bytes) = write_layer tree number offset bytes
layer_of_change tree (SetSize number size) = size_layer tree number size
layer_of_change tree (SetAttributes number o) = ownership_layer tree number o
