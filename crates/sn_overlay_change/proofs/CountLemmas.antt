-- How much the layer of a change has, at most, and what it needs.
use Rattle.std.proofs.Common.{◌≡◌, ℕ, zero, suc, ◌+◌, ◌*◌, ◌/◌, ◌≤◌, Bool, true, false, cond, eqb, List, length, Option, Some, None, arith}
use Rattle.std.specs.declared.cmp.Ordering.{Ordering}
use Rattle.std.specs.Ordering.{nat_cmp}
use Rattle.std.specs.Cmp.{IsTotalOrder, nat_cmp_total}
use Rattle.std.specs.FinMap as fin
use Rattle.std.proofs.lemmas.Bool.Decides.{nat_tests}
use Rattle.std.proofs.lemmas.Nat.{mul-le}
use Rattle.sn_walk.specs.Views.{is_directory}
use Rattle.sn_limits.specs.declared.limits.Limits.{Limits}
use Rattle.sn_model.specs.declared.change.Change.{Change}
use Rattle.sn_model.specs.declared.change.Change.TheVariants.{Make, AddLink, Remove, Rename, Write, SetSize, SetAttributes}
use Rattle.sn_model.specs.declared.link.Link.{Link}
use Rattle.sn_model.specs.Tree.{Node, Tree, link_cmp, link_to}
use Rattle.sn_model.specs.Changes.{same_number, overwritten}
use Rattle.sn_model.proofs.LinkLemmas.{links_total}
use Rattle.sn_overlay.specs.declared.file_block.FileBlock.{FileBlock}
use Rattle.sn_overlay.specs.declared.node.NodeChange.{NodeChange}
use Rattle.sn_overlay.specs.declared.node.NodeChange.TheVariants.{Gone, Changed}
use Rattle.sn_overlay.specs.declared.node.NodeState.{NodeState}
use Rattle.sn_overlay.specs.Pieces.{piece}
use Rattle.sn_overlay.specs.Keys.{file_block_cmp, file_block_at}
use Rattle.sn_overlay.specs.Layers.{Layer}
use Rattle.sn_model.specs.FileCalls.{blocks_spanned}
use Rattle.sn_overlay.specs.Needs.{levels, need, need_of, counts_for}
use Rattle.sn_overlay.specs.Overlays.{no_changes, with_node, with_name, with_block}
use Rattle.sn_overlay_change.specs.ChangeLayers.{state_of, new_state, with_change, changing, touching, one_name_more, one_name_less, without_name, removing, with_ownership, size_state, cuts_block, with_tail, cut_layer, replacing, exchange_layer, renaming, with_blocks, written_state, writing, layer_of_change}
use Rattle.sn_overlay.proofs.OverlaidLemmas.{file_blocks_total}

len-inserted : {K X : Type 0} {R : K → K → Ordering} → IsTotalOrder R → (m : fin.FinMap R X) (k : K) (v : X) → fin.len (fin.insert m k v) ≤ fin.len m + 1
len-inserted o m k v = told (fin.contains_key m k) (fin.len-insert o m k v)
  where
    told : (b : Bool) → fin.len (fin.insert m k v) ≡ cond b (fin.len m) (fin.len m + 1) → fin.len (fin.insert m k v) ≤ fin.len m + 1
    told true e = omega arith
    told false e = omega arith

-- so many nodes, names and blocks at most
record IsWithin (layer : Layer) (n m b : ℕ) : Type 0 where
  nodes : fin.len layer.nodes ≤ n
  names : fin.len layer.names ≤ m
  blocks : fin.len layer.blocks ≤ b

within_none : IsWithin no_changes 0 0 0
within_none = record { nodes = omega (arith, fin.len-empty nat_cmp NodeChange); names = omega (arith, fin.len-empty link_cmp (Option ℕ)); blocks = omega (arith, fin.len-empty file_block_cmp (List ℕ)) }

within_more : (layer : Layer) (n m b n' m' b' : ℕ) → IsWithin layer n m b → n ≤ n' → m ≤ m' → b ≤ b' → IsWithin layer n' m' b'
within_more layer n m b n' m' b' h f g k = record { nodes = omega (arith, h.nodes); names = omega (arith, h.names); blocks = omega (arith, h.blocks) }

within_node : (layer : Layer) (n m b number : ℕ) (change : NodeChange) → IsWithin layer n m b → IsWithin (with_node layer number change) (n + 1) m b
within_node layer n m b number change h = record { nodes = omega (arith, h.nodes, len-inserted nat_cmp_total layer.nodes number change); names = h.names; blocks = h.blocks }

within_name : (layer : Layer) (n m b : ℕ) (link : Link) (value : Option ℕ) → IsWithin layer n m b → IsWithin (with_name layer link value) n (m + 1) b
within_name layer n m b link value h = record { nodes = h.nodes; names = omega (arith, h.names, len-inserted links_total layer.names link value); blocks = h.blocks }

within_block : (layer : Layer) (n m b : ℕ) (file_block : FileBlock) (bytes : List ℕ) → IsWithin layer n m b → IsWithin (with_block layer file_block bytes) n m (b + 1)
within_block layer n m b file_block bytes h = record { nodes = h.nodes; names = h.names; blocks = omega (arith, h.blocks, len-inserted file_blocks_total layer.blocks file_block bytes) }

within_change : (layer : Layer) (n m b : ℕ) (tree : Tree) (number : ℕ) (f : NodeState → NodeState) (found : Option Node) → IsWithin layer n m b → IsWithin (with_change tree number f layer found) (n + 1) m b
within_change layer n m b tree number f None h = within_more layer n m b (n + 1) m b h (omega arith) (omega arith) (omega arith)
within_change layer n m b tree number f (Some node) h = within_node layer n m b number (Changed (f (state_of tree number node))) h

within_changing : (layer : Layer) (n m b : ℕ) (tree : Tree) (number : ℕ) (f : NodeState → NodeState) → IsWithin layer n m b → IsWithin (changing tree number f layer) (n + 1) m b
within_changing layer n m b tree number f h = within_change layer n m b tree number f (fin.get tree.nodes number) h

within_without : (layer : Layer) (n m b : ℕ) (tree : Tree) (number : ℕ) (found : Option Node) → IsWithin layer n m b → IsWithin (without_name tree number layer found) (n + 1) m b
within_without layer n m b tree number None h = within_more layer n m b (n + 1) m b h (omega arith) (omega arith) (omega arith)
within_without layer n m b tree number (Some node) h = within_node layer n m b number (cond (is_directory node.kind) (Gone false) (Changed (one_name_less (state_of tree number node)))) h

within_touching : (tree : Tree) (number : ℕ) → IsWithin (touching tree number no_changes) 1 0 0
within_touching tree number = within_changing no_changes 0 0 0 tree number (λ state. state) within_none

within_blocks : (layer : Layer) (n m b number : ℕ) (block : ℕ → List ℕ) (first more : ℕ) → IsWithin layer n m b → IsWithin (with_blocks layer number block first more) n m (b + more)
unfolding with_blocks
within_blocks layer n m b number block first zero h = within_more layer n m b n m (b + 0) h (omega arith) (omega arith) (omega arith)
within_blocks layer n m b number block first (suc more) h =
    within_more (with_block (with_blocks layer number block first more) (file_block_at number (first + more)) (block (first + more))) n m (b + more + 1) n m (b + suc more)
    (within_block (with_blocks layer number block first more) n m (b + more) (file_block_at number (first + more)) (block (first + more)) (within_blocks layer n m b number block first more h)) (omega arith) (omega arith) (omega arith)

within_tail : (cuts : Bool) (layer : Layer) (n m b number size : ℕ) (bytes : List ℕ) → IsWithin layer n m b → IsWithin (with_tail cuts layer number size bytes) n m (b + 1)
within_tail false layer n m b number size bytes h = within_more layer n m b n m (b + 1) h (omega arith) (omega arith) (omega arith)
within_tail true layer n m b number size bytes h = within_block layer n m b (file_block_at number (size / 4096)) _ h

within_removing : (tree : Tree) (link : Link) (found : Option ℕ) → IsWithin (removing tree link found) 2 1 0
within_removing tree link None = within_more no_changes 0 0 0 2 1 0 within_none (omega arith) (omega arith) (omega arith)
within_removing tree link (Some number) = within_name (without_name tree number (touching tree link.directory no_changes) (fin.get tree.nodes number)) 2 0 0 link None
    (within_without (touching tree link.directory no_changes) 1 0 0 tree number (fin.get tree.nodes number) (within_touching tree link.directory))

within_renaming : (tree : Tree) (old new : Link) (found : Option ℕ) → IsWithin (renaming tree old new found) 3 2 0
within_renaming tree old new None = within_more no_changes 0 0 0 3 2 0 within_none (omega arith) (omega arith) (omega arith)
within_renaming tree old new (Some number) = told (same_number number (fin.get tree.links new))
  where
    parents : IsWithin (touching tree new.directory (touching tree old.directory no_changes)) 2 0 0
    parents = within_changing (touching tree old.directory no_changes) 1 0 0 tree new.directory (λ state. state) (within_touching tree old.directory)

    replaced : (it : Option ℕ) → IsWithin (replacing tree (touching tree new.directory (touching tree old.directory no_changes)) it) 3 0 0
    replaced None = within_more (touching tree new.directory (touching tree old.directory no_changes)) 2 0 0 3 0 0 parents (omega arith) (omega arith) (omega arith)
    replaced (Some n) = within_without (touching tree new.directory (touching tree old.directory no_changes)) 2 0 0 tree n (fin.get tree.nodes n) parents

    told : (b : Bool) → IsWithin (cond b no_changes (exchange_layer tree old new number)) 3 2 0
    told true = within_more no_changes 0 0 0 3 2 0 within_none (omega arith) (omega arith) (omega arith)
    told false =
        let nodes = replacing tree (touching tree new.directory (touching tree old.directory no_changes)) (fin.get tree.links new) in
        within_name (with_name nodes old None) 3 1 0 new (Some number) (within_name nodes 3 0 0 old None (replaced (fin.get tree.links new)))

within_writing : (tree : Tree) (number offset : ℕ) (bytes : List ℕ) (found : Option Node) → IsWithin (writing tree number offset bytes found) 1 0 (blocks_spanned offset (length bytes))
within_writing tree number offset bytes None = within_more no_changes 0 0 0 1 0 (blocks_spanned offset (length bytes)) within_none (omega arith) (omega arith) (omega arith)
within_writing tree number offset bytes (Some node) =
    let s = written_state (offset + length bytes) (state_of tree number node) in
    let bare = with_node no_changes number (Changed s) in
    let h = within_blocks bare 1 0 0 number (piece 4096 (overwritten node.bytes offset bytes)) (offset / 4096) (blocks_spanned offset (length bytes)) (within_node no_changes 0 0 0 number (Changed s) within_none) in
    within_more (writing tree number offset bytes (Some node)) 1 0 (0 + blocks_spanned offset (length bytes)) 1 0 (blocks_spanned offset (length bytes)) h (omega arith) (omega arith) (omega arith)

within_cut : (tree : Tree) (number size : ℕ) (found : Option Node) → IsWithin (cut_layer tree number size found) 1 0 1
within_cut tree number size None = within_more no_changes 0 0 0 1 0 1 within_none (omega arith) (omega arith) (omega arith)
within_cut tree number size (Some node) =
    let s = size_state size (state_of tree number node) in
    within_tail (cuts_block node.bytes size) (with_node no_changes number (Changed s)) 1 0 0 number size node.bytes (within_node no_changes 0 0 0 number (Changed s) within_none)

within_layer : (tree : Tree) (change : Change) → IsWithin (layer_of_change tree change) (counts_for change).nodes (counts_for change).names (counts_for change).blocks
within_layer tree (Make directory name number kind o) =
    let parent = touching tree directory no_changes in
    within_name (with_node parent number (Changed (new_state kind o))) 2 0 0 (link_to directory name) (Some number)
    (within_node parent 1 0 0 number (Changed (new_state kind o)) (within_touching tree directory))
within_layer tree (AddLink directory name number) =
    let parent = touching tree directory no_changes in
    within_name (changing tree number one_name_more parent) 2 0 0 (link_to directory name) (Some number)
    (within_changing parent 1 0 0 tree number one_name_more (within_touching tree directory))
within_layer tree (Remove directory name) = within_removing tree (link_to directory name) (fin.get tree.links (link_to directory name))
within_layer tree (Rename old_directory old_name new_directory new_name) = within_renaming tree (link_to old_directory old_name) (link_to new_directory new_name) (fin.get tree.links (link_to old_directory old_name))
within_layer tree (Write number offset bytes) = within_writing tree number offset bytes (fin.get tree.nodes number)
within_layer tree (SetSize number size) = within_cut tree number size (fin.get tree.nodes number)
within_layer tree (SetAttributes number o) = within_changing no_changes 0 0 0 tree number (with_ownership o) within_none

some_more : (n n' : ℕ) → n ≤ n' → cond (eqb n 0) 0 2 ≤ cond (eqb n' 0) 0 2
some_more n n' h = grind (arith, nat_tests)

-- fewer of each need no more
needs_less : (l n m n' m' : ℕ) → n ≤ n' → m ≤ m' → (3 + l) * n + l * m + cond (eqb n 0) 0 2 ≤ (3 + l) * n' + l * m' + cond (eqb n' 0) 0 2
needs_less l n m n' m' h k = omega (arith, mul-le (3 + l) n (3 + l) n' (omega arith) h, mul-le l m l m' (omega arith) k, some_more n n' h)

pub changes_need : (limits : Limits) (tree : Tree) (change : Change) → need limits (layer_of_change tree change) ≤ need_of limits (counts_for change)
changes_need limits tree change =
    let layer = layer_of_change tree change in
    let h = within_layer tree change in
    needs_less (levels limits) (fin.len layer.nodes) (fin.len layer.names + fin.len layer.blocks) (counts_for change).nodes ((counts_for change).names + (counts_for change).blocks) h.nodes (omega (arith, h.names, h.blocks))
