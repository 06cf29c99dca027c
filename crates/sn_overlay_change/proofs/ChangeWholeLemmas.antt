-- The layer of each change is whole, and fits the tree that it changes.
use Rattle.std.proofs.Common.{◌≡◌, ℕ, zero, suc, ◌+◌, ◌*◌, ◌/◌, ◌%◌, ◌<◌, Bool, true, false, cond, not, eqb, ltb, List, length, Option, Some, None, is_some, refl, sym, ap, subst, inl, inr, arith}
use Rattle.std.specs.Prelude.{IsSomeAnd}
use Rattle.std.specs.FinMap as map
use Rattle.std.proofs.lemmas.Bool.{and_parts, true≢false}
use Rattle.std.proofs.lemmas.Nat.{mod_below}
use Rattle.sn_limits.specs.declared.kind.Kind.{Kind}
use Rattle.sn_limits.specs.declared.kind.Kind.TheVariants.{Directory}
use Rattle.sn_limits.specs.declared.limits.Limits.{Limits}
use Rattle.sn_model.specs.declared.change.Change.{Change}
use Rattle.sn_model.specs.declared.change.Change.TheVariants.{Make, AddLink, Remove, Rename, Write, SetSize, SetAttributes}
use Rattle.sn_model.specs.declared.change.Ownership.{Ownership}
use Rattle.sn_model.specs.declared.link.Link.{Link}
use Rattle.sn_model.specs.Tree.{Node, Tree, link_cmp, link_to}
use Rattle.sn_model.specs.Changes.{made, linked, removed, renamed, written, cut, overwritten, resized, apply}
use Rattle.sn_model.specs.NameTree.{IsHierarchy}
use Rattle.sn_model.proofs.PartLemmas.{made_is, linked_is, removed_is, renamed_is, written_is, cut_is, file_is, directory_is, HasRoomFor, Renamed, IsRenamed}
use Rattle.sn_model.proofs.LinkLemmas.{exact_links, links_total}
use Rattle.sn_overlay.specs.declared.node.NodeChange.TheVariants.{Changed}
use Rattle.sn_overlay.specs.Pieces.{piece}
use Rattle.sn_overlay_change.specs.Blocks.{zeroed}
use Rattle.sn_overlay.specs.Keys.{file_block_at}
use Rattle.sn_overlay.specs.Layers.{Layer, IsLayer, Fits}
use Rattle.sn_overlay.specs.Overlays.{no_changes, with_node}
use Rattle.sn_overlay_change.specs.ChangeLayers.{state_of, new_state, changing, touching, one_name_more, without_name, removing, with_ownership, make_layer, link_layer, remove_layer, ownership_layer, size_layer, cut_layer, size_state, cuts_block, with_tail, replacing, exchange_layer, renaming, rename_layer, writing, written_state, write_layer, layer_of_change}
use Rattle.sn_model.specs.FileCalls.{blocks_spanned}
use Rattle.sn_overlay.proofs.OverlaidLemmas.{exact_file_blocks, file_blocks_total}
use Rattle.sn_overlay.proofs.PieceLemmas.{length-piece}
use Rattle.sn_overlay_change.proofs.ByteLemmas.{length-resized, length-zeroed}
use Rattle.sn_overlay_change.proofs.SizeLemmas.{cut_block}
use Rattle.sn_overlay_change.proofs.WriteLemmas.{nodes-with_blocks, names-with_blocks, written_block, length-new, writes_some}
use Rattle.sn_overlay_change.proofs.WholeLemmas.{every_none, every_with, IsBlockOf, no_blocks, Has, has_with, has_changing, has_changed, has_without, AreIn, IsWhole, IsSoundLayer, sound_none, sound_with, sound_new, sound_changing, sound_touching, sound_without, KeepsBytes, whole_names, whole_file, blocks_written}

some_there : (o : Option Node) (node : Node) → o ≡ Some node → is_some o ≡ true
some_there o node e = ap is_some e

-- a directory that has a name
parent_there : (limits : Limits) (tree : Tree) (link : Link) (number : ℕ) → HasRoomFor limits tree link number → is_some (map.get tree.nodes link.directory) ≡ true
parent_there limits tree link number p = some_there (map.get tree.nodes link.directory) p.directory (directory_is tree link.directory p.directory p.parent).0

held_there : (tree : Tree) (link : Link) (number : ℕ) → IsHierarchy tree → map.get tree.links link ≡ Some number → is_some (map.get tree.nodes link.directory) ≡ true
held_there tree link number h e = told (map.get tree.nodes link.directory) (h.held link number e)
  where
    told : (found : Option Node) → IsSomeAnd found (λ node. node.kind ≡ Directory) → is_some found ≡ true
    told None k = absurd k
    told (Some node) k = refl

-- one name, and one more
one_in : (layer : Layer) (link : Link) (value : Option ℕ) → Has layer link.directory → AreIn layer (map.insert map.empty link value)
one_in layer link value h = every_with links_total exact_links map.empty (λ l v. Has layer l.directory) link value (every_none link_cmp (λ l v. Has layer l.directory)) h

two_in : (layer : Layer) (old new : Link) (first second : Option ℕ) → Has layer old.directory → Has layer new.directory → AreIn layer (map.insert (map.insert map.empty old first) new second)
two_in layer old new first second h k = every_with links_total exact_links (map.insert map.empty old first) (λ l v. Has layer l.directory) new second (one_in layer old first h) k

-- nodes with one name
named : (layer : Layer) (tree : Tree) (link : Link) (value : Option ℕ) → IsSoundLayer layer tree → Has layer link.directory → IsWhole (record layer { names = map.insert layer.names link value }) tree
named layer tree link value h has = subst (λ m. IsWhole (record layer { names = map.insert m link value }) tree) (sym h.names) (whole_names layer tree (map.insert map.empty link value) h (one_in layer link value has))

unnamed : (layer : Layer) (tree : Tree) → IsSoundLayer layer tree → IsWhole layer tree
unnamed layer tree h = subst (λ m. IsWhole (record layer { names = m }) tree) (sym h.names) (whole_names layer tree map.empty h (every_none link_cmp (λ l v. Has layer l.directory)))

twice_named : (layer : Layer) (tree : Tree) (old new : Link) (first second : Option ℕ) → IsSoundLayer layer tree → Has layer old.directory → Has layer new.directory → IsWhole (record layer { names = map.insert (map.insert layer.names old first) new second }) tree
twice_named layer tree old new first second h has had = subst (λ m. IsWhole (record layer { names = map.insert (map.insert m old first) new second }) tree) (sym h.names)
    (whole_names layer tree (map.insert (map.insert map.empty old first) new second) h (two_in layer old new first second has had))

make_whole : (limits : Limits) (tree after : Tree) (link : Link) (number : ℕ) (kind : Kind) (o : Ownership) → made limits tree link number kind o ≡ Some after → IsWhole (make_layer tree link number kind o) tree
make_whole limits tree after link number kind o e =
    let p = made_is limits tree link number kind o after e in
    let parent = touching tree link.directory no_changes in
    named (with_node parent number (Changed (new_state kind o))) tree link (Some number)
    (sound_with parent tree number (Changed (new_state kind o)) (sound_touching no_changes tree link.directory (sound_none tree)) (sound_new tree number kind o))
    (has_with parent number (Changed (new_state kind o)) link.directory (has_changed no_changes tree link.directory (λ state. state) (parent_there limits tree link number p.room)))

keeps_more : KeepsBytes one_name_more
keeps_more = record { size = λ s. refl; cut = λ s. refl; kind = λ s. refl; owned = λ s e. refl }

link_whole : (limits : Limits) (tree after : Tree) (link : Link) (number : ℕ) → linked limits tree link number ≡ Some after → IsWhole (link_layer tree link number) tree
link_whole limits tree after link number e =
    let p = linked_is limits tree link number after e in
    let parent = touching tree link.directory no_changes in
    named (changing tree number one_name_more parent) tree link (Some number)
    (sound_changing parent tree number one_name_more keeps_more (sound_touching no_changes tree link.directory (sound_none tree)))
    (has_changing parent tree number one_name_more link.directory (has_changed no_changes tree link.directory (λ state. state) (parent_there limits tree link number p.room)))

remove_whole : (tree after : Tree) (link : Link) → IsHierarchy tree → removed tree link ≡ Some after → IsWhole (remove_layer tree link) tree
remove_whole tree after link h e =
    let p = removed_is tree link after e in
    let parent = touching tree link.directory no_changes in
    subst (λ found. IsWhole (removing tree link found) tree) (sym p.named)
    (named (without_name tree p.number parent (map.get tree.nodes p.number)) tree link None
    (sound_without parent tree p.number (map.get tree.nodes p.number) refl (sound_touching no_changes tree link.directory (sound_none tree)))
    (has_without parent tree p.number (map.get tree.nodes p.number) link.directory (has_changed no_changes tree link.directory (λ state. state) (held_there tree link p.number h p.named))))

keeps_owned : (o : Ownership) → KeepsBytes (with_ownership o)
keeps_owned o = record { size = λ s. refl; cut = λ s. refl; kind = λ s. refl; owned = λ s e. absurd (true≢false e) }

ownership_whole : (tree : Tree) (number : ℕ) (o : Ownership) → IsWhole (ownership_layer tree number o) tree
ownership_whole tree number o = unnamed (ownership_layer tree number o) tree (sound_changing no_changes tree number (with_ownership o) (keeps_owned o) (sound_none tree))

-- a rename
module _ (tree : Tree) (old new : Link) where
  abbrev parents : Layer
  parents = touching tree new.directory (touching tree old.directory no_changes)

  sound_parents : IsSoundLayer parents tree
  sound_parents = sound_touching (touching tree old.directory no_changes) tree new.directory (sound_touching no_changes tree old.directory (sound_none tree))

  sound_replacing : (found : Option ℕ) → IsSoundLayer (replacing tree parents found) tree
  sound_replacing None = sound_parents
  sound_replacing (Some number) = sound_without parents tree number (map.get tree.nodes number) refl sound_parents

  has_replacing : (found : Option ℕ) (q : ℕ) → Has parents q → Has (replacing tree parents found) q
  has_replacing None q h = h
  has_replacing (Some number) q h = has_without parents tree number (map.get tree.nodes number) q h

  exchange_whole : (number : ℕ) → is_some (map.get tree.nodes old.directory) ≡ true → is_some (map.get tree.nodes new.directory) ≡ true → IsWhole (exchange_layer tree old new number) tree
  exchange_whole number h k = twice_named (replacing tree parents (map.get tree.links new)) tree old new None (Some number) (sound_replacing (map.get tree.links new))
      (has_replacing (map.get tree.links new) old.directory (has_changing (touching tree old.directory no_changes) tree new.directory (λ state. state) old.directory (has_changed no_changes tree old.directory (λ state. state) h)))
      (has_replacing (map.get tree.links new) new.directory (has_changed (touching tree old.directory no_changes) tree new.directory (λ state. state) k))

rename_whole : (limits : Limits) (tree after : Tree) (old new : Link) → IsHierarchy tree → renamed limits tree old new ≡ Some after → IsWhole (rename_layer tree old new) tree
rename_whole limits tree after old new h e = subst (λ found. IsWhole (renaming tree old new found) tree) (sym p.named) (told p.done)
  where
    p : Renamed limits tree old new after
    p = renamed_is limits tree old new after e

    told : IsRenamed limits tree old new p.number p.node after → IsWhole (renaming tree old new (Some p.number)) tree
    told (inl q) = subst (λ b. IsWhole (cond b no_changes (exchange_layer tree old new p.number)) tree) (sym q.0) (unnamed no_changes tree (sound_none tree))
    told (inr q) = subst (λ b. IsWhole (cond b no_changes (exchange_layer tree old new p.number)) tree) (sym q.0)
        (exchange_whole tree old new p.number (held_there tree old p.number h p.named) (some_there (map.get tree.nodes new.directory) (q.1).directory (directory_is tree new.directory (q.1).directory (q.1).parent).0))

-- each block that bytes are written to begins before their end
span_begins : (offset count index : ℕ) → 0 < count → index < offset / 4096 + blocks_spanned offset count → index * 4096 < offset + count
span_begins offset count index some h = omega (arith, some, h)

-- and the block in which a file is cut off before its end
tail_begins : (bytes : List ℕ) (size : ℕ) → cuts_block bytes size ≡ true → size / 4096 * 4096 < size
tail_begins bytes size h = inside (size % 4096) refl (and_parts (ltb size (length bytes)) (not (eqb (size % 4096) 0)) h).1
  where
    inside : (rest : ℕ) → size % 4096 ≡ rest → not (eqb rest 0) ≡ true → size / 4096 * 4096 < size
    inside zero e k = absurd (true≢false (sym k))
    inside (suc rest) e k = omega (arith, e)

write_whole : (limits : Limits) (tree after : Tree) (number offset : ℕ) (bytes : List ℕ) → written limits tree number offset bytes ≡ Some after → IsWhole (write_layer tree number offset bytes) tree
write_whole limits tree after number offset bytes e =
    let p = written_is limits tree number offset bytes after e in
    let there = (file_is tree number p.node p.file).0 in
    subst (λ found. IsWhole (writing tree number offset bytes found) tree) (sym there)
    (of_node p.node there (writes_some limits tree after number offset bytes p))
  where
    of_node : (node : Node) → map.get tree.nodes number ≡ Some node → 0 < length bytes → IsWhole (writing tree number offset bytes (Some node)) tree
    of_node node there some =
        let s = written_state (offset + length bytes) (state_of tree number node) in
        let bare = with_node no_changes number (Changed s) in
        let new = overwritten node.bytes offset bytes in
        whole_file (writing tree number offset bytes (Some node)) tree number s node new
        (nodes-with_blocks bare number (piece 4096 new) (offset / 4096) (blocks_spanned offset (length bytes)))
        (names-with_blocks bare number (piece 4096 new) (offset / 4096) (blocks_spanned offset (length bytes)))
        (blocks_written bare number s.size (piece 4096 new) (offset / 4096) (blocks_spanned offset (length bytes)) (no_blocks number s.size) (length-piece 4096 new) (λ index k. omega (arith, span_begins offset (length bytes) index some k)))
        there refl refl (omega arith) (length-new tree number offset bytes node some) (written_block tree number offset bytes node some)

cut_whole : (limits : Limits) (tree after : Tree) (number size : ℕ) → cut limits tree number size ≡ Some after → IsWhole (size_layer tree number size) tree
cut_whole limits tree after number size e =
    let p = cut_is limits tree number size after e in
    let there = (file_is tree number p.node p.file).0 in
    subst (λ found. IsWhole (cut_layer tree number size found) tree) (sym there)
    (of_node p.node there (cuts_block p.node.bytes size) refl)
  where
    of_node : (node : Node) → map.get tree.nodes number ≡ Some node → (b : Bool) → cuts_block node.bytes size ≡ b → IsWhole (with_tail b (with_node no_changes number (Changed (size_state size (state_of tree number node)))) number size node.bytes) tree
    of_node node there false f =
        whole_file _ tree number (size_state size (state_of tree number node)) node (resized node.bytes size) refl refl (no_blocks number size)
        there refl refl (omega arith) (length-resized node.bytes size) (cut_block tree number size node false f)
    of_node node there true f =
        whole_file _ tree number (size_state size (state_of tree number node)) node (resized node.bytes size) refl refl
        (every_with file_blocks_total exact_file_blocks map.empty (IsBlockOf number size) (file_block_at number (size / 4096)) (zeroed (size % 4096) (piece 4096 node.bytes (size / 4096)))
        (no_blocks number size) (record {
          file = refl;
          long = length-zeroed (size % 4096) (piece 4096 node.bytes (size / 4096)) (length-piece 4096 node.bytes (size / 4096)) (omega (arith, mod_below size 4096 (omega arith)));
          begins = tail_begins node.bytes size f;
        }))
        there refl refl (omega arith) (length-resized node.bytes size) (cut_block tree number size node true f)

pub changes_are_whole : (limits : Limits) (change : Change) (tree after : Tree) → IsHierarchy tree → apply limits change tree ≡ Some after → IsLayer (layer_of_change tree change) × Fits (layer_of_change tree change) tree
changes_are_whole limits (Make directory name number kind o) tree after h e = make_whole limits tree after (link_to directory name) number kind o e
changes_are_whole limits (AddLink directory name number) tree after h e = link_whole limits tree after (link_to directory name) number e
changes_are_whole limits (Remove directory name) tree after h e = remove_whole tree after (link_to directory name) h e
changes_are_whole limits (Rename old_directory old_name new_directory new_name) tree after h e = rename_whole limits tree after (link_to old_directory old_name) (link_to new_directory new_name) h e
changes_are_whole limits (Write number offset bytes) tree after h e = write_whole limits tree after number offset bytes e
changes_are_whole limits (SetSize number size) tree after h e = cut_whole limits tree after number size e
changes_are_whole limits (SetAttributes number o) tree after h e = ownership_whole tree number o
