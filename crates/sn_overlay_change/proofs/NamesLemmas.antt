-- The layer of a change counts names.
use Rattle.std.proofs.Common.{◌≡◌, ◌≢◌, ℕ, ◌+◌, ◌-◌, ◌/◌, Bool, true, false, cond, ◌&&◌, ◌||◌, ◌==◌, nat_lt, nat_le, List, [], length, count_by, Option, Some, None, is_some, is_none, refl, sym, ap, subst, ◌∙◌, inl, inr, arith, eq-eqb, eqb-true}
use Rattle.std.specs.Prelude.{IsSomeAnd}
use Rattle.std.specs.Ordering.{eq_by_cmp}
use Rattle.std.specs.Cmp.{nat_cmp_total}
use Rattle.std.specs.FinMap as map
use Rattle.std.proofs.lemmas.Bool.{true≢false, false_from_ne_true}
use Rattle.std.proofs.lemmas.Map.Lookups.{exact_unsigned}
use Rattle.sn_limits.specs.declared.kind.Kind.{Kind}
use Rattle.sn_limits.specs.declared.kind.Kind.TheVariants.{File, Directory}
use Rattle.sn_walk.specs.Views.{is_directory}
use Rattle.sn_limits.specs.declared.limits.Limits.{Limits}
use Rattle.sn_model.specs.declared.change.Change.{Change}
use Rattle.sn_model.specs.declared.change.Change.TheVariants.{Make, AddLink, Remove, Rename, Write, SetSize, SetAttributes}
use Rattle.sn_model.specs.declared.change.Ownership.{Ownership}
use Rattle.sn_model.specs.declared.link.Link.{Link}
use Rattle.sn_model.specs.Tree.{Node, Tree, link_cmp, link_count, link_to, names_for}
use Rattle.sn_model.specs.Changes.{is_file, is_free_number, file_at, node_with, put_node, put_link, take_link, made, linked, removed, renamed, replaced, same_number, written, cut, owned, apply, overwritten}
use Rattle.sn_model.specs.NameTree.{IsHierarchy}
use Rattle.sn_model.proofs.ChainLemmas.{and_right, some_same}
use Rattle.sn_model.proofs.CountLemmas.{count_inserted, count_removed}
use Rattle.sn_model.proofs.KeepLemmas.{vacant_absent, replaced_clears}
use Rattle.sn_model.proofs.LinkLemmas.{exact_links, links_total}
use Rattle.sn_model.proofs.NameLemmas.{names_for_more, names_for_other, no_names_for}
use Rattle.sn_model.proofs.PartLemmas.{made_is, linked_is, removed_is, renamed_is, replaced_is, unlinked_is, written_is, cut_is, owned_is, file_is, directory_is, HasRoomFor, Unlinked, Renamed, IsRenamed}
use Rattle.sn_overlay.specs.declared.node.NodeChange.{NodeChange}
use Rattle.sn_overlay.specs.declared.node.NodeChange.TheVariants.{Gone, Changed}
use Rattle.sn_overlay.specs.declared.node.NodeState.{NodeState}
use Rattle.sn_overlay.specs.Layers.{Layer}
use Rattle.sn_overlay.specs.Overlays.{no_changes, with_node}
use Rattle.sn_overlay_change.specs.ChangeLayers.{state_of, new_state, with_change, changing, touching, one_name_more, one_name_less, without_name, with_ownership, make_layer, link_layer, remove_layer, removing, replacing, exchange_layer, renaming, rename_layer, layer_of_change, write_layer, writing, written_state, size_layer, cut_layer, size_state, cuts_block, with_tail, ownership_layer}
use Rattle.sn_model.specs.FileCalls.{blocks_spanned}
use Rattle.sn_overlay.specs.Pieces.{piece}
use Rattle.sn_overlay.specs.Seen.{CountsNames}
use Rattle.sn_overlay_change.proofs.WriteLemmas.{nodes-with_blocks}
use Rattle.sn_overlay_change.proofs.WholeLemmas.{Every, every_none, every_with, Has, has_it, has_changed}

-- a node of a layer says how many names it has in a tree
abbrev Counted : Tree → ℕ → NodeChange → Type 0
Counted after number (Gone by_close) = Unit {0}
Counted after number (Changed s) = s.links ≡ link_count s.kind (names_for after number)

counts : (layer : Layer) (tree after : Tree) → Every layer.nodes (Counted after) → ((q : ℕ) → map.get layer.nodes q ≡ None → names_for after q ≡ names_for tree q) → CountsNames layer tree after
counts layer tree after every others = record { changed = λ number state e. every number (Changed state) e; others = others }

one_link : (k : Kind) (a b : ℕ) → is_directory k ≡ true → link_count k a ≡ link_count k b
one_link File a b e = absurd (true≢false (sym e))
one_link Directory a b e = refl

less_link : (k : Kind) (a b : ℕ) → is_directory k ≡ false → b + 1 ≡ a → link_count k a - 1 ≡ link_count k b
less_link File a b e h = omega arith
less_link Directory a b e h = absurd (true≢false e)

first_link : (k : Kind) (n : ℕ) → n ≡ 1 → 1 ≡ link_count k n
first_link File n e = sym e
first_link Directory n e = refl

more_link : (k : Kind) (a b : ℕ) → is_file k ≡ true → b ≡ a + 1 → link_count k a + 1 ≡ link_count k b
more_link File a b e h = sym h
more_link Directory a b e h = absurd (true≢false (sym e))

-- a number that is a directory's, if it is there
abbrev IsDirectory : Tree → ℕ → Type 0
IsDirectory tree number = (node : Node) → map.get tree.nodes number ≡ Some node → is_directory node.kind ≡ true

placed_directory : (limits : Limits) (tree : Tree) (link : Link) (number : ℕ) → HasRoomFor limits tree link number → IsDirectory tree link.directory
placed_directory limits tree link number p node e =
    let is = directory_is tree link.directory p.directory p.parent in
    ap (λ (n : Node). is_directory n.kind) (some_same _ _ (sym e ∙ is.0)) ∙ is.1

held_directory : (tree : Tree) (link : Link) (number : ℕ) → IsHierarchy tree → map.get tree.links link ≡ Some number → IsDirectory tree link.directory
held_directory tree link number h named node e =
    let kind : node.kind ≡ Directory = subst (λ (o : Option Node). IsSomeAnd o (λ x. x.kind ≡ Directory)) e (h.held link number named) in
    ap is_directory kind

every_change : (layer : Layer) (tree : Tree) (number : ℕ) (f : NodeState → NodeState) (found : Option Node) (P : ℕ → NodeChange → Type 0) → map.get tree.nodes number ≡ found → Every layer.nodes P
    → ((node : Node) → map.get tree.nodes number ≡ Some node → P number (Changed (f (state_of tree number node)))) → Every (with_change tree number f layer found).nodes P
every_change layer tree number f None P e h here = h
every_change layer tree number f (Some node) P e h here = every_with nat_cmp_total exact_unsigned layer.nodes P number (Changed (f (state_of tree number node))) h (here node e)

every_touching : (layer : Layer) (tree after : Tree) (number : ℕ) → IsDirectory tree number → Every layer.nodes (Counted after) → Every (touching tree number layer).nodes (Counted after)
every_touching layer tree after number is h = every_change layer tree number (λ state. state) (map.get tree.nodes number) (Counted after) refl h (λ node e. one_link node.kind (names_for tree number) (names_for after number) (is node e))

-- what a layer has isn't absent from it
not_absent : (layer : Layer) (number : ℕ) → Has layer number → map.get layer.nodes number ≡ None → ⊥
not_absent layer number h e = true≢false (sym h ∙ ap is_some e)

apart_from : (layer : Layer) (number q : ℕ) → Has layer number → map.get layer.nodes q ≡ None → number ≡ q → ⊥
apart_from layer number q h e same = not_absent layer q (subst (λ n. Has layer n) same h) e

free_unnamed : (limits : Limits) (tree : Tree) (number : ℕ) → IsHierarchy tree → is_free_number limits tree number ≡ true → names_for tree number ≡ 0
free_unnamed limits tree number h e = told (map.get tree.nodes number) refl (and_right (nat_lt 2 number && nat_le number limits.largest_number) _ e)
  where
    told : (found : Option Node) → map.get tree.nodes number ≡ found → (is_none found || (is_some (file_at tree number) && (names_for tree number == 0))) ≡ true → names_for tree number ≡ 0
    told None f g = no_names_for tree number (λ link k. true≢false (sym (h.leads link number k) ∙ ap is_some f))
    told (Some x) f g = eqb-true (names_for tree number) 0 (and_right (is_some (file_at tree number)) (names_for tree number == 0) g)

make_counts : (limits : Limits) (tree after : Tree) (link : Link) (number : ℕ) (kind : Kind) (o : Ownership) → IsHierarchy tree → made limits tree link number kind o ≡ Some after → CountsNames (make_layer tree link number kind o) tree after
make_counts limits tree after link number kind o h e =
    let p = made_is limits tree link number kind o after e in
    let parent = touching tree link.directory no_changes in
    let change = Changed (new_state kind o) in
    let there = put_node tree number (node_with kind o []) in
    let absent = vacant_absent tree link p.vacant in
    let zero : names_for tree number ≡ 0 = free_unnamed limits tree number h p.free in
    subst (λ (t : Tree). CountsNames (make_layer tree link number kind o) tree t) p.gives
    (counts (make_layer tree link number kind o) tree (put_link there link number)
    (every_with nat_cmp_total exact_unsigned parent.nodes (Counted (put_link there link number)) number change
    (every_touching no_changes tree (put_link there link number) link.directory (placed_directory limits tree link number p.room) (every_none _ (Counted (put_link there link number))))
    (first_link kind (names_for (put_link there link number) number) (names_for_more there link number absent number refl ∙ ap (λ n. n + 1) zero)))
    (λ q none. names_for_other there link number absent q (apart_from (with_node parent number change) number q (has_it parent number change) none)))

link_counts : (limits : Limits) (tree after : Tree) (link : Link) (number : ℕ) → linked limits tree link number ≡ Some after → CountsNames (link_layer tree link number) tree after
link_counts limits tree after link number e =
    let p = linked_is limits tree link number after e in
    let is = file_is tree number p.node p.file in
    let parent = touching tree link.directory no_changes in
    let absent = vacant_absent tree link p.vacant in
    let new = put_link tree link number in
    subst (λ (t : Tree). CountsNames (link_layer tree link number) tree t) p.gives
    (counts (link_layer tree link number) tree new
    (every_change parent tree number one_name_more (map.get tree.nodes number) (Counted new) refl
    (every_touching no_changes tree new link.directory (placed_directory limits tree link number p.room) (every_none _ (Counted new)))
    (λ node f. more_link node.kind (names_for tree number) (names_for new number)
    (ap (λ (n : Node). is_file n.kind) (some_same _ _ (sym f ∙ is.0)) ∙ is.1)
    (names_for_more tree link number absent number refl)))
    (λ q none. names_for_other tree link number absent q (apart_from (changing tree number one_name_more parent) number q (has_changed parent tree number one_name_more (ap is_some is.0)) none)))

-- a name that is removed
fewer : (tree : Tree) (link : Link) (number : ℕ) → map.get tree.links link ≡ Some number → (q : ℕ) → names_for (take_link tree link) q + cond (number == q) 1 0 ≡ names_for tree q
fewer tree link number e q = count_removed links_total exact_links (λ e. e.1 == q) tree.links link number e

fewer_same : (tree : Tree) (link : Link) (number : ℕ) → map.get tree.links link ≡ Some number → names_for (take_link tree link) number + 1 ≡ names_for tree number
fewer_same tree link number e = ap (λ (b : Bool). names_for (take_link tree link) number + cond b 1 0) (sym (eq-eqb number number refl)) ∙ fewer tree link number e number

pub fewer_other : (tree : Tree) (link : Link) (number : ℕ) → map.get tree.links link ≡ Some number → (q : ℕ) → (number ≡ q → ⊥) → names_for (take_link tree link) q ≡ names_for tree q
fewer_other tree link number e q apart = omega (arith, fewer tree link number e q, ap {B = ℕ} (λ (b : Bool). cond b 1 0) (false_from_ne_true (number == q) (λ t. apart (eqb-true number q t))))

-- what loses a name, over directories that are touched
module _ (tree cleared : Tree) (link : Link) (number : ℕ) (node : Node) (there : map.get tree.nodes number ≡ Some node) (named : map.get tree.links link ≡ Some number) (same : (q : ℕ) → names_for cleared q ≡ names_for (take_link tree link) q) (layer : Layer) (every : Every layer.nodes (Counted cleared)) where
  abbrev lost : Bool → NodeChange
  lost b = cond b (Gone false) (Changed (one_name_less (state_of tree number node)))

  loss_counted : (b : Bool) → is_directory node.kind ≡ b → Counted cleared number (lost b)
  loss_counted true e = tt
  loss_counted false e = less_link node.kind (names_for tree number) (names_for cleared number) e (ap (λ n. n + 1) (same number) ∙ fewer_same tree link number named)

  loss_every : Every (without_name tree number layer (map.get tree.nodes number)).nodes (Counted cleared)
  loss_every = subst (λ found. Every (without_name tree number layer found).nodes (Counted cleared)) (sym there)
      (every_with nat_cmp_total exact_unsigned layer.nodes (Counted cleared) number (lost (is_directory node.kind)) every (loss_counted (is_directory node.kind) refl))

  loss_others : (q : ℕ) → map.get (without_name tree number layer (map.get tree.nodes number)).nodes q ≡ None → names_for cleared q ≡ names_for tree q
  loss_others q none = same q ∙ fewer_other tree link number named q (apart_from (without_name tree number layer (map.get tree.nodes number)) number q
      (subst (λ found. Has (without_name tree number layer found) number) (sym there) (has_it layer number (lost (is_directory node.kind)))) none)

pub unlinked_names : (tree : Tree) (link : Link) (number : ℕ) (node : Node) (after : Tree) → Unlinked tree link number node after → (q : ℕ) → names_for after q ≡ names_for (take_link tree link) q
unlinked_names tree link number node after (inl p) q = ap (λ (t : Tree). names_for t q) (sym p.gives)
unlinked_names tree link number node after (inr p) q = ap (λ (t : Tree). names_for t q) (sym p.gives)

remove_counts : (tree after : Tree) (link : Link) → IsHierarchy tree → removed tree link ≡ Some after → CountsNames (remove_layer tree link) tree after
remove_counts tree after link h e =
    let p = removed_is tree link after e in
    let parent = touching tree link.directory no_changes in
    let same = unlinked_names tree link p.number p.node after (unlinked_is tree link p.number p.node after p.gone) in
    let every = every_touching no_changes tree after link.directory (held_directory tree link p.number h p.named) (every_none _ (Counted after)) in
    subst (λ found. CountsNames (removing tree link found) tree after) (sym p.named)
    (counts (removing tree link (Some p.number)) tree after
    (loss_every tree after link p.number p.node p.there p.named same parent every)
    (loss_others tree after link p.number p.node p.there p.named same parent every))

-- a rename: the name that is moved counts as before
pub moved_names : (cleared : Tree) (old new : Link) (number : ℕ) → map.get cleared.links old ≡ Some number → map.get cleared.links new ≡ None → (q : ℕ) → names_for (put_link (take_link cleared old) new number) q ≡ names_for cleared q
moved_names cleared old new number named absent q =
    count_inserted links_total exact_links (λ e. e.1 == q) (map.remove cleared.links old) new number
    (map.get-remove links_total cleared.links old new ∙ told (eq_by_cmp link_cmp new old))
    ∙ count_removed links_total exact_links (λ e. e.1 == q) cleared.links old number named
  where
    told : (b : Bool) → cond b None (map.get cleared.links new) ≡ None
    told true = refl
    told false = absent

module _ (tree : Tree) (old new : Link) (h : IsHierarchy tree) where
  abbrev parents : Layer
  parents = touching tree new.directory (touching tree old.directory no_changes)

  every_parents : (after : Tree) (number : ℕ) → map.get tree.links old ≡ Some number → IsDirectory tree new.directory → Every parents.nodes (Counted after)
  every_parents after number named is = every_touching (touching tree old.directory no_changes) tree after new.directory is
      (every_touching no_changes tree after old.directory (held_directory tree old number h named) (every_none _ (Counted after)))

  cleared_counts : (moved : Node) (cleared : Tree) (found : Option ℕ) → map.get tree.links new ≡ found → replaced tree new moved found ≡ Some cleared → Every parents.nodes (Counted cleared) → CountsNames (replacing tree parents found) tree cleared
  cleared_counts moved cleared None named e every = counts parents tree cleared every (λ q none. ap (λ (t : Tree). names_for t q) (sym (some_same _ _ e)))
  cleared_counts moved cleared (Some n) named e every =
      let p = replaced_is tree new moved n cleared e in
      let same = unlinked_names tree new n p.node cleared (unlinked_is tree new n p.node cleared p.gone) in
      counts (replacing tree parents (Some n)) tree cleared
      (loss_every tree cleared new n p.node p.there named same parents every)
      (loss_others tree cleared new n p.node p.there named same parents every)

-- the same counts
recounted : (layer : Layer) (tree cleared after : Tree) → ((q : ℕ) → names_for after q ≡ names_for cleared q) → CountsNames layer tree cleared → CountsNames layer tree after
recounted layer tree cleared after same h = record {
  changed = λ number state e. h.changed number state e ∙ ap (link_count state.kind) (sym (same number));
  others = λ number e. same number ∙ h.others number e;
}

nothing_counts : (tree : Tree) → CountsNames no_changes tree tree
nothing_counts tree = counts no_changes tree tree (every_none _ (Counted tree)) (λ q none. refl)

rename_counts : (limits : Limits) (tree after : Tree) (old new : Link) → IsHierarchy tree → renamed limits tree old new ≡ Some after → CountsNames (rename_layer tree old new) tree after
rename_counts limits tree after old new h e = subst (λ found. CountsNames (renaming tree old new found) tree after) (sym p.named) (told p.done)
  where
    p : Renamed limits tree old new after
    p = renamed_is limits tree old new after e

    apart : same_number p.number (map.get tree.links new) ≡ false → old ≢ new
    apart f same = true≢false (sym (eq-eqb p.number p.number refl) ∙ ap (same_number p.number) (sym (ap (map.get tree.links) (sym same) ∙ p.named)) ∙ f)

    told : IsRenamed limits tree old new p.number p.node after → CountsNames (renaming tree old new (Some p.number)) tree after
    told (inl q) = subst (λ b. CountsNames (cond b no_changes (exchange_layer tree old new p.number)) tree after) (sym q.0) (subst (λ (t : Tree). CountsNames no_changes tree t) q.1 (nothing_counts tree))
    told (inr q) =
        let m = q.1 in
        let clears = replaced_clears tree new p.node (map.get tree.links new) m.cleared refl m.cleared_is in
        let is = directory_is tree new.directory m.directory m.parent in
        subst (λ b. CountsNames (cond b no_changes (exchange_layer tree old new p.number)) tree after) (sym q.0)
        (subst (λ (t : Tree). CountsNames (exchange_layer tree old new p.number) tree t) m.gives
        (names_too (recounted (replacing tree (touching tree new.directory (touching tree old.directory no_changes)) (map.get tree.links new)) tree m.cleared (put_link (take_link m.cleared old) new p.number)
        (moved_names m.cleared old new p.number (clears.stays old (apart q.0) ∙ p.named) clears.absent)
        (cleared_counts tree old new h p.node m.cleared (map.get tree.links new) refl m.cleared_is
        (every_parents tree old new h m.cleared p.number p.named (λ node f. ap (λ (n : Node). is_directory n.kind) (some_same _ _ (sym f ∙ is.0)) ∙ is.1))))))
      where
        names_too : {after : Tree} → CountsNames (replacing tree (touching tree new.directory (touching tree old.directory no_changes)) (map.get tree.links new)) tree after → CountsNames (exchange_layer tree old new p.number) tree after
        names_too k = record { changed = k.changed; others = k.others }

-- a change of one node, and of no names
one_counts : (layer : Layer) (tree after : Tree) (number : ℕ) (s : NodeState) → layer.nodes ≡ map.insert map.empty number (Changed s) → s.links ≡ link_count s.kind (names_for tree number) → after.links ≡ tree.links → CountsNames layer tree after
one_counts layer tree after number s nodes links kept = counts layer tree after
    (subst (λ m. Every m (Counted after)) (sym nodes) (every_with nat_cmp_total exact_unsigned map.empty (Counted after) number (Changed s) (every_none _ (Counted after)) (links ∙ ap (link_count s.kind) (sym (same number)))))
    (λ q none. same q)
  where
    same : (q : ℕ) → names_for after q ≡ names_for tree q
    same q = ap (λ (m : map.FinMap link_cmp ℕ). count_by (λ e. e.1 == q) (map.entries m)) kept

write_counts : (limits : Limits) (tree after : Tree) (number offset : ℕ) (bytes : List ℕ) → written limits tree number offset bytes ≡ Some after → CountsNames (write_layer tree number offset bytes) tree after
write_counts limits tree after number offset bytes e =
    let p = written_is limits tree number offset bytes after e in
    let s = written_state (offset + length bytes) (state_of tree number p.node) in
    subst (λ found. CountsNames (writing tree number offset bytes found) tree after) (sym (file_is tree number p.node p.file).0)
    (one_counts (writing tree number offset bytes (Some p.node)) tree after number s
    (nodes-with_blocks (with_node no_changes number (Changed s)) number (piece 4096 (overwritten p.node.bytes offset bytes)) (offset / 4096) (blocks_spanned offset (length bytes)))
    refl (ap (λ (t : Tree). t.links) (sym p.gives)))

cut_counts : (limits : Limits) (tree after : Tree) (number size : ℕ) → cut limits tree number size ≡ Some after → CountsNames (size_layer tree number size) tree after
cut_counts limits tree after number size e =
    let p = cut_is limits tree number size after e in
    subst (λ found. CountsNames (cut_layer tree number size found) tree after) (sym (file_is tree number p.node p.file).0)
    (told p.node (cuts_block p.node.bytes size) (ap (λ (t : Tree). t.links) (sym p.gives)))
  where
    told : (node : Node) (b : Bool) → after.links ≡ tree.links → CountsNames (with_tail b (with_node no_changes number (Changed (size_state size (state_of tree number node)))) number size node.bytes) tree after
    told node true kept = one_counts _ tree after number (size_state size (state_of tree number node)) refl refl kept
    told node false kept = one_counts _ tree after number (size_state size (state_of tree number node)) refl refl kept

owned_counts : (tree after : Tree) (number : ℕ) (o : Ownership) → owned tree number o ≡ Some after → CountsNames (ownership_layer tree number o) tree after
owned_counts tree after number o e =
    let p = owned_is tree number o after e in
    subst (λ found. CountsNames (with_change tree number (with_ownership o) no_changes found) tree after) (sym p.there)
    (one_counts (with_node no_changes number (Changed (with_ownership o (state_of tree number p.node)))) tree after number (with_ownership o (state_of tree number p.node)) refl refl (ap (λ (t : Tree). t.links) (sym p.gives)))

pub changes_count : (limits : Limits) (change : Change) (tree after : Tree) → IsHierarchy tree → apply limits change tree ≡ Some after → CountsNames (layer_of_change tree change) tree after
changes_count limits (Make directory name number kind o) tree after h e = make_counts limits tree after (link_to directory name) number kind o h e
changes_count limits (AddLink directory name number) tree after h e = link_counts limits tree after (link_to directory name) number e
changes_count limits (Remove directory name) tree after h e = remove_counts tree after (link_to directory name) h e
changes_count limits (Rename old_directory old_name new_directory new_name) tree after h e = rename_counts limits tree after (link_to old_directory old_name) (link_to new_directory new_name) h e
changes_count limits (Write number offset bytes) tree after h e = write_counts limits tree after number offset bytes e
changes_count limits (SetSize number size) tree after h e = cut_counts limits tree after number size e
changes_count limits (SetAttributes number o) tree after h e = owned_counts tree after number o e
