-- Each change keeps the tree of directories.
use Rattle.std.proofs.Common.{◌≡◌, ◌≢◌, ℕ, Bool, true, false, not, cond, ◌&&◌, ◌||◌, ◌==◌, nat_lt, nat_le, [], Option, Some, None, is_some, is_none, refl, sym, ap, subst, ◌∙◌, inl, inr, eqb-true, eq-eqb}
use Rattle.std.specs.FinMap as map
use Rattle.std.specs.Ordering.{nat_cmp, eq_by_cmp}
use Rattle.std.specs.Cmp.{nat_cmp_total}
use Rattle.std.proofs.lemmas.Bool.{true≢false}
use Rattle.std.proofs.lemmas.Map.Lookups.{exact_unsigned}
use Rattle.sn_limits.specs.declared.kind.Kind.{Kind}
use Rattle.sn_limits.specs.declared.kind.Kind.TheVariants.{File, Directory}
use Rattle.sn_limits.specs.Names.{is_name}
use Rattle.sn_walk.specs.Views.{is_directory, is_hidden_name}
use Rattle.sn_limits.specs.declared.limits.Limits.{Limits}
use Rattle.sn_model.specs.declared.change.Change.{Change}
use Rattle.sn_model.specs.declared.change.Change.TheVariants.{Make, AddLink, Remove, Rename, Write, SetSize, SetAttributes}
use Rattle.sn_model.specs.declared.link.Link.{Link}
use Rattle.sn_model.specs.Chains.{◌>>=◌, only_if}
use Rattle.sn_model.specs.Tree.{Node, Tree, link_to, names_in, names_for}
use Rattle.sn_model.specs.Changes.{is_file, directory_at, is_vacant, is_free_number, node_with, take_link, take_node, replaced, is_at_or_below, is_new_name, same_number, resized, overwritten, apply}
use Rattle.sn_model.specs.Covers.{IsUnnamed}
use Rattle.sn_model.specs.NameTree.{HasKind, IsHierarchy}
use Rattle.sn_model.specs.ChangeLaws.{IsBelow, here, under}
use Rattle.sn_model.proofs.LinkLemmas.{exact_links, links_total}
use Rattle.sn_model.proofs.MapLemmas.{get_removed, get_left, get_was}
use Rattle.sn_model.proofs.ChainLemmas.{and_left, and_right, not_true, some_same}
use Rattle.sn_model.proofs.NameLemmas.{is_unnamed}
use Rattle.sn_model.proofs.PartLemmas.{file_is, directory_is, HasRoomFor, made_is, linked_is, Unlinked, unlinked_is, removed_is, replaced_is, Renamed, IsRenamed, renamed_is, written_is, cut_is, owned_is}
use Rattle.sn_model.proofs.HierarchyLemmas.{hierarchy_made}
use Rattle.sn_model.proofs.ClimbLemmas.{below_found}
use Rattle.sn_model.proofs.MoveLemmas.{kind_at, some_node, is_kind, not_directory, hierarchy_put, hierarchy_gone, hierarchy_more, hierarchy_fewer, hierarchy_rest, hierarchy_moved}

pub file_kind : (k : Kind) → is_file k ≡ true → k ≡ File
file_kind File e = refl
file_kind Directory e = cc

pub directory_kind : (k : Kind) → is_directory k ≡ true → k ≡ Directory
directory_kind File e = cc
directory_kind Directory e = refl

pub other_kind : (k : Kind) → is_directory k ≡ false → k ≡ File
other_kind File e = refl
other_kind Directory e = cc

pub none_is : {A : Type 0} (o : Option A) → is_none o ≡ true → o ≡ None
none_is None e = refl
none_is (Some x) e = cc

parent_is : (tree : Tree) (d : ℕ) (x : Node) → directory_at tree d ≡ Some x → HasKind tree d Directory
parent_is tree d x e = let p = directory_is tree d x e in is_kind tree d x Directory p.0 (directory_kind x.kind p.1)

room_in : (limits : Limits) (tree : Tree) (link : Link) (number : ℕ) → HasRoomFor limits tree link number → HasKind tree link.directory Directory
room_in limits tree link number p = parent_is tree link.directory p.directory p.parent

pub vacant_name : (tree : Tree) (link : Link) → is_vacant tree link ≡ true → is_name link.name ≡ true
vacant_name tree link e = and_left _ (not (is_hidden_name link.directory link.name)) (and_left _ (is_none (map.get tree.links link)) e)

pub vacant_seen : (tree : Tree) (link : Link) → is_vacant tree link ≡ true → is_hidden_name link.directory link.name ≡ false
vacant_seen tree link e = not_true _ (and_right (is_name link.name) _ (and_left _ (is_none (map.get tree.links link)) e))

pub vacant_absent : (tree : Tree) (link : Link) → is_vacant tree link ≡ true → map.get tree.links link ≡ None
vacant_absent tree link e = none_is _ (and_right (is_name link.name && not (is_hidden_name link.directory link.name)) _ e)

-- a free number is no directory's, and in no link
free_is : (limits : Limits) (tree : Tree) (number : ℕ) → IsHierarchy tree → is_free_number limits tree number ≡ true → (HasKind tree number Directory → ⊥) × IsUnnamed tree number
free_is limits tree number h e = told (map.get tree.nodes number) refl (and_right (nat_lt 2 number && nat_le number limits.largest_number) _ e)
  where
    told : (o : Option Node) → map.get tree.nodes number ≡ o
        → (is_none (map.get tree.nodes number) || (is_some (map.get tree.nodes number >>= (λ node. only_if (is_file node.kind) >>= (λ _. Some node))) && names_for tree number == 0)) ≡ true
        → (HasKind tree number Directory → ⊥) × IsUnnamed tree number
    told None f g = (
      (λ k. kind_at None (map.get tree.nodes number) Directory (sym f) k),
      λ link e. true≢false (sym (h.leads link number e) ∙ ap is_some f),
    )
    told (Some x) f g =
        let both : (is_some (only_if (is_file x.kind) >>= (λ _. Some x)) && names_for tree number == 0) ≡ true = ap (λ o. is_none o || (is_some (o >>= (λ node. only_if (is_file node.kind) >>= (λ _. Some node))) && names_for tree number == 0)) (sym f) ∙ g in (
          not_directory tree number x f (by_kind x.kind (and_left _ (names_for tree number == 0) both)),
          is_unnamed tree number (eqb-true (names_for tree number) 0 (and_right (is_some (only_if (is_file x.kind) >>= (λ _. Some x))) _ both)),
        )
      where
        by_kind : (k : Kind) → is_some (only_if (is_file k) >>= (λ _. Some x)) ≡ true → k ≡ File
        by_kind File e = refl
        by_kind Directory e = cc

over : (m : map.FinMap nat_cmp Node) (k : ℕ) (v : Node) → map.insert (map.remove m k) k v ≡ map.insert m k v
over m k v = map.same_map nat_cmp_total exact_unsigned _ _ (λ q. map.get-insert nat_cmp_total (map.remove m k) k v q ∙ ap (cond (eq_by_cmp nat_cmp q k) (Some v)) (map.get-remove nat_cmp_total m k q) ∙ twice (eq_by_cmp nat_cmp q k) (map.get m q) ∙ sym (map.get-insert nat_cmp_total m k v q))
  where
    twice : (b : Bool) (o : Option Node) → cond b (Some v) (cond b None o) ≡ cond b (Some v) o
    twice true o = refl
    twice false o = refl

-- what is left where a name goes
pub record IsCleared (tree after : Tree) (link : Link) : Type 0 where
  pub was : (l : Link) (m : ℕ) → map.get after.links l ≡ Some m → map.get tree.links l ≡ Some m
  pub stays : (l : Link) → l ≢ link → map.get after.links l ≡ map.get tree.links l
  pub absent : map.get after.links link ≡ None

cleared_by : (tree after : Tree) (link : Link) → after.links ≡ map.remove tree.links link → IsCleared tree after link
cleared_by tree after link e = record {
  was = λ l m g. (get_was links_total exact_links tree.links link l m (ap (λ links. map.get links l) (sym e) ∙ g)).1;
  stays = λ l q. ap (λ links. map.get links l) e ∙ get_left links_total exact_links tree.links link l q;
  absent = ap (λ links. map.get links link) e ∙ get_removed links_total tree.links link;
}

pub unlinked_clears : (tree : Tree) (link : Link) (number : ℕ) (node : Node) (after : Tree) → Unlinked tree link number node after → IsCleared tree after link
unlinked_clears tree link number node after (inl p) = cleared_by tree after link (ap (λ (t : Tree). t.links) (sym p.gives))
unlinked_clears tree link number node after (inr p) = cleared_by tree after link (ap (λ (t : Tree). t.links) (sym p.gives))

pub replaced_clears : (tree : Tree) (new : Link) (moved : Node) (o : Option ℕ) (after : Tree) → map.get tree.links new ≡ o → replaced tree new moved o ≡ Some after → IsCleared tree after new
replaced_clears tree new moved None after named e = subst (λ (t : Tree). IsCleared tree t new) (some_same _ _ e) (record {
  was = λ l m g. g;
  stays = λ l q. refl;
  absent = named;
})
replaced_clears tree new moved (Some number) after named e =
    let p = replaced_is tree new moved number after e in
    unlinked_clears tree new number p.node after (unlinked_is tree new number p.node after p.gone)

unlinked_hierarchy : (tree : Tree) (link : Link) (number : ℕ) (node : Node) (after : Tree) → IsHierarchy tree → map.get tree.links link ≡ Some number → map.get tree.nodes number ≡ Some node → Unlinked tree link number node after → IsHierarchy after
unlinked_hierarchy tree link number node after h named there (inl p) =
    subst IsHierarchy p.gives (hierarchy_rest tree link number h named (is_kind tree number node Directory there (directory_kind node.kind p.kind)) (eqb-true (names_in tree number) 0 p.empty))
unlinked_hierarchy tree link number node after h named there (inr p) =
    subst IsHierarchy p.gives (hierarchy_fewer tree link number node h named there (other_kind node.kind p.kind))

replaced_hierarchy : (tree : Tree) (new : Link) (moved : Node) (o : Option ℕ) (after : Tree) → IsHierarchy tree → map.get tree.links new ≡ o → replaced tree new moved o ≡ Some after → IsHierarchy after
replaced_hierarchy tree new moved None after h named e = subst IsHierarchy (some_same _ _ e) h
replaced_hierarchy tree new moved (Some number) after h named e =
    let p = replaced_is tree new moved number after e in
    unlinked_hierarchy tree new number p.node after h named p.there (unlinked_is tree new number p.node after p.gone)

below_was : (a b : Tree) → ((l : Link) (m : ℕ) → map.get b.links l ≡ Some m → map.get a.links l ≡ Some m) → (top d : ℕ) → IsBelow b top d → IsBelow a top d
below_was a b was top d here = here
below_was a b was top d (under link n x e) = under link _ (below_was a b was top link.directory x) (was link d e)

module _ (tree : Tree) (h : IsHierarchy tree) where
  below_kind : (top d : ℕ) → IsBelow tree top d → HasKind tree d Directory → HasKind tree top Directory
  below_kind top d here k = k
  below_kind top d (under link n b e) k = below_kind top link.directory b (h.held link n e)

  -- a directory isn't moved to where it lies itself
  not_below : (new : Link) (number : ℕ) (node : Node) → map.get tree.nodes number ≡ Some node → HasKind tree new.directory Directory → is_new_name tree new number node ≡ true → IsBelow tree number new.directory → ⊥
  not_below new number node there parent name b =
      let s = some_node _ Directory (below_kind number new.directory b parent) in
      let both : Some s.0 ≡ Some node = sym s.1 ∙ there in
      let kind : node.kind ≡ Directory = ap (λ (x : Node). x.kind) (sym (some_same _ _ both)) ∙ s.2 in
      let is : (is_directory node.kind && is_at_or_below tree number new.directory) ≡ true = ap (λ k. is_directory k && is_at_or_below tree number new.directory) kind ∙ below_found tree h number new.directory parent b in
      true≢false (sym is ∙ not_true _ (and_right (is_name new.name && not (is_hidden_name new.directory new.name)) _ name))

  renamed_hierarchy : (limits : Limits) (old new : Link) (after : Tree) (p : Renamed limits tree old new after) → IsRenamed limits tree old new p.number p.node after → IsHierarchy after
  renamed_hierarchy limits old new after p (inl q) = subst IsHierarchy q.1 h
  renamed_hierarchy limits old new after p (inr q) =
      let m = q.1 in
      let clear = replaced_clears tree new p.node (map.get tree.links new) m.cleared refl m.cleared_is in
      let apart : old ≢ new = (λ same. true≢false (sym (ap (same_number p.number) (ap (map.get tree.links) (sym same) ∙ p.named) ∙ eq-eqb p.number p.number refl) ∙ q.0)) in
      subst IsHierarchy m.gives (hierarchy_moved m.cleared old new p.number (replaced_hierarchy tree new p.node (map.get tree.links new) m.cleared h refl m.cleared_is) (clear.stays old apart ∙ p.named) clear.absent (room_in limits (take_link m.cleared old) new p.number m.room)
      (λ b. not_below new p.number p.node p.there (parent_is tree new.directory m.directory m.parent) m.name (below_was tree m.cleared clear.was p.number new.directory b)))

pub change_keeps : (limits : Limits) (change : Change) (tree after : Tree) → IsHierarchy tree → apply limits change tree ≡ Some after → IsHierarchy after
change_keeps limits (Make directory name number kind o) tree after h e =
    let link = link_to directory name in
    let p = made_is limits tree link number kind o after e in
    let free = free_is limits tree number h p.free in
    let parent = room_in limits tree link number p.room in
    let there : HasKind (take_node tree number) directory Directory = kind_at _ _ Directory (get_left nat_cmp_total exact_unsigned tree.nodes number directory (λ q. free.0 (subst (λ (j : ℕ). HasKind tree j Directory) q parent))) parent in
    let whole = hierarchy_made (take_node tree number) number link (node_with kind o []) (hierarchy_gone tree number h free.0 free.1) (get_removed nat_cmp_total tree.nodes number) (vacant_absent tree link p.vacant) there in
    subst IsHierarchy (ap (λ nodes. record { nodes = nodes; links = map.insert tree.links link number }) (over tree.nodes number (node_with kind o [])) ∙ p.gives) whole
change_keeps limits (AddLink directory name number) tree after h e =
    let link = link_to directory name in
    let p = linked_is limits tree link number after e in
    let f = file_is tree number p.node p.file in
    subst IsHierarchy p.gives (hierarchy_more tree link number p.node h (vacant_absent tree link p.vacant) (room_in limits tree link number p.room) f.0 (file_kind p.node.kind f.1))
change_keeps limits (Remove directory name) tree after h e =
    let link = link_to directory name in
    let p = removed_is tree link after e in
    unlinked_hierarchy tree link p.number p.node after h p.named p.there (unlinked_is tree link p.number p.node after p.gone)
change_keeps limits (Rename old_directory old_name new_directory new_name) tree after h e =
    let p = renamed_is limits tree (link_to old_directory old_name) (link_to new_directory new_name) after e in
    renamed_hierarchy tree h limits (link_to old_directory old_name) (link_to new_directory new_name) after p p.done
change_keeps limits (Write number offset bytes) tree after h e =
    let p = written_is limits tree number offset bytes after e in
    subst IsHierarchy p.gives (hierarchy_put tree number p.node (record p.node { bytes = overwritten p.node.bytes offset bytes }) h (file_is tree number p.node p.file).0 refl)
change_keeps limits (SetSize number size) tree after h e =
    let p = cut_is limits tree number size after e in
    subst IsHierarchy p.gives (hierarchy_put tree number p.node (record p.node { bytes = resized p.node.bytes size }) h (file_is tree number p.node p.file).0 refl)
change_keeps limits (SetAttributes number o) tree after h e =
    let p = owned_is tree number o after e in
    subst IsHierarchy p.gives (hierarchy_put tree number p.node (node_with p.node.kind o p.node.bytes) h p.there refl)
