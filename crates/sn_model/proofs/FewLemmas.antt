-- Each change keeps names few enough.
use Rattle.std.proofs.Common.{◌≡◌, ℕ, ◌≤◌, ◌<◌, [], Option, Some, None, refl, sym, ap, subst, ◌∙◌, ◌⊎◌, inl, inr, arith, ltb-true}
use Rattle.std.specs.FinMap as map
use Rattle.std.specs.Cmp.{nat_cmp_total}
use Rattle.std.proofs.lemmas.Map.Lookups.{exact_unsigned}
use Rattle.sn_limits.specs.declared.kind.Kind.TheVariants.{File}
use Rattle.sn_limits.specs.declared.limits.Limits.{Limits}
use Rattle.sn_model.specs.declared.change.Change.{Change}
use Rattle.sn_model.specs.declared.change.Change.TheVariants.{Make, AddLink, Remove, Rename, Write, SetSize, SetAttributes}
use Rattle.sn_model.specs.declared.link.Link.{Link}
use Rattle.sn_model.specs.Tree.{Node, Tree, link_to, names_in, names_for}
use Rattle.sn_model.specs.Changes.{node_with, put_node, put_link, take_link, replaced, resized, overwritten, apply}
use Rattle.sn_model.specs.NameTree.{HasKind, HasFewNames}
use Rattle.sn_model.proofs.LinkLemmas.{exact_links, links_total}
use Rattle.sn_model.proofs.MapLemmas.{same_or_apart, get_inserted, get_other, get_removed, get_left, get_was}
use Rattle.sn_model.proofs.ChainLemmas.{some_same}
use Rattle.sn_model.proofs.NameLemmas.{names_in_more, names_in_other, names_for_more, names_for_other, names_in_fewer, names_for_fewer}
use Rattle.sn_model.proofs.PartLemmas.{file_is, made_is, linked_is, Unlinked, unlinked_is, removed_is, replaced_is, Renamed, IsRenamed, renamed_is, written_is, cut_is, owned_is}
use Rattle.sn_model.proofs.MoveLemmas.{kind_at, some_node, is_kind}
use Rattle.sn_model.proofs.KeepLemmas.{vacant_absent, replaced_clears}

-- a file of the later tree that is one of the earlier tree, too
abbrev pub Were : Tree → Tree → Type 0
Were tree after = (n : ℕ) → HasKind after n File → HasKind tree n File

-- the same names, and no new files
pub few_same : (limits : Limits) (tree after : Tree) → HasFewNames limits tree → after.links ≡ tree.links → Were tree after → HasFewNames limits after
few_same limits tree after h e was = record {
  names = λ d. subst (λ links. names_in (record { nodes = tree.nodes; links = links }) d ≤ limits.names) (sym e) (h.names d);
  links = λ n k. subst (λ links. names_for (record { nodes = tree.nodes; links = links }) n ≤ limits.links) (sym e) (h.links n (was n k));
}

-- a name less
few_less : (limits : Limits) (tree : Tree) (link : Link) → HasFewNames limits tree → HasFewNames limits (take_link tree link)
few_less limits tree link h = record {
  names = λ d. omega (arith, names_in_fewer tree link d, h.names d);
  links = λ n k. omega (arith, names_for_fewer tree link n, h.links n k);
}

-- a name more, in a directory and for a number that may get one; the number alone may be a new file's
few_more : (limits : Limits) (tree : Tree) (link : Link) (number : ℕ) → map.get tree.links link ≡ None → names_in tree link.directory < limits.names → names_for tree number < limits.links
    → ((d : ℕ) → names_in tree d ≤ limits.names) → ((n : ℕ) → (number ≡ n → ⊥) → HasKind tree n File → names_for tree n ≤ limits.links) → HasFewNames limits (put_link tree link number)
few_more limits tree link number absent room more_links names links = record {
  names = λ d. in_directory d (same_or_apart nat_cmp_total exact_unsigned link.directory d);
  links = λ n k. for_number n k (same_or_apart nat_cmp_total exact_unsigned number n);
}
  where
    in_directory : (d : ℕ) → (link.directory ≡ d) ⊎ (link.directory ≡ d → ⊥) → names_in (put_link tree link number) d ≤ limits.names
    in_directory d (inl q) =
        let more = names_in_more tree link number absent d q in
        omega (arith, more, ap (names_in tree) q, room)
    in_directory d (inr q) = omega (arith, names_in_other tree link number absent d q, names d)

    for_number : (n : ℕ) → HasKind tree n File → (number ≡ n) ⊎ (number ≡ n → ⊥) → names_for (put_link tree link number) n ≤ limits.links
    for_number n k (inl q) =
        let more = names_for_more tree link number absent n q in
        omega (arith, more, ap (names_for tree) q, more_links)
    for_number n k (inr q) = omega (arith, names_for_other tree link number absent n q, links n q k)

-- a node put in place of one of its kind
put_were : (tree : Tree) (n : ℕ) (x y : Node) → map.get tree.nodes n ≡ Some x → y.kind ≡ x.kind → Were tree (put_node tree n y)
put_were tree n x y there same m k = told (same_or_apart nat_cmp_total exact_unsigned m n)
  where
    told : (m ≡ n) ⊎ (m ≡ n → ⊥) → HasKind tree m File
    told (inl q) =
        let s = some_node _ File k in
        let both : Some y ≡ Some s.0 = sym (get_inserted nat_cmp_total tree.nodes n y) ∙ ap (map.get (put_node tree n y).nodes) (sym q) ∙ s.1 in
        is_kind tree m x File (ap (map.get tree.nodes) q ∙ there) (sym same ∙ ap (λ (z : Node). z.kind) (some_same _ _ both) ∙ s.2)
    told (inr q) = kind_at _ _ File (sym (get_other nat_cmp_total exact_unsigned tree.nodes n y m q)) k

few_unlinked : (limits : Limits) (tree : Tree) (link : Link) (number : ℕ) (node : Node) (after : Tree) → HasFewNames limits tree → Unlinked tree link number node after → HasFewNames limits after
few_unlinked limits tree link number node after h (inl p) = subst (HasFewNames limits) p.gives (few_same limits (take_link tree link) _ (few_less limits tree link h) refl
    (λ n k. let s = some_node _ File k in is_kind (take_link tree link) n s.0 File (get_was nat_cmp_total exact_unsigned tree.nodes number n s.0 s.1).1 s.2))
few_unlinked limits tree link number node after h (inr p) = subst (HasFewNames limits) p.gives (few_less limits tree link h)

few_replaced : (limits : Limits) (tree : Tree) (new : Link) (moved : Node) (o : Option ℕ) (after : Tree) → HasFewNames limits tree → replaced tree new moved o ≡ Some after → HasFewNames limits after
few_replaced limits tree new moved None after h e = subst (HasFewNames limits) (some_same _ _ e) h
few_replaced limits tree new moved (Some number) after h e =
    let p = replaced_is tree new moved number after e in
    few_unlinked limits tree new number p.node after h (unlinked_is tree new number p.node after p.gone)

few_renamed : (limits : Limits) (tree : Tree) (old new : Link) (after : Tree) (p : Renamed limits tree old new after) → HasFewNames limits tree → IsRenamed limits tree old new p.number p.node after → HasFewNames limits after
few_renamed limits tree old new after p h (inl q) = subst (HasFewNames limits) q.1 h
few_renamed limits tree old new after p h (inr q) =
    let m = q.1 in
    let clear = replaced_clears tree new p.node (map.get tree.links new) m.cleared refl m.cleared_is in
    let left = few_less limits m.cleared old (few_replaced limits tree new p.node (map.get tree.links new) m.cleared h m.cleared_is) in
    subst (HasFewNames limits) m.gives (few_more limits (take_link m.cleared old) new p.number (gone m.cleared clear.absent) (ltb-true _ _ m.room.names) (ltb-true _ _ m.room.links) left.names (λ n _ k. left.links n k))
  where
    gone : (cleared : Tree) → map.get cleared.links new ≡ None → map.get (take_link cleared old).links new ≡ None
    gone cleared e = told (same_or_apart links_total exact_links new old)
      where
        told : (new ≡ old) ⊎ (new ≡ old → ⊥) → map.get (take_link cleared old).links new ≡ None
        told (inl q) = ap (map.get (take_link cleared old).links) q ∙ get_removed links_total cleared.links old
        told (inr q) = get_left links_total exact_links cleared.links old new q ∙ e

pub change_few : (limits : Limits) (change : Change) (tree after : Tree) → HasFewNames limits tree → apply limits change tree ≡ Some after → HasFewNames limits after
change_few limits (Make directory name number kind o) tree after h e =
    let link = link_to directory name in
    let p = made_is limits tree link number kind o after e in
    let x = node_with kind o [] in
    subst (HasFewNames limits) p.gives (few_more limits (put_node tree number x) link number (vacant_absent tree link p.vacant) (ltb-true _ _ p.room.names) (ltb-true _ _ p.room.links) h.names (λ n q k. h.links n (kind_at _ _ File (sym (get_other nat_cmp_total exact_unsigned tree.nodes number x n (λ r. q (sym r)))) k)))
change_few limits (AddLink directory name number) tree after h e =
    let link = link_to directory name in
    let p = linked_is limits tree link number after e in
    subst (HasFewNames limits) p.gives (few_more limits tree link number (vacant_absent tree link p.vacant) (ltb-true _ _ p.room.names) (ltb-true _ _ p.room.links) h.names (λ n _ k. h.links n k))
change_few limits (Remove directory name) tree after h e =
    let link = link_to directory name in
    let p = removed_is tree link after e in
    few_unlinked limits tree link p.number p.node after h (unlinked_is tree link p.number p.node after p.gone)
change_few limits (Rename old_directory old_name new_directory new_name) tree after h e =
    let p = renamed_is limits tree (link_to old_directory old_name) (link_to new_directory new_name) after e in
    few_renamed limits tree (link_to old_directory old_name) (link_to new_directory new_name) after p h p.done
change_few limits (Write number offset bytes) tree after h e =
    let p = written_is limits tree number offset bytes after e in
    let y = record p.node { bytes = overwritten p.node.bytes offset bytes } in
    subst (HasFewNames limits) p.gives (few_same limits tree (put_node tree number y) h refl (put_were tree number p.node y (file_is tree number p.node p.file).0 refl))
change_few limits (SetSize number size) tree after h e =
    let p = cut_is limits tree number size after e in
    let y = record p.node { bytes = resized p.node.bytes size } in
    subst (HasFewNames limits) p.gives (few_same limits tree (put_node tree number y) h refl (put_were tree number p.node y (file_is tree number p.node p.file).0 refl))
change_few limits (SetAttributes number o) tree after h e =
    let p = owned_is tree number o after e in
    let y = node_with p.node.kind o p.node.bytes in
    subst (HasFewNames limits) p.gives (few_same limits tree (put_node tree number y) h refl (put_were tree number p.node y p.there refl))
