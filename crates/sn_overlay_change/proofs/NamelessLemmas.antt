-- How many files without names a change leaves.
use Rattle.std.proofs.Common.{◌≡◌, ◌≢◌, ℕ, ◌+◌, ◌≤◌, Bool, true, false, cond, eqb, [], sum_by, Option, Some, None, refl, sym, ap, subst, ◌∙◌, ◌⊎◌, inl, inr, arith, eq-eqb}
use Rattle.std.specs.Ordering.{nat_cmp}
use Rattle.std.specs.Cmp.{nat_cmp_total}
use Rattle.std.specs.FinMap as map
use Rattle.std.proofs.lemmas.Bool.{true≢false}
use Rattle.std.proofs.lemmas.Bool.Decides.{nat_tests}
use Rattle.std.proofs.lemmas.Map.Lookups.{exact_unsigned}
use Rattle.sn_limits.specs.declared.kind.Kind.{Kind}
use Rattle.sn_limits.specs.declared.kind.Kind.TheVariants.{File, Directory}
use Rattle.sn_limits.specs.declared.limits.Limits.{Limits}
use Rattle.sn_walk.specs.Views.{is_directory}
use Rattle.sn_model.specs.declared.change.Change.{Change}
use Rattle.sn_model.specs.declared.change.Change.TheVariants.{Make, AddLink, Remove, Rename, Write, SetSize, SetAttributes}
use Rattle.sn_model.specs.declared.change.Ownership.{Ownership}
use Rattle.sn_model.specs.declared.link.Link.{Link}
use Rattle.sn_model.specs.Tree.{Node, Tree, link_to, names_for}
use Rattle.sn_model.specs.Changes.{is_file, node_with, put_node, put_link, take_link, take_node, made, linked, removed, renamed, replaced, same_number, overwritten, resized, apply}
use Rattle.sn_model.specs.NameTree.{IsHierarchy}
use Rattle.sn_model.specs.Settling.{is_nameless, nameless_in}
use Rattle.sn_model.proofs.ChainLemmas.{some_same}
use Rattle.sn_model.proofs.CountLemmas.{once, count_removed}
use Rattle.sn_model.proofs.EntryLemmas.{share, total-remove, total-le}
use Rattle.sn_model.proofs.KeepLemmas.{vacant_absent, replaced_clears}
use Rattle.sn_model.proofs.MapLemmas.{same_or_apart, get_inserted, get_other, get_removed, get_left, get_was}
use Rattle.sn_model.proofs.NameLemmas.{names_for_more, names_for_other}
use Rattle.sn_model.proofs.PartLemmas.{made_is, linked_is, removed_is, renamed_is, replaced_is, unlinked_is, written_is, cut_is, owned_is, file_is, Unlinked, Moved, Renamed, IsRenamed}
use Rattle.sn_model.specs.Charges.{file_under}
use Rattle.sn_overlay.specs.Needs.{left_nameless}
use Rattle.sn_overlay_change.proofs.NamesLemmas.{fewer_other, moved_names}

-- whether an entry is a file without names
abbrev pub bare : Tree → ℕ × Node → Bool
bare tree e = is_nameless tree e.0 (Some e.1)

-- what a number has of them
abbrev bare_at : Tree → ℕ → ℕ
bare_at tree number = share (once (bare tree)) number (map.get tree.nodes number)

of_kind : (tree : Tree) (number : ℕ) (node : Node) (kind : Kind) → node.kind ≡ kind → bare tree (number, node) ≡ bare tree (number, record node { kind = kind })
of_kind tree number node kind e = ap (λ k. bare tree (number, record node { kind = k })) e

pub same_names : (tree after : Tree) (number : ℕ) (node : Node) → names_for after number ≡ names_for tree number → bare after (number, node) ≡ bare tree (number, node)
same_names tree after number node e = told node.kind refl
  where
    told : (kind : Kind) → node.kind ≡ kind → bare after (number, node) ≡ bare tree (number, node)
    told File k = of_kind after number node File k ∙ ap (λ n. eqb n 0) e ∙ sym (of_kind tree number node File k)
    told Directory k = of_kind after number node Directory k ∙ sym (of_kind tree number node Directory k)

pub has_name : (tree : Tree) (number : ℕ) (node : Node) (n : ℕ) → names_for tree number ≡ n + 1 → bare tree (number, node) ≡ false
has_name tree number node n e = told node.kind refl
  where
    more : (m : ℕ) → m ≡ n + 1 → eqb m 0 ≡ false
    more m h = grind (arith, nat_tests)

    told : (kind : Kind) → node.kind ≡ kind → bare tree (number, node) ≡ false
    told File k = of_kind tree number node File k ∙ more (names_for tree number) e
    told Directory k = of_kind tree number node Directory k

share_named : (tree : Tree) (number : ℕ) (found : Option Node) (n : ℕ) → names_for tree number ≡ n + 1 → share (once (bare tree)) number found ≡ 0
share_named tree number None n e = refl
share_named tree number (Some node) n e = ap {B = ℕ} (λ (b : Bool). cond b 1 0) (has_name tree number node n e)

share_one : (tree : Tree) (number : ℕ) (found : Option Node) → share (once (bare tree)) number found ≤ 1
share_one tree number None = omega arith
share_one tree number (Some node) = told (bare tree (number, node))
  where
    told : (b : Bool) → cond b 1 0 ≤ 1
    told true = omega arith
    told false = omega arith

-- Two trees with the same nodes but at one number, of which the other numbers have as many names.
pub record AreAlikeBut (tree after : Tree) (number : ℕ) : Type 0 where
  pub nodes : (q : ℕ) → q ≢ number → map.get after.nodes q ≡ map.get tree.nodes q
  pub names : (q : ℕ) → q ≢ number → names_for after q ≡ names_for tree q

nameless_but : (tree after : Tree) (number : ℕ) → AreAlikeBut tree after number → nameless_in after + bare_at tree number ≤ nameless_in tree + bare_at after number
unfolding nameless_in
nameless_but tree after number h =
    omega (
      arith,
      total-remove nat_cmp_total exact_unsigned (once (bare after)) after.nodes number,
      total-remove nat_cmp_total exact_unsigned (once (bare tree)) tree.nodes number,
      ap (λ (m : map.FinMap nat_cmp Node). count_left m) rest,
      fewer,
    )
  where
    count_left : map.FinMap nat_cmp Node → ℕ
    count_left m = sum_by (once (bare after)) (map.entries m)

    rest : map.remove after.nodes number ≡ map.remove tree.nodes number
    rest = map.same_map nat_cmp_total exact_unsigned _ _ (λ q. told q (same_or_apart nat_cmp_total exact_unsigned q number))
      where
        told : (q : ℕ) → (q ≡ number) ⊎ (q ≢ number) → map.get (map.remove after.nodes number) q ≡ map.get (map.remove tree.nodes number) q
        told q (inl same) = subst (λ k. map.get (map.remove after.nodes number) k ≡ map.get (map.remove tree.nodes number) k) (sym same) (get_removed nat_cmp_total after.nodes number ∙ sym (get_removed nat_cmp_total tree.nodes number))
        told q (inr apart) = get_left nat_cmp_total exact_unsigned after.nodes number q apart ∙ h.nodes q apart ∙ sym (get_left nat_cmp_total exact_unsigned tree.nodes number q apart)

    fewer : sum_by (once (bare after)) (map.entries (map.remove tree.nodes number)) ≤ sum_by (once (bare tree)) (map.entries (map.remove tree.nodes number))
    fewer = total-le nat_cmp_total (once (bare after)) (once (bare tree)) (map.remove tree.nodes number) (λ q node g.
        let was = get_was nat_cmp_total exact_unsigned tree.nodes number q node g in
        omega (arith, ap {B = ℕ} (λ (b : Bool). cond b 1 0) (same_names tree after q node (h.names q was.0))))

-- the same nodes, with as many names
nameless_alike : (tree after : Tree) → after.nodes ≡ tree.nodes → ((q : ℕ) → names_for after q ≡ names_for tree q) → nameless_in after ≤ nameless_in tree
nameless_alike tree after nodes names =
    let all = nameless_but tree after 0 (record { nodes = λ q apart. ap (λ (m : map.FinMap nat_cmp Node). map.get m q) nodes; names = λ q apart. names q }) in
    omega (arith, all, ap (λ (m : map.FinMap nat_cmp Node). share (once (bare after)) 0 (map.get m 0)) nodes, shares (map.get tree.nodes 0))
  where
    shares : (found : Option Node) → share (once (bare after)) 0 found ≡ share (once (bare tree)) 0 found
    shares None = refl
    shares (Some node) = ap {B = ℕ} (λ (b : Bool). cond b 1 0) (same_names tree after 0 node (names 0))

-- a node in place of one of its kind
pub put_alike : (tree : Tree) (number : ℕ) (new : Node) → AreAlikeBut tree (put_node tree number new) number
put_alike tree number new = record { nodes = λ q apart. get_other nat_cmp_total exact_unsigned tree.nodes number new q apart; names = λ q apart. refl }

-- its kind shows whether it is a file without names
pub same_bare : (tree : Tree) (number : ℕ) (node new : Node) → new.kind ≡ node.kind → bare tree (number, new) ≡ bare tree (number, node)
same_bare tree number node new kind = told node.kind refl
  where
    told : (k : Kind) → node.kind ≡ k → bare tree (number, new) ≡ bare tree (number, node)
    told File e = of_kind tree number new File (kind ∙ e) ∙ sym (of_kind tree number node File e)
    told Directory e = of_kind tree number new Directory (kind ∙ e) ∙ sym (of_kind tree number node Directory e)

nameless_put : (tree : Tree) (number : ℕ) (node new : Node) → map.get tree.nodes number ≡ Some node → new.kind ≡ node.kind → nameless_in (put_node tree number new) ≤ nameless_in tree
nameless_put tree number node new there kind =
    let after = put_node tree number new in
    let all = nameless_but tree after number (put_alike tree number new) in
    omega (arith, all, ap (share (once (bare after)) number) (get_inserted nat_cmp_total tree.nodes number new), ap (share (once (bare tree)) number) there, ap {B = ℕ} (λ (b : Bool). cond b 1 0) (same_bare tree number node new kind))

apart_turned : (a b : ℕ) → a ≢ b → b ≢ a
apart_turned a b h e = h (sym e)

-- what loses a name: one file may stay without names
abbrev left_by : Bool → ℕ
left_by is_directory = cond is_directory 0 1

pub unlinked_alike : (tree after : Tree) (link : Link) (number : ℕ) (node : Node) → map.get tree.links link ≡ Some number → Unlinked tree link number node after → AreAlikeBut tree after number
unlinked_alike tree after link number node named (inl p) =
    let alike : AreAlikeBut tree (take_node (take_link tree link) number) number = record {
      nodes = λ q apart. get_left nat_cmp_total exact_unsigned tree.nodes number q apart;
      names = λ q apart. fewer_other tree link number named q (apart_turned q number apart);
    } in
    subst (λ (t : Tree). AreAlikeBut tree t number) p.gives alike
unlinked_alike tree after link number node named (inr p) =
    let alike : AreAlikeBut tree (take_link tree link) number = record {
      nodes = λ q apart. refl;
      names = λ q apart. fewer_other tree link number named q (apart_turned q number apart);
    } in
    subst (λ (t : Tree). AreAlikeBut tree t number) p.gives alike

nameless_unlinked : (tree after : Tree) (link : Link) (number : ℕ) (node : Node) → map.get tree.links link ≡ Some number → Unlinked tree link number node after → nameless_in after ≤ nameless_in tree + left_by (is_directory node.kind)
nameless_unlinked tree after link number node named (inl p) =
    let all = nameless_but tree after number (unlinked_alike tree after link number node named (inl p)) in
    let lost : map.get after.nodes number ≡ None = ap (λ (t : Tree). map.get t.nodes number) (sym p.gives) ∙ get_removed nat_cmp_total tree.nodes number in
    omega (arith, all, ap (share (once (bare after)) number) lost)
nameless_unlinked tree after link number node named (inr p) =
    let all = nameless_but tree after number (unlinked_alike tree after link number node named (inr p)) in
    omega (arith, all, share_one after number (map.get after.nodes number), ap left_by p.kind)

-- what is made, and what is linked, has a name afterwards
pub made_alike : (tree : Tree) (link : Link) (number : ℕ) (node : Node) → map.get tree.links link ≡ None → AreAlikeBut tree (put_link (put_node tree number node) link number) number
made_alike tree link number node absent = record {
  nodes = λ q apart. get_other nat_cmp_total exact_unsigned tree.nodes number node q apart;
  names = λ q apart. names_for_other (put_node tree number node) link number absent q (apart_turned q number apart);
}

pub linked_alike : (tree : Tree) (link : Link) (number : ℕ) → map.get tree.links link ≡ None → AreAlikeBut tree (put_link tree link number) number
linked_alike tree link number absent = record { nodes = λ q apart. refl; names = λ q apart. names_for_other tree link number absent q (apart_turned q number apart) }

nameless_made : (limits : Limits) (tree after : Tree) (link : Link) (number : ℕ) (kind : Kind) (o : Ownership) → made limits tree link number kind o ≡ Some after → nameless_in after ≤ nameless_in tree
nameless_made limits tree after link number kind o e =
    let p = made_is limits tree link number kind o after e in
    let node = node_with kind o [] in
    let there = put_node tree number node in
    let absent = vacant_absent tree link p.vacant in
    let all = nameless_but tree (put_link there link number) number (made_alike tree link number node absent) in
    omega (arith, all, ap nameless_in p.gives, share_named (put_link there link number) number (map.get there.nodes number) (names_for there number) (names_for_more there link number absent number refl))

nameless_linked : (limits : Limits) (tree after : Tree) (link : Link) (number : ℕ) → linked limits tree link number ≡ Some after → nameless_in after ≤ nameless_in tree
nameless_linked limits tree after link number e =
    let p = linked_is limits tree link number after e in
    let absent = vacant_absent tree link p.vacant in
    let all = nameless_but tree (put_link tree link number) number (linked_alike tree link number absent) in
    omega (arith, all, ap nameless_in p.gives, share_named (put_link tree link number) number (map.get tree.nodes number) (names_for tree number) (names_for_more tree link number absent number refl))

-- a file that is found under a name counts
counted_under : (tree : Tree) (link : Link) (number : ℕ) (node : Node) → map.get tree.links link ≡ Some number → map.get tree.nodes number ≡ Some node → left_by (is_directory node.kind) ≤ file_under tree link
counted_under tree link number node named there = rw (named, there) (told node.kind)
  where
    told : (kind : Kind) → left_by (is_directory kind) ≤ cond (is_file kind) 1 0
    told File = omega arith
    told Directory = omega arith

nameless_removed : (tree after : Tree) (link : Link) → removed tree link ≡ Some after → nameless_in after ≤ nameless_in tree + file_under tree link
nameless_removed tree after link e =
    let p = removed_is tree link after e in
    let lost = nameless_unlinked tree after link p.number p.node p.named (unlinked_is tree link p.number p.node after p.gone) in
    omega (arith, lost, counted_under tree link p.number p.node p.named p.there)

at_most_one : (b : Bool) → left_by b ≤ 1
at_most_one true = omega arith
at_most_one false = omega arith

nameless_replaced : (tree cleared : Tree) (new : Link) (moved : Node) (found : Option ℕ) → map.get tree.links new ≡ found → replaced tree new moved found ≡ Some cleared → nameless_in cleared ≤ nameless_in tree + 1
nameless_replaced tree cleared new moved None named e = omega (arith, ap nameless_in (some_same _ _ e))
nameless_replaced tree cleared new moved (Some n) named e =
    let p = replaced_is tree new moved n cleared e in
    omega (arith, nameless_unlinked tree cleared new n p.node named (unlinked_is tree new n p.node cleared p.gone), at_most_one (is_directory p.node.kind))

-- a name that is moved leaves each number as many names as it had once what had the new name has lost it
pub exchanged_names : (limits : Limits) (tree after : Tree) (old new : Link) (number : ℕ) (node : Node) → map.get tree.links old ≡ Some number → same_number number (map.get tree.links new) ≡ false → (m : Moved limits tree old new number node after) → (q : ℕ) → names_for after q ≡ names_for m.cleared q
exchanged_names limits tree after old new number node named differ m q =
    let clears = replaced_clears tree new node (map.get tree.links new) m.cleared refl m.cleared_is in
    ap (λ (t : Tree). names_for t q) (sym m.gives) ∙ moved_names m.cleared old new number (clears.stays old apart ∙ named) clears.absent q
  where
    apart : old ≢ new
    apart same = true≢false (sym (eq-eqb number number refl) ∙ ap (same_number number) (sym (ap (map.get tree.links) (sym same) ∙ named)) ∙ differ)

nameless_renamed : (limits : Limits) (tree after : Tree) (old new : Link) → renamed limits tree old new ≡ Some after → nameless_in after ≤ nameless_in tree + 1
nameless_renamed limits tree after old new e =
    let p = renamed_is limits tree old new after e in
    told p p.done
  where
    told : (p : Renamed limits tree old new after) → IsRenamed limits tree old new p.number p.node after → nameless_in after ≤ nameless_in tree + 1
    told p (inl q) = omega (arith, ap nameless_in q.1)
    told p (inr q) =
        let m = q.1 in
        omega (
          arith,
          nameless_replaced tree m.cleared new p.node (map.get tree.links new) refl m.cleared_is,
          nameless_alike m.cleared after (ap (λ (t : Tree). t.nodes) (sym m.gives)) (exchanged_names limits tree after old new p.number p.node p.named q.0 m),
        )

pub nameless_are_counted : (limits : Limits) (change : Change) (tree after : Tree) → IsHierarchy tree → apply limits change tree ≡ Some after → nameless_in after ≤ nameless_in tree + left_nameless tree change
nameless_are_counted limits (Make directory name number kind o) tree after h e = omega (arith, nameless_made limits tree after (link_to directory name) number kind o e)
nameless_are_counted limits (AddLink directory name number) tree after h e = omega (arith, nameless_linked limits tree after (link_to directory name) number e)
nameless_are_counted limits (Remove directory name) tree after h e = nameless_removed tree after (link_to directory name) e
nameless_are_counted limits (Rename old_directory old_name new_directory new_name) tree after h e = nameless_renamed limits tree after (link_to old_directory old_name) (link_to new_directory new_name) e
nameless_are_counted limits (Write number offset bytes) tree after h e =
    let p = written_is limits tree number offset bytes after e in
    omega (arith, ap nameless_in p.gives, nameless_put tree number p.node (record p.node { bytes = overwritten p.node.bytes offset bytes }) (file_is tree number p.node p.file).0 refl)
nameless_are_counted limits (SetSize number size) tree after h e =
    let p = cut_is limits tree number size after e in
    omega (arith, ap nameless_in p.gives, nameless_put tree number p.node (record p.node { bytes = resized p.node.bytes size }) (file_is tree number p.node p.file).0 refl)
nameless_are_counted limits (SetAttributes number o) tree after h e =
    let p = owned_is tree number o after e in
    omega (arith, ap nameless_in p.gives, nameless_put tree number p.node (node_with p.node.kind o p.node.bytes) p.there refl)

-- one that is dropped
pub drops_are_counted : (tree : Tree) (number : ℕ) → is_nameless tree number (map.get tree.nodes number) ≡ true → nameless_in (take_node tree number) + 1 ≡ nameless_in tree
unfolding nameless_in
drops_are_counted tree number bare_now = told (map.get tree.nodes number) refl bare_now
  where
    told : (found : Option Node) → map.get tree.nodes number ≡ found → is_nameless tree number found ≡ true → nameless_in (take_node tree number) + 1 ≡ nameless_in tree
    told None e h = absurd (true≢false (sym h))
    told (Some node) e h = omega (arith, count_removed nat_cmp_total exact_unsigned (bare tree) tree.nodes number node e, ap {B = ℕ} (λ (b : Bool). cond b 1 0) h)
