-- How many files of a tree have no name, and how a change counts.
use Rattle.std.proofs.Common.{◌≡◌, ◌≢◌, ◌⊎◌, inl, inr, ℕ, zero, suc, ◌+◌, ◌<◌, ◌≤◌, ◌==◌, nat_lt, Bool, true, false, cond, sum_by, Option, Some, None, refl, sym, ap, subst, ◌∙◌, arith, eqb-true, eq-eqb}
use Rattle.std.specs.Ordering.{nat_cmp}
use Rattle.std.specs.Cmp.{nat_cmp_total}
use Rattle.std.specs.FinMap as map
use Rattle.std.proofs.lemmas.Bool.{false_from_ne_true, lt-ltb, ltb-true, true≢false}
use Rattle.std.proofs.lemmas.Map.Lookups.{exact_unsigned}
use Rattle.sn_limits.specs.Versions.{limits_written}
use Rattle.sn_limits.specs.declared.kind.Kind.{Kind}
use Rattle.sn_limits.specs.declared.kind.Kind.TheVariants.{File, Directory}
use Rattle.sn_model.specs.declared.change.Change.{Change}
use Rattle.sn_model.specs.declared.change.Change.TheVariants.{Make, AddLink, Remove, Rename, Write, SetSize, SetAttributes}
use Rattle.sn_model.specs.declared.link.Link.{Link}
use Rattle.sn_model.specs.Changes.{apply, node_with, put_link, put_node, replaced, resized, overwritten}
use Rattle.sn_model.specs.NameTree.{IsTree}
use Rattle.sn_model.specs.Settling.{is_nameless, nameless_in}
use Rattle.sn_model.specs.Tree.{Node, Tree, link_count, link_to, names_for}
use Rattle.sn_model.proofs.ChainLemmas.{some_same}
use Rattle.sn_model.proofs.CountLemmas.{count, count_fewer, count_none, once}
use Rattle.sn_model.proofs.EntryLemmas.{share, total-le, total-remove}
use Rattle.sn_model.proofs.KeepLemmas.{directory_kind, other_kind, vacant_absent}
use Rattle.sn_model.proofs.LinkLemmas.{links_total}
use Rattle.sn_model.proofs.MapLemmas.{get_inserted, get_left, get_removed, get_was, same_or_apart}
use Rattle.sn_model.proofs.NameLemmas.{names_for_less}
use Rattle.sn_model.proofs.PartLemmas.{IsRenamed, Renamed, Unlinked, cut_is, file_is, linked_is, made_is, owned_is, removed_is, renamed_is, replaced_is, unlinked_is, written_is}
use Rattle.sn_overlay_change.proofs.NamelessLemmas.{AreAlikeBut, bare, exchanged_names, linked_alike, made_alike, put_alike, same_bare, same_names, unlinked_alike}
use Rattle.sn_overlay_change.proofs.StayingLemmas.{named_is_not}
use Rattle.sn_live.specs.Nodes.{exchanging, losing, losing_node, losing_of, nameless_after, node_moves_of}
use Rattle.sn_live.specs.declared.nodes.NodeMoves.TheVariants.{Stay, Come, Name, Unname}

-- ---- there are no more of them than numbers

abbrev below : ℕ → ℕ × Node → Bool
below end e = nat_lt e.0 end

share_one : (end k : ℕ) (found : Option Node) → share (once (below end)) k found ≤ 1
share_one end k None = omega arith
share_one end k (Some node) = told (nat_lt k end)
  where
    told : (b : Bool) → cond b 1 0 ≤ 1
    told true = omega arith
    told false = omega arith

few_below : (nodes : map.FinMap nat_cmp Node) (end : ℕ) → count (below end) nodes ≤ end
few_below nodes zero =
    let none = count_none nat_cmp_total exact_unsigned (below 0) nodes (λ k node e. false_from_ne_true (nat_lt k 0) (λ t. absurd (let low : k < 0 = ltb-true k 0 t in omega (arith, low)))) in
    omega (arith, none)
few_below nodes (suc end) =
    omega (
      arith,
      total-remove nat_cmp_total exact_unsigned (once (below (suc end))) nodes end,
      share_one (suc end) end (map.get nodes end),
      total-le nat_cmp_total (once (below (suc end))) (once (below end)) (map.remove nodes end) others,
      count_fewer nat_cmp_total exact_unsigned (below end) nodes end,
      few_below nodes end,
    )
  where
    others : (k : ℕ) (node : Node) → map.get (map.remove nodes end) k ≡ Some node → once (below (suc end)) (k, node) ≤ once (below end) (k, node)
    others k node e = told (nat_lt k (suc end)) refl (nat_lt k end) refl
      where
        told : (a : Bool) → nat_lt k (suc end) ≡ a → (b : Bool) → nat_lt k end ≡ b → cond a 1 0 ≤ cond b 1 0
        told false f b g = omega arith
        told true f true g = omega arith
        told true f false g =
            let most : k < suc end = ltb-true k (suc end) f in
            let apart : k ≢ end = (get_was nat_cmp_total exact_unsigned nodes end k node e).0 in
            let less : k < end = omega (arith, most, apart) in
            absurd (true≢false (sym (lt-ltb k end less) ∙ g))

pub few_nameless : (tree : Tree) → IsTree limits_written tree → nameless_in tree ≤ 65536
unfolding nameless_in
few_nameless tree whole = omega (arith, few_below tree.nodes 65536, total-le nat_cmp_total (once (bare tree)) (once (below 65536)) tree.nodes each)
  where
    at_most : (b : Bool) → cond b 1 0 ≤ 1
    at_most true = omega arith
    at_most false = omega arith

    each : (k : ℕ) (node : Node) → map.get tree.nodes k ≡ Some node → once (bare tree) (k, node) ≤ once (below 65536) (k, node)
    each k node e =
        let most : k ≤ 65535 = (whole.nodes.nodes k node e).within in
        let low : k < 65536 = omega (arith, most) in
        omega (arith, at_most (bare tree (k, node)), ap {B = ℕ} (λ (b : Bool). cond b 1 0) (lt-ltb k 65536 low))

-- ---- trees that differ at one number

-- 1 where a number is that of a file without names
abbrev nameless_at : Tree → ℕ → ℕ
nameless_at tree number = cond (is_nameless tree number (map.get tree.nodes number)) 1 0

share_is : (tree : Tree) (number : ℕ) (found : Option Node) → share (once (bare tree)) number found ≡ cond (is_nameless tree number found) 1 0
share_is tree number None = refl
share_is tree number (Some node) = refl

nameless_but : (tree after : Tree) (number : ℕ) → AreAlikeBut tree after number → nameless_in after + nameless_at tree number ≡ nameless_in tree + nameless_at after number
unfolding nameless_in
nameless_but tree after number h =
    omega (
      arith,
      total-remove nat_cmp_total exact_unsigned (once (bare after)) after.nodes number,
      total-remove nat_cmp_total exact_unsigned (once (bare tree)) tree.nodes number,
      share_is after number (map.get after.nodes number),
      share_is tree number (map.get tree.nodes number),
      ap (λ (m : map.FinMap nat_cmp Node). count_left m) rest,
      total-le nat_cmp_total (once (bare after)) (once (bare tree)) (map.remove tree.nodes number) (λ q node g. omega (arith, alike q node g)),
      total-le nat_cmp_total (once (bare tree)) (once (bare after)) (map.remove tree.nodes number) (λ q node g. omega (arith, alike q node g)),
    )
  where
    count_left : map.FinMap nat_cmp Node → ℕ
    count_left m = sum_by (once (bare after)) (map.entries m)

    alike : (q : ℕ) (node : Node) → map.get (map.remove tree.nodes number) q ≡ Some node → once (bare after) (q, node) ≡ once (bare tree) (q, node)
    alike q node g = ap {B = ℕ} (λ (b : Bool). cond b 1 0) (same_names tree after q node (h.names q (get_was nat_cmp_total exact_unsigned tree.nodes number q node g).0))

    rest : map.remove after.nodes number ≡ map.remove tree.nodes number
    rest = map.same_map nat_cmp_total exact_unsigned _ _ (λ q. told q (same_or_apart nat_cmp_total exact_unsigned q number))
      where
        told : (q : ℕ) → (q ≡ number) ⊎ (q ≢ number) → map.get (map.remove after.nodes number) q ≡ map.get (map.remove tree.nodes number) q
        told q (inl same) = subst (λ k. map.get (map.remove after.nodes number) k ≡ map.get (map.remove tree.nodes number) k) (sym same) (get_removed nat_cmp_total after.nodes number ∙ sym (get_removed nat_cmp_total tree.nodes number))
        told q (inr apart) = get_left nat_cmp_total exact_unsigned after.nodes number q apart ∙ h.nodes q apart ∙ sym (get_left nat_cmp_total exact_unsigned tree.nodes number q apart)

-- the same nodes, with as many names
nameless_alike : (tree after : Tree) → after.nodes ≡ tree.nodes → ((q : ℕ) → names_for after q ≡ names_for tree q) → nameless_in after ≡ nameless_in tree
nameless_alike tree after nodes names =
    let all = nameless_but tree after 0 (record { nodes = λ q apart. ap (λ (m : map.FinMap nat_cmp Node). map.get m q) nodes; names = λ q apart. names q }) in
    omega (arith, all, at)
  where
    same : (found : Option Node) → is_nameless after 0 found ≡ is_nameless tree 0 found
    same None = refl
    same (Some node) = same_names tree after 0 node (names 0)

    at : nameless_at after 0 ≡ nameless_at tree 0
    at = ap {B = ℕ} (λ (b : Bool). cond b 1 0) (ap (λ (m : map.FinMap nat_cmp Node). is_nameless after 0 (map.get m 0)) nodes ∙ same (map.get tree.nodes 0))

-- a node in place of one of its kind
nameless_put : (tree : Tree) (number : ℕ) (node new : Node) → map.get tree.nodes number ≡ Some node → new.kind ≡ node.kind → nameless_in (put_node tree number new) ≡ nameless_in tree
nameless_put tree number node new there kind =
    let after = put_node tree number new in
    let all = nameless_but tree after number (put_alike tree number new) in
    let now : is_nameless after number (map.get after.nodes number) ≡ bare tree (number, new) = ap (is_nameless after number) (get_inserted nat_cmp_total tree.nodes number new) in
    let was : is_nameless tree number (map.get tree.nodes number) ≡ bare tree (number, node) = ap (is_nameless tree number) there in
    omega (arith, all, ap {B = ℕ} (λ (b : Bool). cond b 1 0) (now ∙ same_bare tree number node new kind ∙ sym was))

-- ---- what loses a name

-- a number that has a name is no file's without names
not_at : (tree : Tree) (link : Link) (number : ℕ) → map.get tree.links link ≡ Some number → nameless_at tree number ≡ 0
not_at tree link number named = ap {B = ℕ} (λ (b : Bool). cond b 1 0) (named_is_not tree link number named (map.get tree.nodes number))

pub last_name : (n m : ℕ) → m + 1 ≡ n → (m == 0) ≡ (n == 1)
last_name zero m e = absurd (omega (arith, e))
last_name (suc n) m e = told (m == 0) refl (suc n == 1) refl
  where
    told : (a : Bool) → (m == 0) ≡ a → (b : Bool) → (suc n == 1) ≡ b → (m == 0) ≡ (suc n == 1)
    told true f true g = f ∙ sym g
    told false f false g = f ∙ sym g
    told true f false g = absurd (true≢false (sym (eq-eqb (suc n) 1 (omega (arith, e, eqb-true m 0 f))) ∙ g))
    told false f true g = absurd (true≢false (sym (eq-eqb m 0 (omega (arith, e, eqb-true (suc n) 1 g))) ∙ f))

-- a file stays
file_loses : (n after was : ℕ) (last : Bool) → after ≡ was + cond last 1 0 → after ≤ 65536 → after ≡ nameless_after was (cond last (Unname n) Stay)
file_loses n after was true e few = omega (arith, e, few)
file_loses n after was false e few = omega (arith, e)

nameless_unlinked : (tree after : Tree) (link : Link) (number : ℕ) (node : Node) → map.get tree.links link ≡ Some number → map.get tree.nodes number ≡ Some node → Unlinked tree link number node after → nameless_in after ≤ 65536
    → nameless_in after ≡ nameless_after (nameless_in tree) (losing_of number node.kind (link_count node.kind (names_for tree number)))
nameless_unlinked tree after link number node named there (inl p) few =
    let all = nameless_but tree after number (unlinked_alike tree after link number node named (inl p)) in
    let lost : map.get after.nodes number ≡ None = ap (λ (t : Tree). map.get t.nodes number) (sym p.gives) ∙ get_removed nat_cmp_total tree.nodes number in
    let same : nameless_in after ≡ nameless_in tree = omega (arith, all, not_at tree link number named, ap {B = ℕ} (λ (o : Option Node). cond (is_nameless after number o) 1 0) lost) in
    same ∙ sym (ap (λ (k : Kind). nameless_after (nameless_in tree) (losing_of number k (link_count k (names_for tree number)))) (directory_kind node.kind p.kind))
nameless_unlinked tree after link number node named there (inr p) few =
    let all = nameless_but tree after number (unlinked_alike tree after link number node named (inr p)) in
    let file = other_kind node.kind p.kind in
    let found : map.get after.nodes number ≡ Some node = ap (λ (t : Tree). map.get t.nodes number) (sym p.gives) ∙ there in
    let names : names_for after number + 1 ≡ names_for tree number = ap (λ (t : Tree). names_for t number + 1) (sym p.gives) ∙ names_for_less tree link number named in
    let is : is_nameless after number (map.get after.nodes number) ≡ (names_for tree number == 1) = ap (is_nameless after number) found ∙ by_kind node.kind file ∙ last_name (names_for tree number) (names_for after number) names in
    let more : nameless_in after ≡ nameless_in tree + cond (names_for tree number == 1) 1 0 = omega (arith, all, not_at tree link number named, ap {B = ℕ} (λ (b : Bool). cond b 1 0) is) in
    file_loses number (nameless_in after) (nameless_in tree) (names_for tree number == 1) more few ∙ sym (ap (λ (k : Kind). nameless_after (nameless_in tree) (losing_of number k (link_count k (names_for tree number)))) file)
  where
    by_kind : (k : Kind) → k ≡ File → is_nameless after number (Some (record node { kind = k })) ≡ (names_for after number == 0)
    by_kind File e = refl
    by_kind Directory e = cc

-- ---- each change

come_count : (after was : ℕ) (number : ℕ) (b : Bool) → after + cond b 1 0 ≡ was → after ≡ nameless_after was (Come number b)
come_count after was number true e = omega (arith, e)
come_count after was number false e = omega (arith, e)

name_count : (after was : ℕ) (number : ℕ) (b : Bool) → after + cond b 1 0 ≡ was → after ≡ nameless_after was (cond b (Name number) Stay)
name_count after was number true e = omega (arith, e)
name_count after was number false e = omega (arith, e)

module _ (tree after : Tree) (few : nameless_in after ≤ 65536) where
  made_count : (link : Link) (number : ℕ) (node : Node) → map.get tree.links link ≡ None → put_link (put_node tree number node) link number ≡ after → nameless_in after ≡ nameless_after (nameless_in tree) (Come number (is_nameless tree number (map.get tree.nodes number)))
  made_count link number node absent gives =
      let made = put_link (put_node tree number node) link number in
      let all = nameless_but tree made number (made_alike tree link number node absent) in
      let named : map.get made.links link ≡ Some number = get_inserted links_total tree.links link number in
      come_count (nameless_in after) (nameless_in tree) number (is_nameless tree number (map.get tree.nodes number)) (omega (arith, all, not_at made link number named, ap nameless_in gives))

  linked_count : (link : Link) (number : ℕ) → map.get tree.links link ≡ None → put_link tree link number ≡ after → nameless_in after ≡ nameless_after (nameless_in tree) (cond (is_nameless tree number (map.get tree.nodes number)) (Name number) Stay)
  linked_count link number absent gives =
      let made = put_link tree link number in
      let all = nameless_but tree made number (linked_alike tree link number absent) in
      let named : map.get made.links link ≡ Some number = get_inserted links_total tree.links link number in
      name_count (nameless_in after) (nameless_in tree) number (is_nameless tree number (map.get tree.nodes number)) (omega (arith, all, not_at made link number named, ap nameless_in gives))

lost_count : (tree after : Tree) (link : Link) (number : ℕ) (node : Node) → nameless_in after ≤ 65536 → map.get tree.links link ≡ Some number → map.get tree.nodes number ≡ Some node → Unlinked tree link number node after
    → nameless_in after ≡ nameless_after (nameless_in tree) (losing tree (Some number))
lost_count tree after link number node few named there un =
    nameless_unlinked tree after link number node named there un few ∙ sym (ap (λ (o : Option Node). nameless_after (nameless_in tree) (losing_node tree number o)) there)

replaced_count : (tree cleared : Tree) (new : Link) (moved : Node) (target : Option ℕ) → nameless_in cleared ≤ 65536 → map.get tree.links new ≡ target → replaced tree new moved target ≡ Some cleared
    → nameless_in cleared ≡ nameless_after (nameless_in tree) (losing tree target)
replaced_count tree cleared new moved None few has e = ap nameless_in (sym (some_same _ _ e))
replaced_count tree cleared new moved (Some n) few has e =
    let p = replaced_is tree new moved n cleared e in
    lost_count tree cleared new n p.node few has p.there (unlinked_is tree new n p.node cleared p.gone)

renamed_count : (tree after : Tree) (old new : Link) → nameless_in after ≤ 65536 → (p : Renamed limits_written tree old new after) → IsRenamed limits_written tree old new p.number p.node after
    → nameless_in after ≡ nameless_after (nameless_in tree) (exchanging tree (Some p.number) (map.get tree.links new))
renamed_count tree after old new few p (inl q) = ap nameless_in (sym q.1) ∙ sym (ap (λ (b : Bool). nameless_after (nameless_in tree) (cond b Stay (losing tree (map.get tree.links new)))) q.0)
renamed_count tree after old new few p (inr q) =
    let m = q.1 in
    let alike = nameless_alike m.cleared after (ap (λ (t : Tree). t.nodes) (sym m.gives)) (exchanged_names limits_written tree after old new p.number p.node p.named q.0 m) in
    alike ∙ replaced_count tree m.cleared new p.node (map.get tree.links new) (omega (arith, few, alike)) refl m.cleared_is
    ∙ sym (ap (λ (b : Bool). nameless_after (nameless_in tree) (cond b Stay (losing tree (map.get tree.links new)))) q.0)

pub counted : (change : Change) (tree after : Tree) → IsTree limits_written after → apply limits_written change tree ≡ Some after → nameless_in after ≡ nameless_after (nameless_in tree) (node_moves_of tree change)
counted (Make directory name number kind o) tree after whole e =
    let p = made_is limits_written tree (link_to directory name) number kind o after e in
    made_count tree after (few_nameless after whole) (link_to directory name) number _ (vacant_absent tree (link_to directory name) p.vacant) p.gives
counted (AddLink directory name number) tree after whole e =
    let p = linked_is limits_written tree (link_to directory name) number after e in
    linked_count tree after (few_nameless after whole) (link_to directory name) number (vacant_absent tree (link_to directory name) p.vacant) p.gives
counted (Remove directory name) tree after whole e =
    let link = link_to directory name in
    let p = removed_is tree link after e in
    lost_count tree after link p.number p.node (few_nameless after whole) p.named p.there (unlinked_is tree link p.number p.node after p.gone)
    ∙ sym (ap (λ (o : Option ℕ). nameless_after (nameless_in tree) (losing tree o)) p.named)
counted (Rename old_directory old_name new_directory new_name) tree after whole e =
    let old = link_to old_directory old_name in
    let new = link_to new_directory new_name in
    let p = renamed_is limits_written tree old new after e in
    renamed_count tree after old new (few_nameless after whole) p p.done
    ∙ sym (ap (λ (o : Option ℕ). nameless_after (nameless_in tree) (exchanging tree o (map.get tree.links new))) p.named)
counted (Write number offset bytes) tree after whole e =
    let p = written_is limits_written tree number offset bytes after e in
    ap nameless_in (sym p.gives) ∙ nameless_put tree number p.node (record p.node { bytes = overwritten p.node.bytes offset bytes }) (file_is tree number p.node p.file).0 refl
counted (SetSize number size) tree after whole e =
    let p = cut_is limits_written tree number size after e in
    ap nameless_in (sym p.gives) ∙ nameless_put tree number p.node (record p.node { bytes = resized p.node.bytes size }) (file_is tree number p.node p.file).0 refl
counted (SetAttributes number o) tree after whole e =
    let p = owned_is tree number o after e in
    ap nameless_in (sym p.gives) ∙ nameless_put tree number p.node (node_with p.node.kind o p.node.bytes) p.there refl
