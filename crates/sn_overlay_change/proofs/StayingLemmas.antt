-- Files without names stay so by a change that gives none its first name, and there are no fewer of them.
use Rattle.std.proofs.Common.{◌≡◌, ◌≢◌, ℕ, zero, suc, ◌≤◌, Bool, true, false, cond, [], Option, Some, None, refl, sym, ap, subst, ◌∙◌, ◌⊎◌, inl, inr, arith}
use Rattle.std.specs.declared.cmp.Ordering.{Ordering}
use Rattle.std.specs.Ordering.{nat_cmp}
use Rattle.std.specs.Cmp.{IsTotalOrder, nat_cmp_total}
use Rattle.std.specs.FinMap as map
use Rattle.std.proofs.lemmas.Bool.{true≢false}
use Rattle.std.proofs.lemmas.Map.Lookups.{CmpEqualImpliesEq, exact_unsigned}
use Rattle.sn_limits.specs.declared.limits.Limits.{Limits}
use Rattle.sn_model.specs.declared.change.Change.{Change}
use Rattle.sn_model.specs.declared.change.Change.TheVariants.{Make, AddLink, Remove, Rename, Write, SetSize, SetAttributes}
use Rattle.sn_model.specs.declared.link.Link.{Link}
use Rattle.sn_model.specs.Tree.{Node, Tree, link_to, names_for}
use Rattle.sn_model.specs.Changes.{apply, node_with, overwritten, put_node, replaced, resized, take_link}
use Rattle.sn_model.specs.Settling.{is_nameless, nameless_in}
use Rattle.sn_model.proofs.ChainLemmas.{some_same}
use Rattle.sn_model.proofs.CountLemmas.{count, count_found, count_removed, once}
use Rattle.sn_model.proofs.KeepLemmas.{vacant_absent}
use Rattle.sn_model.proofs.MapLemmas.{same_or_apart, get_inserted, get_left, get_was}
use Rattle.sn_model.proofs.NameLemmas.{names_for_less}
use Rattle.sn_model.proofs.PartLemmas.{IsRenamed, Renamed, Unlinked, cut_is, file_is, linked_is, made_is, owned_is, removed_is, renamed_is, replaced_is, unlinked_is, written_is}
use Rattle.sn_overlay_change.specs.FirstNames.{GivesNoFirstName, StayNameless}
use Rattle.sn_overlay_change.proofs.NamelessLemmas.{AreAlikeBut, bare, exchanged_names, has_name, linked_alike, made_alike, put_alike, same_bare, same_names, unlinked_alike}

-- ---- number by number

-- what a name denotes isn't without names
pub named_is_not : (tree : Tree) (link : Link) (number : ℕ) → map.get tree.links link ≡ Some number → (found : Option Node) → is_nameless tree number found ≡ false
named_is_not tree link number named None = refl
named_is_not tree link number named (Some node) = has_name tree number node (names_for (take_link tree link) number) (sym (names_for_less tree link number named))

same_nameless : (tree after : Tree) (number : ℕ) (found : Option Node) → names_for after number ≡ names_for tree number → is_nameless after number found ≡ is_nameless tree number found
same_nameless tree after number None names = refl
same_nameless tree after number (Some node) names = same_names tree after number node names

-- nodes and counts of names that stay
alike_stay : (tree after : Tree) → after.nodes ≡ tree.nodes → ((q : ℕ) → names_for after q ≡ names_for tree q) → StayNameless tree after
alike_stay tree after nodes names q bare_now =
    ap (is_nameless after q) (ap (λ (m : map.FinMap nat_cmp Node). map.get m q) nodes) ∙ same_nameless tree after q (map.get tree.nodes q) (names q) ∙ bare_now

-- all but one, which stays by itself, or isn't without names
but_one_stay : (tree after : Tree) (number : ℕ) → AreAlikeBut tree after number → (is_nameless tree number (map.get tree.nodes number) ≡ true → is_nameless after number (map.get after.nodes number) ≡ true) → StayNameless tree after
but_one_stay tree after number alike this q bare_now = told (same_or_apart nat_cmp_total exact_unsigned q number)
  where
    told : (q ≡ number) ⊎ (q ≢ number) → is_nameless after q (map.get after.nodes q) ≡ true
    told (inl same) = subst (λ (n : ℕ). is_nameless after n (map.get after.nodes n) ≡ true) (sym same) (this (subst (λ (n : ℕ). is_nameless tree n (map.get tree.nodes n) ≡ true) same bare_now))
    told (inr apart) = ap (is_nameless after q) (alike.nodes q apart) ∙ same_nameless tree after q (map.get tree.nodes q) (alike.names q apart) ∙ bare_now

others_stay : (tree after : Tree) (number : ℕ) → AreAlikeBut tree after number → is_nameless tree number (map.get tree.nodes number) ≡ false → StayNameless tree after
others_stay tree after number alike named = but_one_stay tree after number alike (λ bare_now. absurd (true≢false (sym bare_now ∙ named)))

put_stay : (tree : Tree) (number : ℕ) (node new : Node) → map.get tree.nodes number ≡ Some node → new.kind ≡ node.kind → StayNameless tree (put_node tree number new)
put_stay tree number node new there kind = but_one_stay tree (put_node tree number new) number (put_alike tree number new) (λ bare_now.
    ap (is_nameless tree number) (get_inserted nat_cmp_total tree.nodes number new) ∙ same_bare tree number node new kind ∙ sym (ap (is_nameless tree number) there) ∙ bare_now)

unlinked_stay : (tree after : Tree) (link : Link) (number : ℕ) (node : Node) → map.get tree.links link ≡ Some number → Unlinked tree link number node after → StayNameless tree after
unlinked_stay tree after link number node named p = others_stay tree after number (unlinked_alike tree after link number node named p) (named_is_not tree link number named (map.get tree.nodes number))

replaced_stay : (tree cleared : Tree) (new : Link) (moved : Node) (found : Option ℕ) → map.get tree.links new ≡ found → replaced tree new moved found ≡ Some cleared → StayNameless tree cleared
replaced_stay tree cleared new moved None named e = subst (StayNameless tree) (some_same _ _ e) (λ q bare_now. bare_now)
replaced_stay tree cleared new moved (Some n) named e =
    let p = replaced_is tree new moved n cleared e in
    unlinked_stay tree cleared new n p.node named (unlinked_is tree new n p.node cleared p.gone)

renamed_stay : (limits : Limits) (tree after : Tree) (old new : Link) (p : Renamed limits tree old new after) → IsRenamed limits tree old new p.number p.node after → StayNameless tree after
renamed_stay limits tree after old new p (inl q) = subst (StayNameless tree) q.1 (λ n bare_now. bare_now)
renamed_stay limits tree after old new p (inr q) =
    let m = q.1 in
    let first = replaced_stay tree m.cleared new p.node (map.get tree.links new) refl m.cleared_is in
    let then = alike_stay m.cleared after (ap (λ (t : Tree). t.nodes) (sym m.gives)) (exchanged_names limits tree after old new p.number p.node p.named q.0 m) in
    λ n bare_now. then n (first n bare_now)

pub nameless_stay : (limits : Limits) (change : Change) (tree after : Tree) → GivesNoFirstName tree change → apply limits change tree ≡ Some after → StayNameless tree after
nameless_stay limits (Make directory name number kind o) tree after named e =
    let link = link_to directory name in
    let p = made_is limits tree link number kind o after e in
    subst (StayNameless tree) p.gives (others_stay tree _ number (made_alike tree link number (node_with kind o []) (vacant_absent tree link p.vacant)) named)
nameless_stay limits (AddLink directory name number) tree after named e =
    let link = link_to directory name in
    let p = linked_is limits tree link number after e in
    subst (StayNameless tree) p.gives (others_stay tree _ number (linked_alike tree link number (vacant_absent tree link p.vacant)) named)
nameless_stay limits (Remove directory name) tree after named e =
    let link = link_to directory name in
    let p = removed_is tree link after e in
    unlinked_stay tree after link p.number p.node p.named (unlinked_is tree link p.number p.node after p.gone)
nameless_stay limits (Rename old_directory old_name new_directory new_name) tree after named e =
    let p = renamed_is limits tree (link_to old_directory old_name) (link_to new_directory new_name) after e in
    renamed_stay limits tree after (link_to old_directory old_name) (link_to new_directory new_name) p p.done
nameless_stay limits (Write number offset bytes) tree after named e =
    let p = written_is limits tree number offset bytes after e in
    subst (StayNameless tree) p.gives (put_stay tree number p.node (record p.node { bytes = overwritten p.node.bytes offset bytes }) (file_is tree number p.node p.file).0 refl)
nameless_stay limits (SetSize number size) tree after named e =
    let p = cut_is limits tree number size after e in
    subst (StayNameless tree) p.gives (put_stay tree number p.node (record p.node { bytes = resized p.node.bytes size }) (file_is tree number p.node p.file).0 refl)
nameless_stay limits (SetAttributes number o) tree after named e =
    let p = owned_is tree number o after e in
    subst (StayNameless tree) p.gives (put_stay tree number p.node (node_with p.node.kind o p.node.bytes) p.there refl)

-- ---- counted

-- What passes one test in a map passes another in the other map, so that no fewer do.
module _ {K X : Type 0} {R : K → K → Ordering} (o : IsTotalOrder R) (same : CmpEqualImpliesEq R) (p q : K × X → Bool) where
  abbrev PassToo : map.FinMap R X → map.FinMap R X → Type 0
  PassToo a b = (k : K) (v : X) → map.get a k ≡ Some v → p (k, v) ≡ true → (w : X) × (map.get b k ≡ Some w) × (q (k, w) ≡ true)

  passed : {A : Type 0} (t : A → Bool) (e : A) → t e ≡ true → once t e ≡ 1
  passed t e h = ap {B = ℕ} (λ (b : Bool). cond b 1 0) h

  no_fewer : (n : ℕ) (a b : map.FinMap R X) → count p a ≡ n → PassToo a b → n ≤ count q b
  no_fewer zero a b is pass = omega arith
  no_fewer (suc n) a b is pass =
      let e = count_found o same p a (omega (arith, is)) in
      let f = pass e.0 e.1 e.2 e.3 in
      let fewer : count p (map.remove a e.0) ≡ n = omega (arith, is, count_removed o same p a e.0 e.1 e.2, passed p (e.0, e.1) e.3) in
      let rest = no_fewer n (map.remove a e.0) (map.remove b e.0) fewer (λ k v g h.
      let was = get_was o same a e.0 k v g in
      let other = pass k v was.1 h in
      (other.0, get_left o same b e.0 k was.0 ∙ other.1, other.2)) in
      omega (arith, rest, count_removed o same q b e.0 f.0 f.1, passed q (e.0, f.0) f.2)

pub staying_is_counted : (tree after : Tree) → StayNameless tree after → nameless_in tree ≤ nameless_in after
unfolding nameless_in
staying_is_counted tree after stay = no_fewer nat_cmp_total exact_unsigned (bare tree) (bare after) (count (bare tree) tree.nodes) tree.nodes after.nodes refl (λ number node there bare_now.
    found number (map.get after.nodes number) refl (stay number (ap (is_nameless tree number) there ∙ bare_now)))
  where
    found : (number : ℕ) (now : Option Node) → map.get after.nodes number ≡ now → is_nameless after number (map.get after.nodes number) ≡ true → (node : Node) × (map.get after.nodes number ≡ Some node) × (bare after (number, node) ≡ true)
    found number None e h = absurd (true≢false (sym h ∙ ap (is_nameless after number) e))
    found number (Some node) e h = (node, e, sym (ap (is_nameless after number) e) ∙ h)
