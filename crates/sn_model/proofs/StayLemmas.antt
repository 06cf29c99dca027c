-- What a change of nodes that are there leaves of each of them.
use Rattle.std.proofs.Common.{◌≡◌, ◌≢◌, ◌⊎◌, inl, inr, ℕ, true, Option, Some, None, refl, sym, ap, ◌∙◌, true≢false}
use Rattle.std.specs.FinMap as map
use Rattle.std.specs.Cmp.{nat_cmp_total}
use Rattle.std.proofs.lemmas.Map.Lookups.{exact_unsigned}
use Rattle.sn_limits.specs.declared.kind.Kind.{Kind}
use Rattle.sn_limits.specs.declared.kind.Kind.TheVariants.{File}
use Rattle.sn_limits.specs.declared.limits.Limits.{Limits}
use Rattle.sn_walk.specs.Views.{is_directory}
use Rattle.sn_model.specs.declared.change.Change.{Change}
use Rattle.sn_model.specs.declared.change.Change.TheVariants.{Make, AddLink, Remove, Rename, Write, SetSize, SetAttributes}
use Rattle.sn_model.specs.declared.link.Link.{Link}
use Rattle.sn_model.specs.Changes.{apply, node_with, overwritten, put_node, replaced, resized}
use Rattle.sn_model.specs.NameTree.{HasKind}
use Rattle.sn_model.specs.Tree.{Node, Tree, link_to}
use Rattle.sn_model.proofs.ChainLemmas.{some_same}
use Rattle.sn_model.proofs.MapLemmas.{same_or_apart, get_inserted, get_left, get_other, get_removed}
use Rattle.sn_model.proofs.MoveLemmas.{is_kind, kind_at, some_node}
use Rattle.sn_model.proofs.OutcomeLemmas.{IsOfOld}
use Rattle.sn_model.proofs.PartLemmas.{Unlinked, IsRenamed, cut_is, file_is, linked_is, owned_is, removed_is, renamed_is, replaced_is, unlinked_is, written_is}

-- a number's node stays, is set to another of its kind, or was a directory that goes
pub data Stays (o p : Option Node) : Type 0 where
  same : p ≡ o → Stays o p
  set : (x y : Node) → o ≡ Some x → p ≡ Some y → y.kind ≡ x.kind → Stays o p
  gone : (x : Node) → o ≡ Some x → is_directory x.kind ≡ true → p ≡ None → Stays o p

abbrev NodesStay : Tree → Tree → Type 0
NodesStay tree after = (n : ℕ) → Stays (map.get tree.nodes n) (map.get after.nodes n)

unmoved : (tree after : Tree) → after.nodes ≡ tree.nodes → NodesStay tree after
unmoved tree after e n = same (ap (λ nodes. map.get nodes n) e)

put_stays : (tree after : Tree) (number : ℕ) (x y : Node) → map.get tree.nodes number ≡ Some x → y.kind ≡ x.kind → put_node tree number y ≡ after → NodesStay tree after
put_stays tree after number x y there kind e n = told (same_or_apart nat_cmp_total exact_unsigned n number)
  where
    at : map.get after.nodes n ≡ map.get (map.insert tree.nodes number y) n
    at = ap (λ (t : Tree). map.get t.nodes n) (sym e)

    told : (n ≡ number) ⊎ (n ≢ number) → Stays (map.get tree.nodes n) (map.get after.nodes n)
    told (inl q) = set x y (ap (map.get tree.nodes) q ∙ there) (at ∙ ap (map.get (map.insert tree.nodes number y)) q ∙ get_inserted nat_cmp_total tree.nodes number y) kind
    told (inr q) = same (at ∙ get_other nat_cmp_total exact_unsigned tree.nodes number y n q)

unlinked_stays : (tree after : Tree) (link : Link) (number : ℕ) (node : Node) → map.get tree.nodes number ≡ Some node → Unlinked tree link number node after → NodesStay tree after
unlinked_stays tree after link number node there (inr p) n = same (ap (λ (t : Tree). map.get t.nodes n) (sym p.gives))
unlinked_stays tree after link number node there (inl p) n = told (same_or_apart nat_cmp_total exact_unsigned n number)
  where
    told : (n ≡ number) ⊎ (n ≢ number) → Stays (map.get tree.nodes n) (map.get after.nodes n)
    told (inl q) = gone node (ap (map.get tree.nodes) q ∙ there) p.kind (ap (λ (t : Tree). map.get t.nodes n) (sym p.gives) ∙ ap (map.get (map.remove tree.nodes number)) q ∙ get_removed nat_cmp_total tree.nodes number)
    told (inr q) = same (ap (λ (t : Tree). map.get t.nodes n) (sym p.gives) ∙ get_left nat_cmp_total exact_unsigned tree.nodes number n q)

replaced_stays : (tree after : Tree) (new : Link) (moved : Node) (o : Option ℕ) → replaced tree new moved o ≡ Some after → NodesStay tree after
replaced_stays tree after new moved None e = unmoved tree after (ap (λ (t : Tree). t.nodes) (sym (some_same _ _ e)))
replaced_stays tree after new moved (Some number) e =
    let p = replaced_is tree new moved number after e in
    unlinked_stays tree after new number p.node p.there (unlinked_is tree new number p.node after p.gone)

renamed_stays : (limits : Limits) (tree after : Tree) (old new : Link) (number : ℕ) (node : Node) → IsRenamed limits tree old new number node after → NodesStay tree after
renamed_stays limits tree after old new number node (inl q) n = same (ap (λ (t : Tree). map.get t.nodes n) (sym q.1))
renamed_stays limits tree after old new number node (inr q) n = moved (replaced_stays tree q.1.cleared new node (map.get tree.links new) q.1.cleared_is n)
  where
    nodes : map.get after.nodes n ≡ map.get q.1.cleared.nodes n
    nodes = ap (λ (t : Tree). map.get t.nodes n) (sym q.1.gives)

    moved : Stays (map.get tree.nodes n) (map.get q.1.cleared.nodes n) → Stays (map.get tree.nodes n) (map.get after.nodes n)
    moved (same e) = same (nodes ∙ e)
    moved (set x y e f k) = set x y e (nodes ∙ f) k
    moved (gone x e k f) = gone x e k (nodes ∙ f)

pub change_stays : (limits : Limits) (change : Change) (tree after : Tree) → IsOfOld change → apply limits change tree ≡ Some after → NodesStay tree after
change_stays limits (Make directory name number kind o) tree after old e = absurd old
change_stays limits (AddLink directory name number) tree after old e =
    unmoved tree after (ap (λ (t : Tree). t.nodes) (sym (linked_is limits tree (link_to directory name) number after e).gives))
change_stays limits (Remove directory name) tree after old e =
    let link = link_to directory name in
    let p = removed_is tree link after e in
    unlinked_stays tree after link p.number p.node p.there (unlinked_is tree link p.number p.node after p.gone)
change_stays limits (Rename old_directory old_name new_directory new_name) tree after old e =
    let p = renamed_is limits tree (link_to old_directory old_name) (link_to new_directory new_name) after e in
    renamed_stays limits tree after (link_to old_directory old_name) (link_to new_directory new_name) p.number p.node p.done
change_stays limits (Write number offset bytes) tree after old e =
    let p = written_is limits tree number offset bytes after e in
    put_stays tree after number p.node (record p.node { bytes = overwritten p.node.bytes offset bytes }) (file_is tree number p.node p.file).0 refl p.gives
change_stays limits (SetSize number size) tree after old e =
    let p = cut_is limits tree number size after e in
    put_stays tree after number p.node (record p.node { bytes = resized p.node.bytes size }) (file_is tree number p.node p.file).0 refl p.gives
change_stays limits (SetAttributes number o) tree after old e =
    let p = owned_is tree number o after e in
    put_stays tree after number p.node (node_with p.node.kind o p.node.bytes) p.there refl p.gives

not_both : (k : Kind) → is_directory k ≡ true → k ≢ File
not_both File e f = true≢false (sym e)
not_both k e f = true≢false (sym e ∙ ap is_directory f)

-- a file stays one
pub file_stays : (tree after : Tree) (n : ℕ) → Stays (map.get tree.nodes n) (map.get after.nodes n) → HasKind tree n File → HasKind after n File
file_stays tree after n (same e) h = kind_at _ _ File e h
file_stays tree after n (set x y e f k) h =
    let s = some_node _ File h in
    let both : Some s.0 ≡ Some x = sym s.1 ∙ e in
    is_kind after n y File f (k ∙ ap (λ (z : Node). z.kind) (sym (some_same _ _ both)) ∙ s.2)
file_stays tree after n (gone x e k f) h =
    let s = some_node _ File h in
    let both : Some s.0 ≡ Some x = sym s.1 ∙ e in
    absurd (not_both x.kind k (ap (λ (z : Node). z.kind) (sym (some_same _ _ both)) ∙ s.2))

-- a number that no node had, none has
pub none_stays : (o p : Option Node) → Stays o p → o ≡ None → p ≡ None
none_stays o p (same e) none = e ∙ none
none_stays o p (set x y e f k) none = let never : None ≡ Some x = sym none ∙ e in cc
none_stays o p (gone x e k f) none = let never : None ≡ Some x = sym none ∙ e in cc

-- a file was one
pub file_was : (tree after : Tree) (n : ℕ) → Stays (map.get tree.nodes n) (map.get after.nodes n) → HasKind after n File → HasKind tree n File
file_was tree after n (same e) h = kind_at _ _ File (sym e) h
file_was tree after n (set x y e f k) h =
    let s = some_node _ File h in
    let both : Some s.0 ≡ Some y = sym s.1 ∙ f in
    is_kind tree n x File e (sym k ∙ ap (λ (z : Node). z.kind) (sym (some_same _ _ both)) ∙ s.2)
file_was tree after n (gone x e k f) h =
    let s = some_node _ File h in
    let never : Some s.0 ≡ None = sym s.1 ∙ f in
    cc
