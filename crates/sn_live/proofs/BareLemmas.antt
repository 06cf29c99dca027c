-- Which files of a tree have no name, and what a change makes of that, number by number.
use Rattle.std.proofs.Common.{◌≡◌, ◌≢◌, ◌⊎◌, inl, inr, ℕ, ◌+◌, ◌==◌, Bool, true, false, not, ◌&&◌, ◌||◌, cond, [], Option, Some, None, refl, sym, ap, ◌∙◌}
use Rattle.std.specs.Ordering.{nat_cmp}
use Rattle.std.specs.Cmp.{nat_cmp_total}
use Rattle.std.specs.FinMap as map
use Rattle.std.proofs.lemmas.Bool.{eq-eqb, eqb-true, false_from_ne_true, true≢false}
use Rattle.std.proofs.lemmas.Map.Lookups.{exact_unsigned}
use Rattle.sn_limits.specs.Versions.{limits_written}
use Rattle.sn_limits.specs.declared.kind.Kind.{Kind}
use Rattle.sn_limits.specs.declared.kind.Kind.TheVariants.{File, Directory}
use Rattle.sn_model.specs.declared.change.Change.{Change}
use Rattle.sn_model.specs.declared.change.Change.TheVariants.{Make, AddLink, Remove, Rename, Write, SetSize, SetAttributes}
use Rattle.sn_model.specs.declared.link.Link.{Link}
use Rattle.sn_model.specs.Changes.{apply, node_with, put_link, put_node, replaced, resized, overwritten}
use Rattle.sn_model.specs.Settling.{is_nameless}
use Rattle.sn_model.specs.Tree.{Node, Tree, link_count, link_to, names_for}
use Rattle.sn_model.proofs.ChainLemmas.{some_same}
use Rattle.sn_model.proofs.KeepLemmas.{directory_kind, other_kind, vacant_absent}
use Rattle.sn_model.proofs.LinkLemmas.{links_total}
use Rattle.sn_model.proofs.MapLemmas.{get_inserted, get_removed, same_or_apart}
use Rattle.sn_model.proofs.NameLemmas.{names_for_less}
use Rattle.sn_model.proofs.PartLemmas.{IsRenamed, Renamed, Unlinked, cut_is, file_is, linked_is, made_is, owned_is, removed_is, renamed_is, replaced_is, unlinked_is, written_is}
use Rattle.sn_overlay_change.proofs.NamelessLemmas.{AreAlikeBut, exchanged_names, linked_alike, made_alike, put_alike, same_bare, same_names, unlinked_alike}
use Rattle.sn_overlay_change.proofs.StayingLemmas.{named_is_not}
use Rattle.sn_live.specs.Nodes.{exchanging, listed_after, losing, losing_node, losing_of, lost_of, node_moves_of}
use Rattle.sn_live.specs.declared.nodes.NodeMoves.{NodeMoves}
use Rattle.sn_live.specs.declared.nodes.NodeMoves.TheVariants.{Stay, Come, Go, Name, Unname}
use Rattle.sn_live.proofs.CountLemmas.{last_name}

-- whether a number is that of a file without names
abbrev pub bare_at : Tree → ℕ → Bool
bare_at tree n = is_nameless tree n (map.get tree.nodes n)

one_or_other : (a b : ℕ) → (a ≡ b) ⊎ (a ≢ b)
one_or_other = same_or_apart nat_cmp_total exact_unsigned

apart_is : (n number : ℕ) → n ≢ number → (n == number) ≡ false
apart_is n number apart = false_from_ne_true (n == number) (λ e. apart (eqb-true n number e))

-- a number that has a name is no file's without names
pub named_not : (tree : Tree) (link : Link) (number : ℕ) → map.get tree.links link ≡ Some number → bare_at tree number ≡ false
named_not tree link number named = named_is_not tree link number named (map.get tree.nodes number)

-- ---- trees that differ at one number

module _ (tree after : Tree) (number : ℕ) (h : AreAlikeBut tree after number) where
  elsewhere : (n : ℕ) → n ≢ number → bare_at after n ≡ bare_at tree n
  elsewhere n apart = ap (is_nameless after n) (h.nodes n apart) ∙ same (map.get tree.nodes n)
    where
      same : (found : Option Node) → is_nameless after n found ≡ is_nameless tree n found
      same None = refl
      same (Some node) = same_names tree after n node (h.names n apart)

  -- where it is as it was there, it is everywhere
  pub stays_bare : bare_at after number ≡ bare_at tree number → (n : ℕ) → bare_at after n ≡ bare_at tree n
  stays_bare is n = told (one_or_other n number)
    where
      told : (n ≡ number) ⊎ (n ≢ number) → bare_at after n ≡ bare_at tree n
      told (inl same) = ap (bare_at after) same ∙ is ∙ sym (ap (bare_at tree) same)
      told (inr apart) = elsewhere n apart

  pub cleared_bare : bare_at after number ≡ false → (n : ℕ) → bare_at after n ≡ (not (n == number) && bare_at tree n)
  cleared_bare is n = told (one_or_other n number)
    where
      told : (n ≡ number) ⊎ (n ≢ number) → bare_at after n ≡ (not (n == number) && bare_at tree n)
      told (inl same) = ap (bare_at after) same ∙ is ∙ sym (ap (λ (b : Bool). not b && bare_at tree n) (eq-eqb n number same))
      told (inr apart) = elsewhere n apart ∙ sym (ap (λ (b : Bool). not b && bare_at tree n) (apart_is n number apart))

  pub marked_bare : bare_at after number ≡ true → (n : ℕ) → bare_at after n ≡ (n == number || bare_at tree n)
  marked_bare is n = told (one_or_other n number)
    where
      told : (n ≡ number) ⊎ (n ≢ number) → bare_at after n ≡ (n == number || bare_at tree n)
      told (inl same) = ap (bare_at after) same ∙ is ∙ sym (ap (λ (b : Bool). b || bare_at tree n) (eq-eqb n number same))
      told (inr apart) = elsewhere n apart ∙ sym (ap (λ (b : Bool). b || bare_at tree n) (apart_is n number apart))

-- the same nodes, with as many names
bare_alike : (tree after : Tree) → after.nodes ≡ tree.nodes → ((q : ℕ) → names_for after q ≡ names_for tree q) → (n : ℕ) → bare_at after n ≡ bare_at tree n
bare_alike tree after nodes names n = ap (λ (m : map.FinMap nat_cmp Node). is_nameless after n (map.get m n)) nodes ∙ same (map.get tree.nodes n)
  where
    same : (found : Option Node) → is_nameless after n found ≡ is_nameless tree n found
    same None = refl
    same (Some node) = same_names tree after n node (names n)

-- a node in place of one of its kind
bare_put : (tree after : Tree) (number : ℕ) (node new : Node) → map.get tree.nodes number ≡ Some node → new.kind ≡ node.kind → put_node tree number new ≡ after → (n : ℕ) → bare_at after n ≡ bare_at tree n
bare_put tree after number node new there kind gives n =
    let put = put_node tree number new in
    let now : bare_at put number ≡ is_nameless tree number (Some new) = ap (is_nameless put number) (get_inserted nat_cmp_total tree.nodes number new) in
    let was : bare_at tree number ≡ is_nameless tree number (Some node) = ap (is_nameless tree number) there in
    ap (λ (t : Tree). bare_at t n) (sym gives) ∙ stays_bare tree put number (put_alike tree number new) (now ∙ same_bare tree number node new kind ∙ sym was) n

-- ---- what loses a name

-- a file stays, with no name if that was its last
file_left : (tree after : Tree) (number : ℕ) → AreAlikeBut tree after number → bare_at tree number ≡ false → (last : Bool) → bare_at after number ≡ last → (n : ℕ) → bare_at after n ≡ listed_after (cond last (Unname number) Stay) (bare_at tree) n
file_left tree after number h named true is n = marked_bare tree after number h is n
file_left tree after number h named false is n = stays_bare tree after number h (is ∙ sym named) n

bare_unlinked : (tree after : Tree) (link : Link) (number : ℕ) (node : Node) → map.get tree.links link ≡ Some number → map.get tree.nodes number ≡ Some node → Unlinked tree link number node after
    → (n : ℕ) → bare_at after n ≡ listed_after (losing_of number node.kind (link_count node.kind (names_for tree number))) (bare_at tree) n
bare_unlinked tree after link number node named there (inl p) n =
    let lost : map.get after.nodes number ≡ None = ap (λ (t : Tree). map.get t.nodes number) (sym p.gives) ∙ get_removed nat_cmp_total tree.nodes number in
    stays_bare tree after number (unlinked_alike tree after link number node named (inl p)) (ap (is_nameless after number) lost ∙ sym (named_not tree link number named)) n
    ∙ sym (ap (λ (k : Kind). listed_after (losing_of number k (link_count k (names_for tree number))) (bare_at tree) n) (directory_kind node.kind p.kind))
bare_unlinked tree after link number node named there (inr p) n =
    let file = other_kind node.kind p.kind in
    let found : map.get after.nodes number ≡ Some node = ap (λ (t : Tree). map.get t.nodes number) (sym p.gives) ∙ there in
    let names : names_for after number + 1 ≡ names_for tree number = ap (λ (t : Tree). names_for t number + 1) (sym p.gives) ∙ names_for_less tree link number named in
    let is : bare_at after number ≡ (names_for tree number == 1) = ap (is_nameless after number) found ∙ by_kind node.kind file ∙ last_name (names_for tree number) (names_for after number) names in
    file_left tree after number (unlinked_alike tree after link number node named (inr p)) (named_not tree link number named) (names_for tree number == 1) is n
    ∙ sym (ap (λ (k : Kind). listed_after (losing_of number k (link_count k (names_for tree number))) (bare_at tree) n) file)
  where
    by_kind : (k : Kind) → k ≡ File → is_nameless after number (Some (record node { kind = k })) ≡ (names_for after number == 0)
    by_kind File e = refl
    by_kind Directory e = cc

bare_lost : (tree after : Tree) (link : Link) (number : ℕ) (node : Node) → map.get tree.links link ≡ Some number → map.get tree.nodes number ≡ Some node → Unlinked tree link number node after
    → (n : ℕ) → bare_at after n ≡ listed_after (losing tree (Some number)) (bare_at tree) n
bare_lost tree after link number node named there un n =
    bare_unlinked tree after link number node named there un n ∙ sym (ap (λ (o : Option Node). listed_after (losing_node tree number o) (bare_at tree) n) there)

bare_replaced : (tree cleared : Tree) (new : Link) (moved : Node) (target : Option ℕ) → map.get tree.links new ≡ target → replaced tree new moved target ≡ Some cleared → (n : ℕ) → bare_at cleared n ≡ listed_after (losing tree target) (bare_at tree) n
bare_replaced tree cleared new moved None has e n = ap (λ (t : Tree). bare_at t n) (sym (some_same _ _ e))
bare_replaced tree cleared new moved (Some number) has e n =
    let p = replaced_is tree new moved number cleared e in
    bare_lost tree cleared new number p.node has p.there (unlinked_is tree new number p.node cleared p.gone) n

bare_renamed : (tree after : Tree) (old new : Link) → (p : Renamed limits_written tree old new after) → IsRenamed limits_written tree old new p.number p.node after
    → (n : ℕ) → bare_at after n ≡ listed_after (exchanging tree (Some p.number) (map.get tree.links new)) (bare_at tree) n
bare_renamed tree after old new p (inl q) n =
    ap (λ (t : Tree). bare_at t n) (sym q.1) ∙ sym (ap (λ (b : Bool). listed_after (cond b Stay (losing tree (map.get tree.links new))) (bare_at tree) n) q.0)
bare_renamed tree after old new p (inr q) n =
    let m = q.1 in
    bare_alike m.cleared after (ap (λ (t : Tree). t.nodes) (sym m.gives)) (exchanged_names limits_written tree after old new p.number p.node p.named q.0 m) n
    ∙ bare_replaced tree m.cleared new p.node (map.get tree.links new) refl m.cleared_is n
    ∙ sym (ap (λ (b : Bool). listed_after (cond b Stay (losing tree (map.get tree.links new))) (bare_at tree) n) q.0)

-- ---- each change

link_listed : (tree after : Tree) (number : ℕ) → AreAlikeBut tree after number → bare_at after number ≡ false → (was : Bool) → bare_at tree number ≡ was → (n : ℕ) → bare_at after n ≡ listed_after (cond was (Name number) Stay) (bare_at tree) n
link_listed tree after number h is true was n = cleared_bare tree after number h is n
link_listed tree after number h is false was n = stays_bare tree after number h (is ∙ sym was) n

pub listed_on : (change : Change) (tree after : Tree) → apply limits_written change tree ≡ Some after → (n : ℕ) → bare_at after n ≡ listed_after (node_moves_of tree change) (bare_at tree) n
listed_on (Make directory name number kind o) tree after e n =
    let link = link_to directory name in
    let p = made_is limits_written tree link number kind o after e in
    let node = node_with kind o [] in
    let made = put_link (put_node tree number node) link number in
    let named : map.get made.links link ≡ Some number = get_inserted links_total tree.links link number in
    ap (λ (t : Tree). bare_at t n) (sym p.gives) ∙ cleared_bare tree made number (made_alike tree link number node (vacant_absent tree link p.vacant)) (named_not made link number named) n
listed_on (AddLink directory name number) tree after e n =
    let link = link_to directory name in
    let p = linked_is limits_written tree link number after e in
    let made = put_link tree link number in
    let named : map.get made.links link ≡ Some number = get_inserted links_total tree.links link number in
    ap (λ (t : Tree). bare_at t n) (sym p.gives) ∙ link_listed tree made number (linked_alike tree link number (vacant_absent tree link p.vacant)) (named_not made link number named) (bare_at tree number) refl n
listed_on (Remove directory name) tree after e n =
    let link = link_to directory name in
    let p = removed_is tree link after e in
    bare_lost tree after link p.number p.node p.named p.there (unlinked_is tree link p.number p.node after p.gone) n
    ∙ sym (ap (λ (o : Option ℕ). listed_after (losing tree o) (bare_at tree) n) p.named)
listed_on (Rename old_directory old_name new_directory new_name) tree after e n =
    let old = link_to old_directory old_name in
    let new = link_to new_directory new_name in
    let p = renamed_is limits_written tree old new after e in
    bare_renamed tree after old new p p.done n ∙ sym (ap (λ (o : Option ℕ). listed_after (exchanging tree o (map.get tree.links new)) (bare_at tree) n) p.named)
listed_on (Write number offset bytes) tree after e n =
    let p = written_is limits_written tree number offset bytes after e in
    bare_put tree after number p.node (record p.node { bytes = overwritten p.node.bytes offset bytes }) (file_is tree number p.node p.file).0 refl p.gives n
listed_on (SetSize number size) tree after e n =
    let p = cut_is limits_written tree number size after e in
    bare_put tree after number p.node (record p.node { bytes = resized p.node.bytes size }) (file_is tree number p.node p.file).0 refl p.gives n
listed_on (SetAttributes number o) tree after e n =
    let p = owned_is tree number o after e in
    bare_put tree after number p.node (node_with p.node.kind o p.node.bytes) p.there refl p.gives n

-- ---- what is listed once it was changed

same_listed : (moves : NodeMoves) (some other : ℕ → Bool) (n : ℕ) → some n ≡ other n → listed_after moves some n ≡ listed_after moves other n
same_listed Stay some other n e = e
same_listed (Come number replaces) some other n e = ap (λ (b : Bool). not (n == number) && b) e
same_listed (Go number) some other n e = e
same_listed (Name number) some other n e = ap (λ (b : Bool). not (n == number) && b) e
same_listed (Unname number) some other n e = ap (λ (b : Bool). n == number || b) e

both : (a b : Bool) → (a && b) ≡ true → b ≡ true
both true b e = e
both false b e = absurd (true≢false (sym e))

-- no file has lost its last name but the one that is reported
pub only_lost : (moves : NodeMoves) (listed : ℕ → Bool) (n : ℕ) → listed_after moves listed n ≡ true → (listed n ≡ true) ⊎ (lost_of moves ≡ Some n)
only_lost Stay listed n e = inl e
only_lost (Come number replaces) listed n e = inl (both (not (n == number)) (listed n) e)
only_lost (Go number) listed n e = inl e
only_lost (Name number) listed n e = inl (both (not (n == number)) (listed n) e)
only_lost (Unname number) listed n e = told (n == number) refl
  where
    told : (b : Bool) → (n == number) ≡ b → (listed n ≡ true) ⊎ (Some number ≡ Some n)
    told true same = inr (ap (λ (k : ℕ). Some k) (sym (eqb-true n number same)))
    told false apart = inl (sym (ap (λ (b : Bool). b || listed n) apart) ∙ e)

pub listed_on_by : (change : Change) (tree after : Tree) (moves : NodeMoves) (old : ℕ → Bool) → apply limits_written change tree ≡ Some after → moves ≡ node_moves_of tree change → ((n : ℕ) → old n ≡ bare_at tree n) → (n : ℕ) → listed_after moves old n ≡ bare_at after n
listed_on_by change tree after moves old e is tells n =
    same_listed moves old (bare_at tree) n (tells n) ∙ ap (λ (m : NodeMoves). listed_after m (bare_at tree) n) is ∙ sym (listed_on change tree after e n)
