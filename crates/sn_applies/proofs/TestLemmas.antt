-- Where a change can be applied is where its tests pass.
use Rattle.std.proofs.Common.{◌≡◌, ◌≢◌, ℕ, ◌-◌, Bool, true, false, cond, ◌&&◌, ◌||◌, ◌==◌, nat_lt, nat_le, [], Option, Some, None, is_some, is_none, refl, sym, ap, ◌∙◌, arith, eqb-true, eq-eqb}
use Rattle.std.specs.FinMap as map
use Rattle.std.proofs.lemmas.Bool.{lt-ltb, true≢false}
use Rattle.sn_limits.specs.declared.kind.Kind.{Kind}
use Rattle.sn_limits.specs.declared.limits.Limits.{Limits}
use Rattle.sn_walk.specs.Views.{is_directory}
use Rattle.sn_model.specs.declared.change.Ownership.{Ownership}
use Rattle.sn_model.specs.declared.link.Link.{Link}
use Rattle.sn_model.specs.Chains.{◌>>=◌, only_if}
use Rattle.sn_model.specs.Changes.{directory_at, file_at, is_vacant, is_free_number, is_ownership, has_room_for, node_with, put_node, put_link, take_link, take_node, unlinked, made, linked, removed, same_kind, replaced}
use Rattle.sn_model.specs.NameTree.{IsHierarchy}
use Rattle.sn_model.specs.Tree.{Node, Tree, names_in, names_for}
use Rattle.sn_model.proofs.ChainLemmas.{and_right, some_same}
use Rattle.sn_model.proofs.KeepLemmas.{none_is}
use Rattle.sn_model.proofs.NameLemmas.{no_names_for}
use Rattle.sn_applies.specs.Tests.{file_names, is_name_in, has_room, can_get, losing, losing_kind, is_kind, gives_way}

-- tests one after the other
pub some_then : {A B : Type 0} (o : Option A) (x : B) → is_some (o >>= (λ _. Some x)) ≡ is_some o
some_then None x = refl
some_then (Some y) x = refl

pub some_only : (b : Bool) → is_some (only_if b) ≡ b
some_only true = refl
some_only false = refl

pub some_if : {B : Type 0} (b : Bool) (o : Option B) → is_some (only_if b >>= (λ _. o)) ≡ (b && is_some o)
some_if true o = refl
some_if false o = refl

-- room for one more name
pub room_tested : (limits : Limits) (tree : Tree) (link : Link) (number links : ℕ) → names_for tree number ≡ links → is_some (has_room_for limits tree link number) ≡ has_room limits tree link.directory 0 links
room_tested limits tree link number links e = told (directory_at tree link.directory)
  where
    none_go : names_in tree link.directory ≡ names_in tree link.directory - 0
    none_go = omega arith

    told : (d : Option Node) → is_some (d >>= (λ _. only_if (nat_lt (names_in tree link.directory) limits.names && nat_lt (names_for tree number) limits.links)))
        ≡ (is_some d && (nat_lt (names_in tree link.directory - 0) limits.names && nat_lt links limits.links))
    told None = refl
    told (Some d) = some_only _ ∙ (λ i. nat_lt (none_go i) limits.names && nat_lt (e i) limits.links)

-- link
pub linked_none : (limits : Limits) (tree : Tree) (link : Link) (number : ℕ) → file_names tree number ≡ None → false ≡ is_some (linked limits tree link number)
unfolding linked
linked_none limits tree link number = told (file_at tree number)
  where
    told : (o : Option Node) → (o >>= (λ _. Some (names_for tree number))) ≡ None → false ≡ is_some (o >>= (λ _. only_if (is_vacant tree link) >>= (λ _. has_room_for limits tree link number >>= (λ _. Some (put_link tree link number)))))
    told None e = refl
    told (Some node) e = cc

pub linked_some : (limits : Limits) (tree : Tree) (link : Link) (number links : ℕ) → file_names tree number ≡ Some links → can_get limits tree link links ≡ is_some (linked limits tree link number)
unfolding linked
linked_some limits tree link number links e = sym (told (file_at tree number) e)
  where
    flat : (a b c : Bool) → ((a && b) && c) ≡ (a && (b && c))
    flat true b c = refl
    flat false b c = refl

    told : (o : Option Node) → (o >>= (λ _. Some (names_for tree number))) ≡ Some links → is_some (o >>= (λ _. only_if (is_vacant tree link) >>= (λ _. has_room_for limits tree link number >>= (λ _. Some (put_link tree link number))))) ≡ can_get limits tree link links
    told None e = cc
    told (Some node) e =
        let counted : names_for tree number ≡ links = some_same _ _ e in
        some_if (is_vacant tree link) (has_room_for limits tree link number >>= (λ _. Some (put_link tree link number)))
        ∙ ap (λ b. is_vacant tree link && b) (some_then (has_room_for limits tree link number) (put_link tree link number) ∙ room_tested limits tree link number links counted)
        ∙ flat (is_name_in link) (is_none (map.get tree.links link)) (has_room limits tree link.directory 0 links)

-- a free number has no names
abbrev is_nameless_at : Tree → ℕ → Bool
is_nameless_at tree number = is_some (file_at tree number) && names_for tree number == 0

free_unnamed : (limits : Limits) (tree : Tree) (number : ℕ) → IsHierarchy tree → is_free_number limits tree number ≡ true → names_for tree number ≡ 0
free_unnamed limits tree number h e = told (is_none (map.get tree.nodes number)) refl (and_right (nat_lt 2 number && nat_le number limits.largest_number) _ e)
  where
    told : (b : Bool) → is_none (map.get tree.nodes number) ≡ b → (is_none (map.get tree.nodes number) || is_nameless_at tree number) ≡ true → names_for tree number ≡ 0
    told true f g = no_names_for tree number (λ link k. true≢false (sym (h.leads link number k) ∙ ap is_some (none_is _ f)))
    told false f g = eqb-true (names_for tree number) 0 (and_right (is_some (file_at tree number)) _ (sym (ap (λ b. b || is_nameless_at tree number) f) ∙ g))

-- make
reorder : (n a o r : Bool) → (((n && a) && o) && r) ≡ (o && (n && (a && r)))
reorder true true true r = refl
reorder true true false r = refl
reorder true false true r = refl
reorder true false false r = refl
reorder false a true r = refl
reorder false a false r = refl

pub made_tested : (limits : Limits) (tree : Tree) (link : Link) (number : ℕ) (kind : Kind) (o : Ownership) → IsHierarchy tree → is_some (made limits tree link number kind o) ≡ (is_free_number limits tree number && (is_ownership kind o && can_get limits tree link 0))
unfolding made
made_tested limits tree link number kind o h =
    some_if (is_free_number limits tree number && is_vacant tree link && is_ownership kind o) (has_room_for limits tree link number >>= (λ _. Some (put_link (put_node tree number (node_with kind o [])) link number)))
    ∙ ap (λ b. (is_free_number limits tree number && is_vacant tree link && is_ownership kind o) && b) (some_then (has_room_for limits tree link number) (put_link (put_node tree number (node_with kind o [])) link number))
    ∙ told (is_free_number limits tree number) refl
  where
    told : (b : Bool) → is_free_number limits tree number ≡ b → ((b && is_vacant tree link && is_ownership kind o) && is_some (has_room_for limits tree link number)) ≡ (b && (is_ownership kind o && can_get limits tree link 0))
    told false e = refl
    told true e =
        ap (λ r. (is_vacant tree link && is_ownership kind o) && r) (room_tested limits tree link number 0 (free_unnamed limits tree number h e))
        ∙ reorder (is_name_in link) (is_none (map.get tree.links link)) (is_ownership kind o) (has_room limits tree link.directory 0 0)

module _ (limits : Limits) (tree : Tree) (link : Link) (number : ℕ) (kind : Kind) (o : Ownership) (h : IsHierarchy tree) where
  pub made_unowned : is_ownership kind o ≡ false → false ≡ is_some (made limits tree link number kind o)
  made_unowned e = sym (made_tested limits tree link number kind o h ∙ ap (λ b. is_free_number limits tree number && (b && can_get limits tree link 0)) e ∙ never (is_free_number limits tree number))
    where
      never : (b : Bool) → (b && false) ≡ false
      never true = refl
      never false = refl

  pub made_taken : is_free_number limits tree number ≡ false → false ≡ is_some (made limits tree link number kind o)
  made_taken e = sym (made_tested limits tree link number kind o h ∙ ap (λ b. b && (is_ownership kind o && can_get limits tree link 0)) e)

  pub made_free : is_ownership kind o ≡ true → is_free_number limits tree number ≡ true → can_get limits tree link 0 ≡ is_some (made limits tree link number kind o)
  made_free e f = sym (made_tested limits tree link number kind o h ∙ (λ i. f i && (e i && can_get limits tree link 0)))

-- a directory without names
without_names : (names : ℕ) (kind : Kind) (after : Tree) → is_some (only_if (names == 0) >>= (λ _. Some after)) ≡ is_some (cond (nat_lt 0 names) None (Some kind))
without_names names kind after = told (names == 0) refl
  where
    told : (b : Bool) → (names == 0) ≡ b → is_some (only_if b >>= (λ _. Some after)) ≡ is_some (cond (nat_lt 0 names) None (Some kind))
    told true e = ap (λ n. is_some (cond (nat_lt 0 n) None (Some kind))) (sym (eqb-true names 0 e))
    told false e =
        let some : names ≢ 0 = λ z. true≢false (sym (eq-eqb names 0 z) ∙ e) in
        ap (λ b. is_some (cond b None (Some kind))) (sym (lt-ltb 0 names (omega (arith, some))))

-- remove
pub unlinked_tested : (tree : Tree) (link : Link) (number : ℕ) (node : Node) → is_some (unlinked tree link number node) ≡ is_some (losing_kind node.kind (names_in tree number))
unlinked_tested tree link number node = told (is_directory node.kind)
  where
    told : (b : Bool) → is_some (cond b (only_if (names_in tree number == 0) >>= (λ _. Some (take_node (take_link tree link) number))) (Some (take_link tree link))) ≡ is_some (cond (b && nat_lt 0 (names_in tree number)) None (Some node.kind))
    told true = without_names (names_in tree number) node.kind (take_node (take_link tree link) number)
    told false = refl

pub removed_none : (tree : Tree) (link : Link) → map.get tree.links link ≡ None → false ≡ is_some (removed tree link)
unfolding removed
removed_none tree link e = sym (ap (λ (o : Option ℕ). is_some (o >>= (λ number. map.get tree.nodes number >>= (λ node. unlinked tree link number node)))) e)

pub removed_some : (tree : Tree) (link : Link) (number : ℕ) → map.get tree.links link ≡ Some number → is_some (losing tree number) ≡ is_some (removed tree link)
unfolding removed
removed_some tree link number e =
    sym (ap (λ (o : Option ℕ). is_some (o >>= (λ number. map.get tree.nodes number >>= (λ node. unlinked tree link number node)))) e
    ∙ told (map.get tree.nodes number))
  where
    told : (o : Option Node) → is_some (o >>= (λ node. unlinked tree link number node)) ≡ is_some (o >>= (λ node. losing_kind node.kind (names_in tree number)))
    told None = refl
    told (Some node) = unlinked_tested tree link number node

-- what has a new name
pub replaced_tested : (tree : Tree) (new : Link) (moved : Node) (target : Option ℕ) → is_some (replaced tree new moved target) ≡ gives_way tree moved.kind target
replaced_tested tree new moved None = refl
replaced_tested tree new moved (Some number) = told (map.get tree.nodes number)
  where
    alike : (a full : Bool) (kind : Kind) → (same_kind moved.kind kind ≡ a) → (a && is_some (cond full None (Some kind))) ≡ is_kind moved.kind (cond full None (Some kind))
    alike true true kind e = refl
    alike false true kind e = refl
    alike true false kind e = sym e
    alike false false kind e = sym e

    told : (o : Option Node) → is_some (o >>= (λ node. only_if (same_kind moved.kind node.kind) >>= (λ _. unlinked tree new number node))) ≡ is_kind moved.kind (o >>= (λ node. losing_kind node.kind (names_in tree number)))
    told None = refl
    told (Some node) =
        some_if (same_kind moved.kind node.kind) (unlinked tree new number node)
        ∙ ap (λ b. same_kind moved.kind node.kind && b) (unlinked_tested tree new number node)
        ∙ alike (same_kind moved.kind node.kind) (is_directory node.kind && nat_lt 0 (names_in tree number)) node.kind refl
