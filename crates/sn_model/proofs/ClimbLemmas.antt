-- From a directory up to the root: the way is no longer than the list of names.
use Rattle.std.proofs.Common.{◌≡◌, ◌≢◌, ℕ, zero, suc, ◌-◌, ◌≤◌, Bool, true, false, cond, ◌||◌, ◌==◌, List, [], ◌∷◌, length, filter, flat_map, Option, Some, is_some, refl, sym, ap, subst, ◌∙◌, arith, eqb-true, eq-eqb}
use Rattle.std.specs.Prelude.{◌↔◌}
use Rattle.std.specs.List.{list_any}
use Rattle.std.specs.FinMap as map
use Rattle.sn_limits.specs.declared.kind.Kind.TheVariants.{Directory}
use Rattle.sn_model.specs.declared.link.Link.{Link}
use Rattle.sn_model.specs.Tree.{Tree, link_to, link_cmp}
use Rattle.sn_model.specs.Changes.{chain_up, is_at_or_below, take_link}
use Rattle.sn_model.specs.NameTree.{HasKind, IsHierarchy, Reaches, root, below}
use Rattle.sn_model.specs.ChangeLaws.{IsBelow, here, under}
use Rattle.sn_model.proofs.LinkLemmas.{exact_links, links_total}
use Rattle.sn_model.proofs.ChainLemmas.{or_right, some_same, some_none}
use Rattle.sn_model.proofs.EntryLemmas.{any_entry, from_entry}
use Rattle.sn_model.proofs.MapLemmas.{get_left, get_was}

-- the names from a directory up to another
abbrev pub Climbs : Tree → ℕ → List Link → ℕ → Type 0
Climbs tree top [] d = d ≡ top
Climbs tree top (l ∷ ls) d = (map.get tree.links l ≡ Some d) × Climbs tree top ls l.directory

climb_of : (tree : Tree) (top d : ℕ) → IsBelow tree top d → (ls : List Link) × Climbs tree top ls d
climb_of tree top d here = ([], refl)
climb_of tree top d (under link n b e) = let c = climb_of tree top link.directory b in (link ∷ c.0, (e, c.1))

pub climb_root : (tree : Tree) (d : ℕ) → Reaches tree d → (ls : List Link) × Climbs tree 2 ls d
climb_root tree d root = ([], refl)
climb_root tree d (below p name n r e) = let c = climb_root tree p r in (link_to p name ∷ c.0, (e, c.1))

-- what the way up needs
pub record IsClimbed (tree : Tree) : Type 0 where
  pub unnamed : (link : Link) → map.get tree.links link ≢ Some 2
  pub held : (link : Link) (number : ℕ) → map.get tree.links link ≡ Some number → HasKind tree link.directory Directory
  pub once : (a b : Link) (number : ℕ) → HasKind tree number Directory → map.get tree.links a ≡ Some number → map.get tree.links b ≡ Some number → a ≡ b

pub climbed : (tree : Tree) → IsHierarchy tree → IsClimbed tree
climbed tree h = record { unnamed = h.unnamed; held = h.held; once = h.once }

climbed_left : (tree : Tree) (link : Link) → IsClimbed tree → IsClimbed (take_link tree link)
climbed_left tree link h = record {
  unnamed = λ l e. h.unnamed l (get_was links_total exact_links tree.links link l 2 e).1;
  held = λ l n e. h.held l n (get_was links_total exact_links tree.links link l n e).1;
  once = λ a b n k e f. h.once a b n k (get_was links_total exact_links tree.links link a n e).1 (get_was links_total exact_links tree.links link b n f).1;
}

-- no way up is longer than the one to the root
no_longer : (tree : Tree) → IsClimbed tree → (top d : ℕ) (ls ks : List Link) → HasKind tree d Directory → Climbs tree top ls d → Climbs tree 2 ks d → length ls ≤ length ks
no_longer tree h top d [] ks kind c e = omega arith
no_longer tree h top d (l ∷ ls) [] kind c e = absurd (h.unnamed l (c.0 ∙ ap (λ n. Some n) e))
no_longer tree h top d (l ∷ ls) (k ∷ ks) kind c e =
    let same : k ≡ l = h.once k l d kind e.0 c.0 in
    let rest = no_longer tree h top l.directory ls ks (h.held l d c.0) c.1 (subst (λ (x : Link). Climbs tree 2 ks x.directory) same e.1) in
    let counted : length ls ≤ length ks = rest in
    omega arith

abbrev Avoids : Link → List Link → Type 0
Avoids k [] = Unit {0}
Avoids k (l ∷ ls) = (l ≢ k) × Avoids k ls

avoided : (tree : Tree) → IsClimbed tree → (k : Link) (d : ℕ) (all : List Link) → HasKind tree d Directory → Climbs tree 2 (k ∷ all) d → (ls : List Link) (x : ℕ) → length ls ≤ length all → Climbs tree 2 ls x → Avoids k ls
avoided tree h k d all kind c [] x few e = tt
avoided tree h k d all kind c (l ∷ ls) x few e = (λ same. apart same, avoided tree h k d all kind c ls l.directory (omega arith) e.1)
  where
    apart : l ≡ k → ⊥
    apart same =
        let both : Some x ≡ Some d = sym e.0 ∙ ap (map.get tree.links) same ∙ c.0 in
        let longer = no_longer tree h 2 d (k ∷ all) (l ∷ ls) kind c (subst (Climbs tree 2 (l ∷ ls)) (some_same _ _ both) e) in
        let counted : suc (length all) ≤ suc (length ls) = longer in
        let fewer : suc (length ls) ≤ length all = few in
        absurd (omega arith)

climbs_left : (tree : Tree) (k : Link) (ls : List Link) (d : ℕ) → Avoids k ls → Climbs tree 2 ls d → Climbs (take_link tree k) 2 ls d
climbs_left tree k [] d a e = e
climbs_left tree k (l ∷ ls) d a e = (get_left links_total exact_links tree.links k l a.0 ∙ e.0, climbs_left tree k ls l.directory a.1 e.1)

one_less : (t : ℕ) (b : Bool) (n k : ℕ) → t ≡ cond b (n - 1) n → b ≡ true → k ≤ t → (n ≡ 0 → ⊥) → suc k ≤ n
one_less t true n k e f h some = let is : t ≡ n - 1 = e in omega arith
one_less t false n k e f h some = cc

some_is : {A : Type 0} (o : Option A) (x : A) → o ≡ Some x → is_some o ≡ true
some_is o x e = ap is_some e

not_empty : (m : map.FinMap link_cmp ℕ) (k : Link) (v : ℕ) → map.get m k ≡ Some v → map.len m ≡ 0 → ⊥
not_empty m k v e z = some_none _ _ e (ap (λ (n : map.FinMap link_cmp ℕ). map.get n k) (map.empty_of_len m z) ∙ map.get-empty link_cmp k)

pub climb_fits : (tree : Tree) → IsClimbed tree → (ks : List Link) (d : ℕ) → HasKind tree d Directory → Climbs tree 2 ks d → length ks ≤ map.len tree.links
climb_fits tree h [] d kind e = omega arith
climb_fits tree h (k ∷ ks) d kind e =
    let away = avoided tree h k d ks kind e ks k.directory (omega arith) e.1 in
    let rest = climb_fits (take_link tree k) (climbed_left tree k h) ks k.directory (h.held k d e.0) (climbs_left tree k ks k.directory away e.1) in
    one_less (map.len (map.remove tree.links k)) (is_some (map.get tree.links k)) (map.len tree.links) (length ks) (map.len-remove links_total tree.links k) (some_is _ d e.0) rest (not_empty tree.links k d e.0)

-- a way up that is short enough is in the chain
in_chain : (tree : Tree) (top : ℕ) (ls : List Link) (d more : ℕ) → Climbs tree top ls d → length ls ≤ more → list_any (λ x. x == top) (chain_up tree more d) ≡ true
unfolding chain_up
in_chain tree top [] d zero c few = ap (λ b. b || false) (eq-eqb d top c)
in_chain tree top [] d (suc more) c few = ap (λ b. b || list_any (λ x. x == top) (flat_map (λ e. chain_up tree more e.0.directory) (filter (λ e. e.1 == d) (map.entries tree.links)))) (eq-eqb d top c)
in_chain tree top (l ∷ ls) d zero c few = absurd (let over : suc (length ls) ≤ 0 = few in omega arith)
in_chain tree top (l ∷ ls) d (suc more) c few =
    let rest = in_chain tree top ls l.directory more c.1 (let over : suc (length ls) ≤ suc more = few in omega arith) in
    or_right (d == top) _ (any_entry links_total exact_links (λ x. x == top) (λ e. chain_up tree more e.0.directory) (λ e. e.1 == d) tree.links l d c.0 (eq-eqb d d refl) rest)

-- In a hierarchy the test finds every directory above.
pub below_found : (tree : Tree) → IsHierarchy tree → (top d : ℕ) → HasKind tree d Directory → IsBelow tree top d → is_at_or_below tree top d ≡ true
below_found tree h top d kind b =
    let c = climb_of tree top d b in
    let r = climb_root tree d (h.reached d kind) in
    let short : length c.0 ≤ length r.0 = no_longer tree (climbed tree h) top d c.0 r.0 kind c.1 r.1 in
    let fits : length r.0 ≤ map.len tree.links = climb_fits tree (climbed tree h) r.0 d kind r.1 in
    in_chain tree top c.0 d (map.len tree.links) c.1 (omega arith)

-- and finds nothing else, hierarchy or not
found_below : (tree : Tree) (top more d : ℕ) → list_any (λ x. x == top) (chain_up tree more d) ≡ true → IsBelow tree top d
unfolding chain_up
found_below tree top zero d e = subst (λ (j : ℕ). IsBelow tree j d) (eqb-true d top (or_false (d == top) e)) here
  where
    or_false : (b : Bool) → (b || false) ≡ true → b ≡ true
    or_false true e = refl
    or_false false e = e
found_below tree top (suc more) d e = told (found_below tree top more) (d == top) refl
  where
    told : ((x : ℕ) → list_any (λ y. y == top) (chain_up tree more x) ≡ true → IsBelow tree top x) → (b : Bool) → (d == top) ≡ b → IsBelow tree top d
    told again true t = subst (λ (j : ℕ). IsBelow tree j d) (eqb-true d top t) here
    told again false t =
        let rest = sym (ap (λ b. b || list_any (λ x. x == top) (flat_map (λ x. chain_up tree more x.0.directory) (filter (λ x. x.1 == d) (map.entries tree.links)))) t) ∙ e in
        let r = from_entry links_total exact_links (λ x. x == top) (λ x. chain_up tree more x.0.directory) (λ x. x.1 == d) tree.links rest in
        under r.0 d (again r.0.directory r.4) (r.2 ∙ ap (λ (j : ℕ). Some j) (eqb-true r.1 d r.3))

pub test_is_below : (tree : Tree) → IsHierarchy tree → (top d : ℕ) → HasKind tree d Directory → (is_at_or_below tree top d ≡ true) ↔ IsBelow tree top d
test_is_below tree h top d kind = (found_below tree top (map.len tree.links) d, below_found tree h top d kind)
