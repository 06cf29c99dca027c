-- The names of a directory of a tree, as a list.
use Rattle.std.proofs.Common.{◌≡◌, ⊎_elim, ℕ, ◌≤◌, ◌==◌, Bool, true, false, cond, if◌then◌else◌, T, List, [], ◌∷◌, length, count_by, None, Some, refl, sym, ap, ◌∙◌, arith}
use Rattle.std.specs.FinMap as fin
use Rattle.std.specs.FinMap.Entries.{below_all, find, is_sorted}
use Rattle.std.specs.Ordering.{eq_by_cmp}
use Rattle.std.specs.Cmp.{eq_by_cmp_equiv}
use Rattle.std.proofs.lemmas.Bool.{eq-eqb, eqb-true, true≢false}
use Rattle.std.proofs.lemmas.List.Sums.{sum_by-cons}
use Rattle.std.proofs.lemmas.Map.Views.{tells_apart}
use Rattle.sn_image.specs.Sound.{AreOnce}
use Rattle.sn_layout_node.specs.Directory.{Link as Name, number_of}
use Rattle.sn_model.specs.Tree.{Tree, link_cmp, link_to, names_in}
use Rattle.sn_model.specs.declared.link.Link.{Link}
use Rattle.sn_model.proofs.LinkLemmas.{exact_links, links_total}
use Rattle.sn_cp_nodes.proofs.EntryLemmas.{find_below, sorted_parts}
use Rattle.sn_cp_nodes.proofs.ElementLemmas.{cases_name, other_name, same_name, times-first, times-none, times-rest, times_named}

abbrev pub as_name : Link × ℕ → Name
as_name e = record { number = e.1; name = e.0.name }

-- those of a directory, of names with their numbers
abbrev pub listed_in : ℕ → List (Link × ℕ) → List Name
listed_in d [] = []
listed_in d (e ∷ es) = cond (e.0.directory == d) (as_name e ∷ listed_in d es) (listed_in d es)

-- those of a tree
abbrev pub listed_of : Tree → ℕ → List Name
listed_of tree d = listed_in d (fin.entries tree.links)

-- ---- one link and another

same_link : (d : ℕ) (name : List ℕ) (link : Link) → link.directory ≡ d → link.name ≡ name → eq_by_cmp link_cmp (link_to d name) link ≡ true
same_link d name link directory named =
    let one : link_to d name ≡ link = λ i. record { directory = sym directory i; name = sym named i } in
    ap (λ (l : Link). eq_by_cmp link_cmp (link_to d name) l) (sym one) ∙ (eq_by_cmp_equiv links_total).refl (link_to d name)

other_link : (d : ℕ) (name : List ℕ) (link : Link) → (link_to d name ≡ link → ⊥) → eq_by_cmp link_cmp (link_to d name) link ≡ false
other_link d name link other = told (eq_by_cmp link_cmp (link_to d name) link) refl
  where
    told : (b : Bool) → eq_by_cmp link_cmp (link_to d name) link ≡ b → b ≡ false
    told true is = absurd (other (tells_apart exact_links (link_to d name) link is))
    told false is = refl

-- ---- which number a name has among them

number_listed : (d : ℕ) (name : List ℕ) (es : List (Link × ℕ)) → number_of name (listed_in d es) ≡ find link_cmp (link_to d name) es
number_listed d name [] = refl
number_listed d name (e ∷ es) = by_directory (e.0.directory == d) refl (number_listed d name es)
  where
    by_directory : (b : Bool) → (e.0.directory == d) ≡ b → number_of name (listed_in d es) ≡ find link_cmp (link_to d name) es
        → number_of name (cond b (as_name e ∷ listed_in d es) (listed_in d es)) ≡ cond (eq_by_cmp link_cmp (link_to d name) e.0) (Some e.1) (find link_cmp (link_to d name) es)
    by_directory true is later = ⊎_elim
        (λ (same : e.0.name ≡ name).
        let first : eq_by_cmp link_cmp (link_to d name) e.0 ≡ true = same_link d name e.0 (eqb-true e.0.directory d is) same in
        ap (λ (c : Bool). if c then Some e.1 else number_of name (listed_in d es)) (same_name e.0.name name same) ∙ sym (ap (λ (c : Bool). cond c (Some e.1) (find link_cmp (link_to d name) es)) first))
        (λ (other : e.0.name ≡ name → ⊥).
        let behind : eq_by_cmp link_cmp (link_to d name) e.0 ≡ false = other_link d name e.0 (λ one. other (ap (λ (l : Link). l.name) (sym one))) in
        ap (λ (c : Bool). if c then Some e.1 else number_of name (listed_in d es)) (other_name e.0.name name other) ∙ later ∙ sym (ap (λ (c : Bool). cond c (Some e.1) (find link_cmp (link_to d name) es)) behind))
        (cases_name e.0.name name)
    by_directory false is later =
        let behind : eq_by_cmp link_cmp (link_to d name) e.0 ≡ false = other_link d name e.0 (λ one. true≢false (sym (eq-eqb e.0.directory d (ap (λ (l : Link). l.directory) (sym one))) ∙ is)) in
        later ∙ sym (ap (λ (c : Bool). cond c (Some e.1) (find link_cmp (link_to d name) es)) behind)

pub number_in : (tree : Tree) (d : ℕ) (name : List ℕ) → number_of name (listed_of tree d) ≡ fin.get tree.links (link_to d name)
number_in tree d name = number_listed d name (fin.entries tree.links) ∙ sym (fin.get-entries tree.links (link_to d name))

-- ---- how many they are

count_listed : (d : ℕ) (es : List (Link × ℕ)) → length (listed_in d es) ≡ count_by (λ (e : Link × ℕ). e.0.directory == d) es
count_listed d [] = refl
count_listed d (e ∷ es) = told (e.0.directory == d) refl (count_listed d es)
  where
    told : (b : Bool) → (e.0.directory == d) ≡ b → length (listed_in d es) ≡ count_by (λ (x : Link × ℕ). x.0.directory == d) es
        → length (cond b (as_name e ∷ listed_in d es) (listed_in d es)) ≡ count_by (λ (x : Link × ℕ). x.0.directory == d) (e ∷ es)
    told true is later = omega (arith, later, sum_by-cons (λ (x : Link × ℕ). cond (x.0.directory == d) 1 0) e es, ap {B = ℕ} (λ (c : Bool). cond c 1 0) is)
    told false is later = omega (arith, later, sum_by-cons (λ (x : Link × ℕ). cond (x.0.directory == d) 1 0) e es, ap {B = ℕ} (λ (c : Bool). cond c 1 0) is)

pub count_in : (tree : Tree) (d : ℕ) → length (listed_of tree d) ≡ names_in tree d
count_in tree d = count_listed d (fin.entries tree.links)

-- ---- none occurs twice

once_listed : (d : ℕ) (es : List (Link × ℕ)) → T (is_sorted link_cmp es) → AreOnce (listed_in d es)
once_listed d [] h name = omega arith
once_listed d (e ∷ es) h name =
    let parts = sorted_parts (below_all link_cmp e.0 es) (is_sorted link_cmp es) h in
    told (e.0.directory == d) refl parts.0 (once_listed d es parts.1 name)
  where
    told : (b : Bool) → (e.0.directory == d) ≡ b → T (below_all link_cmp e.0 es) → times_named name (listed_in d es) ≤ 1 → times_named name (cond b (as_name e ∷ listed_in d es) (listed_in d es)) ≤ 1
    told true is below later = ⊎_elim
        (λ (same : e.0.name ≡ name).
        let one : link_to d name ≡ e.0 = λ i. record { directory = sym (eqb-true e.0.directory d is) i; name = sym same i } in
        let none : number_of name (listed_in d es) ≡ None = number_listed d name es ∙ ap (λ (l : Link). find link_cmp l es) one ∙ find_below link_cmp e.0 es below in
        omega (arith, times-none name (listed_in d es) none, times-first name (as_name e) (listed_in d es) (same_name e.0.name name same)))
        (λ (other : e.0.name ≡ name → ⊥). omega (arith, later, times-rest name (as_name e) (listed_in d es) (other_name e.0.name name other)))
        (cases_name e.0.name name)
    told false is below later = later

pub once_in : (tree : Tree) (d : ℕ) → AreOnce (listed_of tree d)
once_in tree d = once_listed d (fin.entries tree.links) (fin.entries_sorted tree.links)
