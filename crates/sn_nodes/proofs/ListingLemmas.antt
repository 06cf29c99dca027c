-- The names of a tree in their order: those of one directory stand together, as the directory has them.
use Rattle.std.proofs.Common.{◌≡◌, ℕ, Bool, true, false, cond, ◌==◌, List, [], ◌∷◌, ◌++◌, Option, Some, map, filter, flat_map, refl, sym, ap, subst, ◌∙◌}
use Rattle.std.specs.Prelude.{T}
use Rattle.std.specs.declared.cmp.Ordering.{Ordering}
use Rattle.std.specs.declared.cmp.Ordering.TheVariants.{Less, Equal, Greater}
use Rattle.std.specs.Ordering.{nat_cmp, eq_by_cmp, is_lt, ordering_then}
use Rattle.std.specs.Cmp.{nat_cmp_total, eq_by_cmp_equiv, tied_itself, unsigned_tied}
use Rattle.std.specs.Cmp.Lexicographic.{slice_cmp, nat_list_cmp_total}
use Rattle.std.specs.FinMap as fin
use Rattle.std.specs.FinMap.Entries.{below_all}
use Rattle.std.proofs.lemmas.List.{append-nil, map-append}
use Rattle.std.proofs.lemmas.List.Elements.{filter-append}
use Rattle.std.proofs.lemmas.Map.Lookups.{exact_bytes}
use Rattle.std.proofs.lemmas.Map.Views.{tells_apart}
use Rattle.std.proofs.lemmas.Map.Lookups.{exact_unsigned}
use Rattle.sn_model.specs.declared.link.Link.{Link}
use Rattle.sn_model.specs.Tree.{link_cmp, link_to}
use Rattle.sn_model.proofs.LinkLemmas.{exact_links, links_total}
use Rattle.sn_maps.proofs.KeyLemmas.{entries-from_entries, joined}
use Rattle.sn_nodes.specs.Names.{Named, all_links, links_from, names_at}
use Rattle.sn_nodes.proofs.NamesLemmas.{apart, both}

is_less : (r : Ordering) → T (is_lt r) → r ≡ Less
is_less Less p = refl
is_less Equal p = absurd p
is_less Greater p = absurd p

-- ---- all names are in order
abbrev in_directory : ℕ → List (List ℕ × ℕ) → List (Link × ℕ)
in_directory d ns = map (λ n. (link_to d n.0, n.1)) ns

below_append : {K X : Type 0} (R : K → K → Ordering) (k : K) (es fs : List (K × X)) → T (below_all R k es) → T (below_all R k fs) → T (below_all R k (es ++ fs))
below_append R k [] fs h g = g
below_append R k (e ∷ es) fs h g = let p = both _ _ h in joined _ _ p.0 (below_append R k es fs p.1 g)

below_here : (d : ℕ) (n : List ℕ) (ns : List (List ℕ × ℕ)) → T (below_all (slice_cmp nat_cmp) n ns) → T (below_all link_cmp (link_to d n) (in_directory d ns))
below_here d n [] h = tt
below_here d n (m ∷ ns) h =
    let p = both _ _ h in
    joined _ _ (subst (λ r. T (is_lt (ordering_then r (slice_cmp nat_cmp n m.0)))) (sym (tied_itself nat_cmp_total d)) p.0) (below_here d n ns p.1)

below_next : (d : ℕ) (n : List ℕ) (e : ℕ) (ns : List (List ℕ × ℕ)) → T (is_lt (nat_cmp d e)) → T (below_all link_cmp (link_to d n) (in_directory e ns))
below_next d n e [] h = tt
below_next d n e (m ∷ ns) h = joined _ _ (subst (λ r. T (is_lt (ordering_then r (slice_cmp nat_cmp n m.0)))) (sym (is_less _ h)) tt) (below_next d n e ns h)

below_later : (d : ℕ) (n : List ℕ) (es : List (ℕ × Named)) → T (below_all nat_cmp d es) → T (below_all link_cmp (link_to d n) (flat_map links_from es))
below_later d n [] h = tt
below_later d n (e ∷ es) h =
    let p = both _ _ h in
    below_append link_cmp (link_to d n) (links_from e) (flat_map links_from es) (below_next d n e.0 (fin.entries e.1) p.0) (below_later d n es p.1)

sorted_here : (d : ℕ) (ns : List (List ℕ × ℕ)) (rest : List (Link × ℕ)) → T (fin.is_sorted (slice_cmp nat_cmp) ns) → ((n : List ℕ) → T (below_all link_cmp (link_to d n) rest)) → T (fin.is_sorted link_cmp rest)
    → T (fin.is_sorted link_cmp (in_directory d ns ++ rest))
sorted_here d [] rest h low s = s
sorted_here d (n ∷ ns) rest h low s =
    let p = both _ _ h in
    joined _ _ (below_append link_cmp (link_to d n.0) (in_directory d ns) rest (below_here d n.0 ns p.0) (low n.0)) (sorted_here d ns rest p.1 low s)

sorted_links : (es : List (ℕ × Named)) → T (fin.is_sorted nat_cmp es) → T (fin.is_sorted link_cmp (flat_map links_from es))
sorted_links [] h = tt
sorted_links (e ∷ es) h =
    let p = both _ _ h in
    sorted_here e.0 (fin.entries e.1) (flat_map links_from es) (fin.entries_sorted e.1) (λ n. below_later e.0 n es p.0) (sorted_links es p.1)

-- ---- the names of one directory among them
abbrev listing : ℕ → List (Link × ℕ) → List (List ℕ)
listing d links = map (λ e. e.0.name) (filter (λ e. e.0.directory == d) links)

listing-append : (d : ℕ) (xs ys : List (Link × ℕ)) → listing d (xs ++ ys) ≡ listing d xs ++ listing d ys
listing-append d xs ys = ap (map (λ (e : Link × ℕ). e.0.name)) (filter-append (λ (e : Link × ℕ). e.0.directory == d) xs ys) ∙ map-append (λ (e : Link × ℕ). e.0.name) _ _

module _ (d e : ℕ) where
  list_here : (e == d) ≡ true → (ns : List (List ℕ × ℕ)) → listing d (in_directory e ns) ≡ map (λ n. n.0) ns
  list_here t [] = refl
  list_here t (n ∷ ns) = rw t (ap (λ xs. n.0 ∷ xs) (list_here t ns))

  list_away : (e == d) ≡ false → (ns : List (List ℕ × ℕ)) → listing d (in_directory e ns) ≡ []
  list_away t [] = refl
  list_away t (n ∷ ns) = rw t (list_away t ns)

-- tests for one number
told_same : (d e : ℕ) → (e == d) ≡ eq_by_cmp nat_cmp d e
told_same d e = sym (unsigned_tied e d) ∙ (eq_by_cmp_equiv nat_cmp_total).symm e d

list_later : (d : ℕ) (es : List (ℕ × Named)) → T (below_all nat_cmp d es) → listing d (flat_map links_from es) ≡ []
list_later d [] h = refl
list_later d (e ∷ es) h =
    let p = both _ _ h in
    listing-append d (links_from e) (flat_map links_from es) ∙ ap (λ xs. xs ++ listing d (flat_map links_from es)) (list_away d e.0 (told_same d e.0 ∙ apart _ p.0) (fin.entries e.1)) ∙ list_later d es p.1

-- no names have no keys
pub keys-empty : fin.keys (fin.empty {X = ℕ} {R = slice_cmp nat_cmp}) ≡ []
keys-empty = ap (map (λ (n : List ℕ × ℕ). n.0)) (entries-from_entries nat_list_cmp_total exact_bytes [] tt)

list_links : (d : ℕ) (es : List (ℕ × Named)) → T (fin.is_sorted nat_cmp es) → listing d (flat_map links_from es) ≡ fin.keys (names_at (fin.find nat_cmp d es))
list_links d [] h = sym keys-empty
list_links d (e ∷ es) h = listing-append d (links_from e) (flat_map links_from es) ∙ told (list_links d es (both _ _ h).1) (eq_by_cmp nat_cmp d e.0) refl
  where
    told : listing d (flat_map links_from es) ≡ fin.keys (names_at (fin.find nat_cmp d es)) → (b : Bool) → eq_by_cmp nat_cmp d e.0 ≡ b → listing d (links_from e) ++ listing d (flat_map links_from es) ≡ fin.keys (names_at (cond b (Some e.1) (fin.find nat_cmp d es)))
    told again true t =
        let none : listing d (flat_map links_from es) ≡ [] = list_later d es (subst (λ (k : ℕ). T (below_all nat_cmp k es)) (sym (tells_apart exact_unsigned d e.0 t)) (both _ _ h).0) in
        ap (λ xs. listing d (links_from e) ++ xs) none ∙ append-nil _ ∙ list_here d e.0 (told_same d e.0 ∙ t) (fin.entries e.1)
    told again false t = ap (λ xs. xs ++ listing d (flat_map links_from es)) (list_away d e.0 (told_same d e.0 ∙ t) (fin.entries e.1)) ∙ again

-- what a tree lists of a directory is what the directory has
pub names-all_links : (m : fin.FinMap nat_cmp Named) (d : ℕ) → map (λ e. e.0.name) (filter (λ e. e.0.directory == d) (fin.entries (all_links m))) ≡ fin.keys (names_at (fin.get m d))
names-all_links m d =
    ap (listing d) (entries-from_entries links_total exact_links (flat_map links_from (fin.entries m)) (sorted_links (fin.entries m) (fin.entries_sorted m)))
    ∙ list_links d (fin.entries m) (fin.entries_sorted m) ∙ ap (λ (o : Option Named). fin.keys (names_at o)) (sym (fin.get-entries m d))
