-- The names of a tree, laid out by directory: what the layout has at a name, and what a change of one directory's names makes of it.
use Rattle.std.proofs.Common.{◌≡◌, ℕ, Bool, true, false, cond, ◌&&◌, List, [], ◌∷◌, ◌++◌, Option, Some, None, map, flat_map, refl, sym, ap, ◌∙◌}
use Rattle.std.specs.Prelude.{T}
use Rattle.std.specs.declared.cmp.Ordering.{Ordering}
use Rattle.std.specs.declared.cmp.Ordering.TheVariants.{Less, Equal, Greater}
use Rattle.std.specs.Option.{option_or}
use Rattle.std.specs.Ordering.{nat_cmp, eq_by_cmp, is_eq, is_lt, ordering_then}
use Rattle.std.specs.Cmp.{nat_cmp_total}
use Rattle.std.specs.Cmp.Lexicographic.{slice_cmp, nat_list_cmp_total}
use Rattle.std.specs.Map.{lookup}
use Rattle.std.specs.BTreeMap.{is_at}
use Rattle.std.specs.FinMap as fin
use Rattle.std.specs.FinMap.Entries.{below_all}
use Rattle.std.proofs.lemmas.Bool.{true≢false}
use Rattle.std.proofs.lemmas.Map.Lookups.{exact_unsigned}
use Rattle.std.proofs.lemmas.Map.Views.{tells_apart}
use Rattle.sn_model.specs.declared.link.Link.{Link}
use Rattle.sn_model.specs.Tree.{link_cmp, link_to}
use Rattle.sn_model.proofs.LinkLemmas.{exact_links, links_total}
use Rattle.sn_maps.specs.Maps.{seen_by}
use Rattle.sn_nodes.specs.Names.{Named, all_links, links_from, names_at}
use Rattle.sn_maps.proofs.MapLemmas.{get-seen_plain, insert-seen_by, updated-seen_by, same-updated}

-- links in one directory are told apart by their names, and from those in another by the directory
here : (q : Link) (d : ℕ) (n : List ℕ) → eq_by_cmp nat_cmp q.directory d ≡ true → eq_by_cmp link_cmp q (link_to d n) ≡ eq_by_cmp (slice_cmp nat_cmp) q.name n
here q d n e = told (nat_cmp q.directory d) e
  where
    told : (r : Ordering) → is_eq r ≡ true → is_eq (ordering_then r (slice_cmp nat_cmp q.name n)) ≡ is_eq (slice_cmp nat_cmp q.name n)
    told Less e = absurd (true≢false (sym e))
    told Equal e = refl
    told Greater e = absurd (true≢false (sym e))

away : (q : Link) (d : ℕ) (n : List ℕ) → eq_by_cmp nat_cmp q.directory d ≡ false → eq_by_cmp link_cmp q (link_to d n) ≡ false
away q d n e = told (nat_cmp q.directory d) e
  where
    told : (r : Ordering) → is_eq r ≡ false → is_eq (ordering_then r (slice_cmp nat_cmp q.name n)) ≡ false
    told Less e = refl
    told Equal e = absurd (true≢false e)
    told Greater e = refl

or_cond : (b : Bool) (x : ℕ) (o p : Option ℕ) → cond b (Some x) (option_or o p) ≡ option_or (cond b (Some x) o) p
or_cond true x o p = refl
or_cond false x o p = refl

or_none : (o : Option ℕ) → option_or o None ≡ o
or_none None = refl
or_none (Some x) = refl

-- a search through the names of one directory, and what comes after them
module _ (q : Link) (d : ℕ) (rest : List (Link × ℕ)) where
  abbrev before : List (List ℕ × ℕ) → List (Link × ℕ)
  before ns = map (λ n. (link_to d n.0, n.1)) ns ++ rest

  found_here : eq_by_cmp nat_cmp q.directory d ≡ true → (ns : List (List ℕ × ℕ)) → fin.find link_cmp q (before ns) ≡ option_or (fin.find (slice_cmp nat_cmp) q.name ns) (fin.find link_cmp q rest)
  found_here e [] = refl
  found_here e (n ∷ ns) =
      ap (λ b. cond b (Some n.1) (fin.find link_cmp q (before ns))) (here q d n.0 e)
      ∙ ap (cond (eq_by_cmp (slice_cmp nat_cmp) q.name n.0) (Some n.1)) (found_here e ns)
      ∙ or_cond (eq_by_cmp (slice_cmp nat_cmp) q.name n.0) n.1 _ _

  found_away : eq_by_cmp nat_cmp q.directory d ≡ false → (ns : List (List ℕ × ℕ)) → fin.find link_cmp q (before ns) ≡ fin.find link_cmp q rest
  found_away e [] = refl
  found_away e (n ∷ ns) = ap (λ b. cond b (Some n.1) (fin.find link_cmp q (before ns))) (away q d n.0 e) ∙ found_away e ns

pub both : (a b : Bool) → T (a && b) → T a × T b
both true b p = (tt, p)
both false b p = absurd p

pub apart : (r : Ordering) → T (is_lt r) → is_eq r ≡ false
apart Less p = refl
apart Equal p = absurd p
apart Greater p = absurd p

-- a directory isn't listed twice
listed_once : (d : ℕ) (es : List (ℕ × Named)) → T (below_all nat_cmp d es) → fin.find nat_cmp d es ≡ None
listed_once d [] h = refl
listed_once d (e ∷ es) h = let p = both _ _ h in ap (λ b. cond b (Some e.1) (fin.find nat_cmp d es)) (apart _ p.0) ∙ listed_once d es p.1

find_links : (es : List (ℕ × Named)) → T (fin.is_sorted nat_cmp es) → (q : Link) → fin.find link_cmp q (flat_map links_from es) ≡ fin.get (names_at (fin.find nat_cmp q.directory es)) q.name
find_links [] h q = sym (fin.get-empty (slice_cmp nat_cmp) q.name)
find_links (e ∷ es) h q = told (find_links es (both _ _ h).1 q) (eq_by_cmp nat_cmp q.directory e.0) refl
  where
    told : fin.find link_cmp q (flat_map links_from es) ≡ fin.get (names_at (fin.find nat_cmp q.directory es)) q.name → (b : Bool) → eq_by_cmp nat_cmp q.directory e.0 ≡ b → fin.find link_cmp q (links_from e ++ flat_map links_from es) ≡ fin.get (names_at (cond b (Some e.1) (fin.find nat_cmp q.directory es))) q.name
    told again true t =
        let once : fin.find nat_cmp q.directory es ≡ None = ap (λ d. fin.find nat_cmp d es) (tells_apart exact_unsigned q.directory e.0 t) ∙ listed_once e.0 es (both _ _ h).0 in
        let none : fin.find link_cmp q (flat_map links_from es) ≡ None = again ∙ ap (λ o. fin.get (names_at o) q.name) once ∙ fin.get-empty (slice_cmp nat_cmp) q.name in
        found_here q e.0 (flat_map links_from es) t (fin.entries e.1) ∙ ap (option_or (fin.find (slice_cmp nat_cmp) q.name (fin.entries e.1))) none ∙ or_none _ ∙ sym (fin.get-entries e.1 q.name)
    told again false t = found_away q e.0 (flat_map links_from es) t (fin.entries e.1) ∙ again

-- a tree has a name where its directory has it
pub get-all_links : (m : fin.FinMap nat_cmp Named) (q : Link) → fin.get (all_links m) q ≡ fin.get (names_at (fin.get m q.directory)) q.name
get-all_links m q = fin.get-from_entries links_total _ q ∙ find_links (fin.entries m) (fin.entries_sorted m) q ∙ ap (λ o. fin.get (names_at o) q.name) (sym (fin.get-entries m q.directory))

pub all_links-empty : all_links fin.empty ≡ fin.empty
all_links-empty = fin.same_map links_total exact_links _ _ (λ q.
    get-all_links fin.empty q ∙ ap (λ o. fin.get (names_at o) q.name) (fin.get-empty nat_cmp q.directory) ∙ fin.get-empty (slice_cmp nat_cmp) q.name ∙ sym (fin.get-empty link_cmp q))

-- one name of one directory is changed
module _ (m : fin.FinMap nat_cmp Named) (d : ℕ) (name : List ℕ) (was : Named) (there : names_at (fin.get m d) ≡ was) where
  was_here : (q : Link) → eq_by_cmp nat_cmp q.directory d ≡ true → fin.get (all_links m) q ≡ fin.get was q.name
  was_here q t = get-all_links m q ∙ ap (λ k. fin.get (names_at (fin.get m k)) q.name) (tells_apart exact_unsigned q.directory d t) ∙ ap (λ (n : Named). fin.get n q.name) there

  changed : (new : Named) (w : Option ℕ) → ((n : List ℕ) → fin.get new n ≡ cond (eq_by_cmp (slice_cmp nat_cmp) n name) w (fin.get was n)) → (q : Link) → fin.get (all_links (fin.insert m d new)) q ≡ cond (eq_by_cmp link_cmp q (link_to d name)) w (fin.get (all_links m) q)
  changed new w is q = get-all_links (fin.insert m d new) q ∙ ap (λ o. fin.get (names_at o) q.name) (fin.get-insert nat_cmp_total m d new q.directory) ∙ told (eq_by_cmp nat_cmp q.directory d) refl
    where
      told : (b : Bool) → eq_by_cmp nat_cmp q.directory d ≡ b → fin.get (names_at (cond b (Some new) (fin.get m q.directory))) q.name ≡ cond (eq_by_cmp link_cmp q (link_to d name)) w (fin.get (all_links m) q)
      told true t = is q.name ∙ ap (cond (eq_by_cmp (slice_cmp nat_cmp) q.name name) w) (sym (was_here q t)) ∙ ap (λ b. cond b w (fin.get (all_links m) q)) (sym (here q d name t))
      told false t = sym (get-all_links m q) ∙ ap (λ b. cond b w (fin.get (all_links m) q)) (sym (away q d name t))

  all_links-insert : (v : ℕ) → all_links (fin.insert m d (fin.insert was name v)) ≡ fin.insert (all_links m) (link_to d name) v
  all_links-insert v = fin.same_map links_total exact_links _ _ (λ q. changed (fin.insert was name v) (Some v) (fin.get-insert nat_list_cmp_total was name v) q ∙ sym (fin.get-insert links_total (all_links m) (link_to d name) v q))

  all_links-remove : all_links (fin.insert m d (fin.remove was name)) ≡ fin.remove (all_links m) (link_to d name)
  all_links-remove = fin.same_map links_total exact_links _ _ (λ q. changed (fin.remove was name) None (fin.get-remove nat_list_cmp_total was name) q ∙ sym (fin.get-remove links_total (all_links m) (link_to d name) q))

-- a directory without names needn't be there
pub all_links-forget : (m : fin.FinMap nat_cmp Named) (d : ℕ) → names_at (fin.get m d) ≡ fin.empty → all_links (fin.remove m d) ≡ all_links m
all_links-forget m d none = fin.same_map links_total exact_links _ _ (λ q. get-all_links (fin.remove m d) q ∙ ap (λ o. fin.get (names_at o) q.name) (fin.get-remove nat_cmp_total m d q.directory) ∙ told q (eq_by_cmp nat_cmp q.directory d) refl)
  where
    told : (q : Link) (b : Bool) → eq_by_cmp nat_cmp q.directory d ≡ b → fin.get (names_at (cond b None (fin.get m q.directory))) q.name ≡ fin.get (all_links m) q
    told q true t = sym (was_here m d q.name fin.empty none q t)
    told q false t = sym (get-all_links m q)

-- the same over the maps in memory
module _ (es : List (ℕ × Named)) where
  abbrev listed : fin.FinMap nat_cmp Named
  listed = seen_by nat_cmp (λ (names : Named). names) es

  pub names_there : (d : ℕ) (was : Option Named) → lookup (is_at (nat_cmp d)) es ≡ was → names_at (fin.get listed d) ≡ names_at was
  names_there d was there = ap names_at (get-seen_plain nat_cmp nat_cmp_total es d ∙ there)

  pub get_name : (d : ℕ) (was : Option Named) → lookup (is_at (nat_cmp d)) es ≡ was → (name : List ℕ) → fin.get (all_links listed) (link_to d name) ≡ fin.get (names_at was) name
  get_name d was there name = get-all_links listed (link_to d name) ∙ ap (λ (n : Named). fin.get n name) (names_there d was there)

module _ (es fs : List (ℕ × Named)) (d : ℕ) (new : Named) (h : (q : ℕ) → lookup (is_at (nat_cmp q)) fs ≡ cond (is_at (nat_cmp d) q) (Some new) (lookup (is_at (nat_cmp q)) es)) where
  listed_new : (is : Named) → new ≡ is → listed fs ≡ fin.insert (listed es) d is
  listed_new is e = insert-seen_by nat_cmp (λ (names : Named). names) nat_cmp_total exact_unsigned es fs d new h ∙ ap (fin.insert (listed es) d) e

  pub put_name : (was : Named) → names_at (fin.get (listed es) d) ≡ was → (name : List ℕ) (v : ℕ) → new ≡ fin.insert was name v → all_links (listed fs) ≡ fin.insert (all_links (listed es)) (link_to d name) v
  put_name was there name v e = ap all_links (listed_new _ e) ∙ all_links-insert (listed es) d name was there v

  pub take_name : (was : Named) → names_at (fin.get (listed es) d) ≡ was → (name : List ℕ) → new ≡ fin.remove was name → all_links (listed fs) ≡ fin.remove (all_links (listed es)) (link_to d name)
  take_name was there name e = ap all_links (listed_new _ e) ∙ all_links-remove (listed es) d name was there

  -- names that stay as they were
  pub keep_names : (old : Named) → lookup (is_at (nat_cmp d)) es ≡ Some old → new ≡ old → listed fs ≡ listed es
  keep_names old there e =
      updated-seen_by nat_cmp (λ (names : Named). names) nat_cmp_total exact_unsigned es fs d old new (λ (n : Named). n) there (sym e) h
      ∙ same-updated nat_cmp_total exact_unsigned _ _ (λ (n : Named). n) (λ _. refl)
