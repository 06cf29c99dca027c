-- The names of a directory in order: those that were read, and those of the tree.
use Rattle.std.proofs.Common.{◌≡◌, ◌≢◌, ℕ, zero, suc, ◌+◌, ◌==◌, Bool, true, false, cond, List, [], ◌∷◌, map, Option, Some, None, Contains, refl, sym, ap, subst, ◌∙◌, arith}
use Rattle.std.specs.Prelude.{T, filter, slice_index_or}
use Rattle.std.specs.declared.cmp.Ordering.{Ordering}
use Rattle.std.specs.declared.cmp.Ordering.TheVariants.{Less, Equal, Greater}
use Rattle.std.specs.Cmp.{tied_itself, nat_cmp_total}
use Rattle.std.specs.Cmp.Lexicographic.{slice_cmp}
use Rattle.std.specs.FinMap as fin
use Rattle.std.specs.FinMap.Entries.{find, put, is_sorted, is_sorted-put, is_sorted-where_key, find-where_key, by_order}
use Rattle.std.specs.List.Sorted.{IsPermutation, IsSorted}
use Rattle.std.specs.Ordering.{is_eq, is_lt, nat_cmp, ordering_then, ordering_reverse}
use Rattle.std.specs.Str.{bytes_eq}
use Rattle.std.proofs.lemmas.Bool.{eqb-true, eq-eqb, true≢false}
use Rattle.std.proofs.lemmas.List.Sorted.{IsPermutation-refl, IsPermutation-sym, sum_by-IsPermutation, Contains-permutation}
use Rattle.std.proofs.lemmas.List.Sums.{sum_by-cons}
use Rattle.std.proofs.lemmas.Slice.Eq.{bytes_eq-Decides}
use Rattle.sn_dir.specs.Listed.{link_of, listed_cmp}
use Rattle.sn_dir.specs.declared.listings.ListedName.{ListedName}
use Rattle.sn_image.specs.Image.{image}
use Rattle.sn_image.specs.Names.{names_at}
use Rattle.sn_image.specs.Sound.{AreOnce}
use Rattle.sn_image.proofs.PieceLemmas.{found_once}
use Rattle.sn_image.proofs.PointLemmas.{as_links, own_names, number_among, name_found}
use Rattle.sn_layout.specs.declared.tree.BlockTree.{BlockTree}
use Rattle.sn_layout_node.specs.Directory.{Link, number_of}
use Rattle.sn_model.specs.declared.link.Link.{Link as TreeLink}
use Rattle.sn_model.specs.Seen.{names_of}
use Rattle.sn_model.specs.Tree.{link_cmp, link_to}
use Rattle.sn_model.proofs.LinkLemmas.{exact_links, links_total}
use Rattle.sn_ondisk.specs.Trees.{Store}

-- ---- names of which none occurs twice

once_behind : (l : Link) (ls : List Link) → AreOnce (l ∷ ls) → AreOnce ls
once_behind l ls once name = omega (arith, once name, sum_by-cons (λ y. cond (bytes_eq y.name name) 1 0) l ls)

-- the first two have other names
first_apart : (x y : Link) (ls : List Link) → AreOnce (x ∷ y ∷ ls) → x.name ≢ y.name
first_apart x y ls once same =
    let f : Link → ℕ = λ l. cond (bytes_eq l.name x.name) 1 0 in
    let here : f x ≡ 1 = ap (λ (b : Bool). cond b 1 0) ((bytes_eq-Decides x.name x.name).1 refl) in
    let next : f y ≡ 1 = ap (λ (b : Bool). cond b 1 0) ((bytes_eq-Decides y.name x.name).1 (sym same)) in
    omega (arith, once x.name, sum_by-cons f x (y ∷ ls), sum_by-cons f y ls, here, next)

-- a name has the same number wherever it is
module _ (old new : List Link) (moved : IsPermutation old new) (once : AreOnce old) where
  once_moved : AreOnce new
  once_moved name = omega (arith, once name, sum_by-IsPermutation (λ (l : Link). cond (bytes_eq l.name name) 1 0) old new moved)

  number_moved : (name : List ℕ) → number_of name new ≡ number_of name old
  number_moved name = told (number_of name new) refl (number_of name old) refl
    where
      told : (a : Option ℕ) → number_of name new ≡ a → (b : Option ℕ) → number_of name old ≡ b → a ≡ b
      told None e None f = refl
      told (Some n) e b f =
          let link : Link = record { number = n; name = name } in
          let there : Contains old link = Contains-permutation new old link (IsPermutation-sym old new moved) (number_among name new n e) in
          sym (found_once old link (once name) there) ∙ f
      told None e (Some n) f =
          let link : Link = record { number = n; name = name } in
          let there : Contains new link = Contains-permutation old new link moved (number_among name old n f) in
          let never : Some n ≡ None = sym (found_once new link (once_moved name) there) ∙ e in absurd cc

-- ---- in order

-- in one directory the names alone determine the order
less_names : (d : ℕ) (a b : List ℕ) → link_cmp (link_to d a) (link_to d b) ≡ slice_cmp nat_cmp a b
less_names d a b = ap (λ (o : Ordering). ordering_then o (slice_cmp nat_cmp a b)) (tied_itself nat_cmp_total d)

rises : (d : ℕ) (x y : ListedName) → x.name ≢ y.name → is_lt (listed_cmp y x) ≡ false → link_cmp (link_to d x.name) (link_to d y.name) ≡ Less
rises d x y apart order = told (link_cmp (link_to d x.name) (link_to d y.name)) refl
  where
    told : (o : Ordering) → link_cmp (link_to d x.name) (link_to d y.name) ≡ o → o ≡ Less
    told Less e = refl
    told Equal e = absurd (apart (ap (λ (l : TreeLink). l.name) (exact_links (link_to d x.name) (link_to d y.name) e)))
    told Greater e =
        let back : slice_cmp nat_cmp y.name x.name ≡ Less =
        sym (less_names d y.name x.name) ∙ links_total.antisymm (link_to d y.name) (link_to d x.name) ∙ ap ordering_reverse e in
        absurd (true≢false (sym (ap (λ (o : Ordering). is_lt (ordering_then o (nat_cmp y.number x.number))) back) ∙ order))

listed_rise : (d : ℕ) (names : List ListedName) → IsSorted listed_cmp names → AreOnce (map link_of names) → T (is_sorted link_cmp (as_links d (map link_of names)))
listed_rise d [] sorted once = tt
listed_rise d (x ∷ []) sorted once = tt
listed_rise d (x ∷ y ∷ rest) sorted once =
    let es = as_links d (map link_of rest) in
    let less = rises d x y (first_apart (link_of x) (link_of y) (map link_of rest) once) (sorted 0 x (omega arith) (omega arith)) in
    let later = listed_rise d (y ∷ rest) (λ k e low high. subst (λ (n : ℕ). is_lt (listed_cmp (slice_index_or (x ∷ y ∷ rest) n e) (slice_index_or (y ∷ rest) k e)) ≡ false) (next k) (sorted (suc k) e (omega arith) (omega (arith, high)))) (once_behind (link_of x) (map link_of (y ∷ rest)) once) in
    subst (λ (o : Ordering). T (is_sorted link_cmp (by_order o ((link_to d x.name, x.number) ∷ (link_to d y.name, y.number) ∷ es) ((link_to d y.name, x.number) ∷ es) ((link_to d y.name, y.number) ∷ put link_cmp (link_to d x.name) x.number es)))) less
    (is_sorted-put link_cmp links_total (link_to d x.name) x.number ((link_to d y.name, y.number) ∷ es) later)
  where
    next : (k : ℕ) → suc k + 1 ≡ suc (k + 1)
    next k = omega arith

-- ---- those of the tree

other_names : (d : ℕ) (q : TreeLink) (names : List Link) → (q.directory ≢ d) → find link_cmp q (as_links d names) ≡ None
other_names d q [] other = refl
other_names d q (l ∷ ls) other = told (link_cmp q (link_to d l.name)) refl (other_names d q ls other)
  where
    told : (o : Ordering) → link_cmp q (link_to d l.name) ≡ o → find link_cmp q (as_links d ls) ≡ None → cond (is_eq o) (Some l.number) (find link_cmp q (as_links d ls)) ≡ None
    told Less e rest = rest
    told Equal e rest = absurd (other (ap (λ (k : TreeLink). k.directory) (exact_links q (link_to d l.name) e)))
    told Greater e rest = rest

module _ (s : Store) (file : BlockTree) (d : ℕ) (names : List ListedName) (moved : IsPermutation (names_at s file d) (map link_of names)) (once : AreOnce (names_at s file d)) (sorted : IsSorted listed_cmp names) where
  abbrev read : List (TreeLink × ℕ)
  read = as_links d (map link_of names)

  abbrev own : List (TreeLink × ℕ)
  own = filter (λ e. e.0.directory == d) (fin.entries (image s file).links)

  read_rise : T (is_sorted link_cmp read)
  read_rise = listed_rise d names sorted (once_moved (names_at s file d) (map link_of names) moved once)

  own_rise : T (is_sorted link_cmp own)
  own_rise = is_sorted-where_key link_cmp (λ l. l.directory == d) (fin.entries (image s file).links) (fin.entries_sorted (image s file).links)

  alike : (q : TreeLink) → find link_cmp q read ≡ cond (q.directory == d) (fin.get (image s file).links q) None
  alike q = told (q.directory == d) refl
    where
      told : (b : Bool) → (q.directory == d) ≡ b → find link_cmp q read ≡ cond b (fin.get (image s file).links q) None
      told false e = other_names d q (map link_of names) (λ same. true≢false (sym (eq-eqb q.directory d same) ∙ e))
      told true e =
          let here : q ≡ link_to d q.name = ap (λ (k : ℕ). link_to k q.name) (eqb-true q.directory d e) in
          ap (λ (l : TreeLink). find link_cmp l read) here
          ∙ own_names d q.name (map link_of names)
          ∙ number_moved (names_at s file d) (map link_of names) moved once q.name
          ∙ sym (name_found s file d q.name)
          ∙ ap (fin.get (image s file).links) (sym here)

  same_entries : read ≡ own
  same_entries =
      let one = fin.from_sorted {R = link_cmp} read in
      let two = fin.from_sorted {R = link_cmp} own in
      let same : one ≡ two = fin.same_map links_total (λ a b e. exact_links a b e) one two (λ q.
      fin.get-from_sorted link_cmp read q read_rise ∙ alike q
      ∙ ap (λ (o : Option ℕ). cond (q.directory == d) o None) (fin.get-entries (image s file).links q)
      ∙ sym (find-where_key link_cmp (λ l. l.directory == d) q (λ x e. ap (λ (l : TreeLink). l.directory == d) (sym (exact_links q x e))) (fin.entries (image s file).links))
      ∙ sym (fin.get-from_sorted link_cmp own q own_rise)) in
      sym (fin.entries-from_sorted link_cmp read read_rise) ∙ ap fin.entries same ∙ fin.entries-from_sorted link_cmp own own_rise

  pub listed_names : map (λ (listed : ListedName). listed.name) names ≡ names_of (image s file) d
  listed_names = sym (mapped names) ∙ ap (map (λ (e : TreeLink × ℕ). e.0.name)) same_entries
    where
      mapped : (xs : List ListedName) → map (λ (e : TreeLink × ℕ). e.0.name) (as_links d (map link_of xs)) ≡ map (λ (listed : ListedName). listed.name) xs
      mapped [] = refl
      mapped (x ∷ xs) = ap (λ (ns : List (List ℕ)). x.name ∷ ns) (mapped xs)

  pub listed_number : (listed : ListedName) → Contains names listed → fin.get (image s file).links (link_to d listed.name) ≡ Some listed.number
  listed_number listed among =
      let link : Link = link_of listed in
      let there : Contains (names_at s file d) link = Contains-permutation (map link_of names) (names_at s file d) link (IsPermutation-sym (names_at s file d) (map link_of names) moved) (mapped names listed among) in
      name_found s file d listed.name ∙ found_once (names_at s file d) link (once listed.name) there
    where
      mapped : (xs : List ListedName) (x : ListedName) → Contains xs x → Contains (map link_of xs) (link_of x)
      mapped [] x (k, within, is) = absurd (omega (arith, within))
      mapped (y ∷ ys) x (zero, within, is) = (0, omega arith, ap link_of is)
      mapped (y ∷ ys) x (suc k, within, is) = let w = mapped ys x (k, omega (arith, within), is) in (suc w.0, omega (arith, w.1), w.2)

-- ---- none

pub none_moved : (links : List Link) (names : List ListedName) → links ≡ [] → names ≡ [] → IsPermutation links (map link_of names)
none_moved links names none empty = subst (λ (ns : List ListedName). IsPermutation links (map link_of ns)) (sym empty) (subst (λ (ls : List Link). IsPermutation links ls) none (IsPermutation-refl links))

pub none_sorted : (names : List ListedName) → names ≡ [] → IsSorted listed_cmp names
none_sorted names empty = subst (IsSorted listed_cmp) (sym empty) (λ k d low high. absurd (omega (arith, high)))
