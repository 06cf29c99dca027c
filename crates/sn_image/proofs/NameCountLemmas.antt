-- How many names the tree has that a root denotes, where no name occurs twice in a directory.
use Rattle.std.proofs.Common.{◌≡◌, ◌≢◌, ⊎_elim, ℕ, zero, suc, ◌+◌, ◌-◌, ◌/◌, ◌==◌, Bool, true, cond, List, [], ◌∷◌, ◌++◌, flat_map, length, Option, Some, None, Contains, count_by, refl, sym, ap, subst, ◌∙◌, arith}
use Rattle.std.specs.declared.cmp.Ordering.{Ordering}
use Rattle.std.specs.List.{range_with_len}
use Rattle.std.specs.Str.{bytes_eq}
use Rattle.std.specs.FinMap as fin
use Rattle.std.specs.FinMap.Entries.{find}
use Rattle.std.proofs.lemmas.Bool.{eq-eqb}
use Rattle.std.proofs.lemmas.List.Sums.{sum_by-cons}
use Rattle.std.proofs.lemmas.Slice.Eq.{bytes_eq-Decides}
use Rattle.sn_layout.specs.declared.tree.BlockTree.{BlockTree}
use Rattle.sn_layout_node.specs.Directory.{Link, number_of}
use Rattle.sn_model.specs.declared.link.Link.{Link as TreeLink}
use Rattle.sn_model.specs.Tree.{link_to, link_cmp, names_in as tree_names_in, names_for}
use Rattle.sn_model.proofs.CountLemmas.{count_inserted}
use Rattle.sn_model.proofs.LinkLemmas.{exact_links, links_total}
use Rattle.sn_ondisk.specs.Trees.{Store}
use Rattle.sn_image.specs.Image.{links_at, image}
use Rattle.sn_image.specs.Names.{names_at}
use Rattle.sn_image.specs.Reach.{numbers}
use Rattle.sn_image.specs.Sound.{AreOnce, name_count}
use Rattle.sn_image.proofs.ListLemmas.{none_in, range-from, count-flat_map, find-behind}
use Rattle.sn_image.proofs.PieceLemmas.{cases, sum_one, same_name, once}
use Rattle.sn_image.proofs.PointLemmas.{as_links, own_names, elsewhere, named_inode, number_among, used_in}
use Rattle.sn_image.proofs.SoundNameLemmas.{none_counted, link_entries, few_links, few_in, all_alike}

-- ---- entries of which no two have one key

module _ {K X : Type 0} (R : K → K → Ordering) where
  abbrev AreApart : List (K × X) → Type 0
  AreApart [] = Unit {0}
  AreApart (e ∷ es) = (find R e.0 es ≡ None) × AreApart es

  apart_append : (xs ys : List (K × X)) → AreApart xs → AreApart ys → ((e : K × X) → Contains xs e → find R e.0 ys ≡ None) → AreApart (xs ++ ys)
  apart_append [] ys one two none = two
  apart_append (x ∷ xs) ys one two none =
      (find-behind R x.0 xs ys one.0 ∙ none x (0, omega arith, refl), apart_append xs ys one.1 two (λ e more. none e (suc more.0, omega (arith, more.1), more.2)))

count_apart : (p : TreeLink × ℕ → Bool) (es : List (TreeLink × ℕ)) → AreApart link_cmp es → count_by p (fin.entries (fin.from_entries {R = link_cmp} es)) ≡ count_by p es
count_apart p [] apart = none_counted p
count_apart p (e ∷ es) apart =
    let new = fin.get-from_entries links_total es e.0 ∙ apart.0 in
    omega (arith, count_inserted links_total exact_links p (fin.from_entries {R = link_cmp} es) e.0 e.1 new, count_apart p es apart.1, sum_by-cons (λ x. cond (p x) 1 0) e es)

-- ---- the names of a directory

rest_once : (l : Link) (ls : List Link) → AreOnce (l ∷ ls) → AreOnce ls
rest_once l ls once name = omega (arith, once name, sum_by-cons (λ y. cond (bytes_eq y.name name) 1 0) l ls)

-- the first name occurs nowhere later
none_behind : (l : Link) (ls : List Link) → AreOnce (l ∷ ls) → number_of l.name ls ≡ None
none_behind l ls few = told (number_of l.name ls) refl
  where
    told : (o : Option ℕ) → number_of l.name ls ≡ o → number_of l.name ls ≡ None
    told None e = e
    told (Some number) e =
        let again : Link = record { number = number; name = l.name } in
        let first : same_name l l ≡ 1 = once (bytes_eq l.name l.name) ((bytes_eq-Decides l.name l.name).1 refl) in
        let second : same_name l again ≡ 1 = once (bytes_eq l.name l.name) ((bytes_eq-Decides l.name l.name).1 refl) in
        absurd (omega (arith, few l.name, first, second, sum_by-cons (same_name l) l ls, sum_one (same_name l) ls again (number_among l.name ls number e)))

own_apart : (d : ℕ) (names : List Link) → AreOnce names → AreApart link_cmp (as_links d names)
own_apart d [] once = tt
own_apart d (l ∷ ls) once = (own_names d l.name ls ∙ none_behind l ls once, own_apart d ls (rest_once l ls once))

of_directory : (d : ℕ) (names : List Link) (e : TreeLink × ℕ) → Contains (as_links d names) e → e.0.directory ≡ d
of_directory d [] e among = none_in e among
of_directory d (l ∷ ls) e among = ⊎_elim
    (λ (same : (link_to d l.name, l.number) ≡ e). sym (ap (λ (x : TreeLink × ℕ). x.0.directory) same))
    (λ more. of_directory d ls e more)
    (cases (link_to d l.name, l.number) (as_links d ls) e among)

-- ---- those of all directories

module _ (s : Store) (inodes : BlockTree) where
  none_among : (q : TreeLink) (ns : List ℕ) → ((n : ℕ) → Contains ns n → n ≢ q.directory) → find link_cmp q (flat_map (links_at s inodes) ns) ≡ None
  none_among q [] apart = refl
  none_among q (n ∷ ns) apart =
      find-behind link_cmp q (links_at s inodes n) (flat_map (links_at s inodes) ns) (elsewhere s inodes q.directory q.name n (apart n (0, omega arith, refl)))
      ∙ none_among q ns (λ m more. apart m (suc more.0, omega (arith, more.1), more.2))

  module _ (few : (d : ℕ) → AreOnce (names_at s inodes d)) where
    all_apart : (a k : ℕ) → AreApart link_cmp (flat_map (links_at s inodes) (range_with_len a k))
    unfolding links_at
    all_apart a zero = tt
    all_apart a (suc k) =
        apart_append link_cmp (links_at s inodes a) (flat_map (links_at s inodes) (range_with_len (a + 1) k)) (own_apart a (names_at s inodes a) (few a)) (all_apart (a + 1) k)
        (λ e among. none_among e.0 (range_with_len (a + 1) k) (λ n more same. omega (arith, same, of_directory a (names_at s inodes a) e among, (range-from (a + 1) k n more).0)))

    counted_alike : (p : TreeLink × ℕ → Bool) → count_by p (fin.entries (image s inodes).links) ≡ count_by p (link_entries s inodes)
    unfolding image numbers
    counted_alike p = count_apart p (link_entries s inodes) (all_apart 2 (inodes.size / 128 - 2))

    pub for_number : (number : ℕ) → names_for (image s inodes) number ≡ name_count s inodes number
    for_number number = counted_alike (λ e. e.1 == number) ∙ count-flat_map (λ e. e.1 == number) (links_at s inodes) (numbers inodes) ∙ all_alike s inodes number (numbers inodes)

    own_all : (d : ℕ) → count_by (λ e. e.0.directory == d) (links_at s inodes d) ≡ length (names_at s inodes d)
    own_all d = few_links s inodes (λ e. e.0.directory == d) d ∙ all_count (d == d) (names_at s inodes d) (eq-eqb d d refl)
      where
        all_count : (b : Bool) (names : List Link) → b ≡ true → count_by (λ l. b) names ≡ length names
        all_count b [] is = refl
        all_count b (l ∷ ls) is = omega (arith, sum_by-cons (λ (x : Link). cond b 1 0) l ls, all_count b ls is, ap {B = ℕ} (λ (c : Bool). cond c 1 0) is)

    pub in_directory : (d : ℕ) → tree_names_in (image s inodes) d ≡ length (names_at s inodes d)
    in_directory d = told (names_at s inodes d) refl
      where
        told : (names : List Link) → names_at s inodes d ≡ names → tree_names_in (image s inodes) d ≡ length (names_at s inodes d)
        told [] none =
            let nothing : length (names_at s inodes d) ≡ 0 = ap (λ (names : List Link). length names) none in
            omega (arith, nothing, few_in s inodes d 0 (omega (arith, nothing)))
        told (l ∷ ls) some =
            let w = named_inode s inodes d l (subst (λ (names : List Link). Contains names l) (sym some) (0, omega arith, refl)) in
            let here = sum_one (λ m. count_by (λ e. e.0.directory == d) (links_at s inodes m)) (numbers inodes) d (used_in s inodes d w.0 w.1) in
            let all = counted_alike (λ e. e.0.directory == d) ∙ count-flat_map (λ e. e.0.directory == d) (links_at s inodes) (numbers inodes) in
            omega (arith, here, all, own_all d, few_in s inodes d (length (names_at s inodes d)) (omega arith))
