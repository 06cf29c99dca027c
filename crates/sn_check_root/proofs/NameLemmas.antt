-- Sorted names, of which a name that occurs twice has two places side by side.
use Rattle.std.proofs.Common.{◌≡◌, ◌≢◌, ℕ, zero, suc, ◌+◌, ◌<◌, ◌≤◌, Bool, true, false, cond, List, [], ◌∷◌, length, map, refl, sym, ap, subst, ◌∙◌, arith}
use Rattle.std.specs.Prelude.{count_by, slice_index_or}
use Rattle.std.specs.List.Sorted.{IsSorted, IsSortedBy, IsPermutation, IsNonDecreasingBy}
use Rattle.std.specs.Cmp.Lexicographic.{slice_cmp}
use Rattle.std.specs.Ordering.{nat_cmp, is_lt, ordering_then, ordering_index}
use Rattle.std.specs.Str.{bytes_eq}
use Rattle.std.specs.declared.cmp.Ordering.{Ordering}
use Rattle.std.specs.declared.cmp.Ordering.TheVariants.{Less, Equal, Greater}
use Rattle.std.proofs.lemmas.Bool.{true≢false, false_from_ne_true}
use Rattle.std.proofs.lemmas.Cmp.{nat_list_cmp_total, tied_itself}
use Rattle.std.proofs.lemmas.Map.Lookups.{exact_bytes}
use Rattle.std.proofs.lemmas.List.Sums.{sum_by-cons}
use Rattle.std.proofs.lemmas.List.Sorted.{searchable_from_sorted, sum_by-IsPermutation}
use Rattle.std.proofs.lemmas.Slice.Eq.{bytes_eq-Decides}
use Rattle.sn_layout_node.specs.Directory.{Link}
use Rattle.sn_image.specs.Sound.{AreOnce}
use Rattle.sn_dir.specs.Listed.{link_of, listed_cmp}
use Rattle.sn_check_root.specs.Rules.{StandsTwice}
use Rattle.sn_dir.specs.declared.listings.ListedName.{ListedName}

-- ---- the order

less_by_name : (o p : Ordering) → is_lt (ordering_then o p) ≡ false → is_lt o ≡ false
less_by_name Less p is = is
less_by_name Equal p is = refl
less_by_name Greater p is = refl

index_one : (o : Ordering) → ordering_index o ≡ 1 → o ≡ Equal
index_one Less is = absurd (omega (arith, is))
index_one Equal is = refl
index_one Greater is = absurd (omega (arith, is))

module _ (xs : List ListedName) (sorted : IsSorted listed_cmp xs) where
  by_names : IsSortedBy (λ (a b : ListedName). is_lt (slice_cmp nat_cmp a.name b.name)) xs
  by_names k d low within = less_by_name _ _ (sorted k d low within)

  -- between two places of a name there is no other
  pub between : (i j : ℕ) (d : ListedName) → i < j → j < length xs → (slice_index_or xs j d).name ≡ (slice_index_or xs i d).name → (slice_index_or xs (i + 1) d).name ≡ (slice_index_or xs i d).name
  between i j d below within same =
      let name = (slice_index_or xs i d).name in
      let up : IsNonDecreasingBy (λ (y : ListedName). ordering_index (slice_cmp nat_cmp y.name name)) xs = searchable_from_sorted nat_list_cmp_total (λ (l : ListedName). l.name) xs name by_names in
      let first : ordering_index (slice_cmp nat_cmp name name) ≡ 1 = ap ordering_index (tied_itself nat_list_cmp_total name) in
      let last : ordering_index (slice_cmp nat_cmp (slice_index_or xs j d).name name) ≡ 1 = ap (λ (n : List ℕ). ordering_index (slice_cmp nat_cmp n name)) same ∙ first in
      let least = up i (i + 1) d (omega arith) (omega (arith, below, within)) in
      let most = up (i + 1) j d (omega (arith, below)) within in
      exact_bytes _ _ (index_one _ (omega (arith, first, last, least, most)))

-- ---- how often a name occurs

abbrev named : List ℕ → List ListedName → ℕ
named name xs = count_by (λ (l : Link). bytes_eq l.name name) (map link_of xs)

named-cons : (name : List ℕ) (x : ListedName) (xs : List ListedName) → named name (x ∷ xs) ≡ cond (bytes_eq x.name name) 1 0 + named name xs
named-cons name x xs = sum_by-cons (λ (l : Link). cond (bytes_eq l.name name) 1 0) (link_of x) (map link_of xs)

one_here : (name : List ℕ) (x : ListedName) (xs : List ListedName) → x.name ≡ name → named name (x ∷ xs) ≡ 1 + named name xs
one_here name x xs is = named-cons name x xs ∙ ap (λ (b : Bool). cond b 1 0 + named name xs) ((bytes_eq-Decides x.name name).1 is)

none_here : (name : List ℕ) (x : ListedName) (xs : List ListedName) → x.name ≢ name → named name (x ∷ xs) ≡ named name xs
none_here name x xs other = named-cons name x xs ∙ ap (λ (b : Bool). cond b 1 0 + named name xs) (false_from_ne_true (bytes_eq x.name name) (λ t. other ((bytes_eq-Decides x.name name).0 t))) ∙ (omega arith)

none_among : (name : List ℕ) (xs : List ListedName) → ((i : ℕ) (d : ListedName) → i < length xs → (slice_index_or xs i d).name ≢ name) → named name xs ≡ 0
none_among name [] apart = refl
none_among name (x ∷ xs) apart = none_here name x xs (apart 0 x (omega arith)) ∙ none_among name xs (λ i d within. apart (suc i) d (omega (arith, within)))

-- each name is another one than those before it
abbrev pub AllApart : List ListedName → Type 0
AllApart xs = (i j : ℕ) (d : ListedName) → i < j → j < length xs → (slice_index_or xs j d).name ≢ (slice_index_or xs i d).name

once_from_apart : (xs : List ListedName) → AllApart xs → AreOnce (map link_of xs)
once_from_apart [] apart name = omega arith
once_from_apart (x ∷ xs) apart name =
    told (once_from_apart xs (λ i j d below within. apart (suc i) (suc j) d (omega (arith, below)) (omega (arith, within))) name) (bytes_eq x.name name) refl
  where
    told : named name xs ≤ 1 → (b : Bool) → bytes_eq x.name name ≡ b → named name (x ∷ xs) ≤ 1
    told rest true is =
        let same : x.name ≡ name = (bytes_eq-Decides x.name name).0 is in
        omega (arith, one_here name x xs same, none_among name xs (λ i d within e. apart 0 (suc i) d (omega arith) (omega (arith, within)) (e ∙ sym same)))
    told rest false is = omega (arith, rest, none_here name x xs (λ same. true≢false (sym ((bytes_eq-Decides x.name name).1 same) ∙ is)))

-- one that is side by side with itself occurs twice
twice_at : (xs : List ListedName) (k : ℕ) (d : ListedName) → k + 1 < length xs → (slice_index_or xs (suc k) d).name ≡ (slice_index_or xs k d).name → 2 ≤ named (slice_index_or xs k d).name xs
twice_at [] k d within same = absurd (omega (arith, within))
twice_at (x ∷ []) k d within same = absurd (omega (arith, within))
twice_at (x ∷ y ∷ xs) zero d within same = omega (arith, one_here x.name x (y ∷ xs) refl, one_here x.name y xs same)
twice_at (x ∷ y ∷ xs) (suc k) d within same =
    omega (arith, twice_at (y ∷ xs) k d (omega (arith, within)) same, named-cons (slice_index_or (y ∷ xs) k d).name x (y ∷ xs))

module _ (xs : List ListedName) (sorted : IsSorted listed_cmp xs) where
  pub once_sorted : ((k : ℕ) (d : ListedName) → k + 1 < length xs → (slice_index_or xs (k + 1) d).name ≢ (slice_index_or xs k d).name) → AreOnce (map link_of xs)
  once_sorted apart = once_from_apart xs (λ i j d below within same. apart i d (omega (arith, below, within)) (between xs sorted i j d below within same))

pub stands_twice : (xs : List ListedName) (k : ℕ) (d : ListedName) → k + 1 < length xs → (slice_index_or xs (k + 1) d).name ≡ (slice_index_or xs k d).name → StandsTwice (map link_of xs)
stands_twice xs k d within same =
    let next : k + 1 ≡ suc k = omega arith in
    ((slice_index_or xs k d).name, twice_at xs k d within (subst (λ (j : ℕ). (slice_index_or xs j d).name ≡ (slice_index_or xs k d).name) next same))

any_default : (xs : List ListedName) (i : ℕ) (d e : ListedName) → i < length xs → slice_index_or xs i d ≡ slice_index_or xs i e
any_default [] i d e within = absurd (omega (arith, within))
any_default (x ∷ xs) zero d e within = refl
any_default (x ∷ xs) (suc i) d e within = any_default xs i d e (omega (arith, within))

-- two elements side by side
pub side_by_side : (xs : List ListedName) (k i j : ℕ) (a b : ListedName) → i ≡ k + 1 → j ≡ k → i < length xs → bytes_eq (slice_index_or xs i a).name (slice_index_or xs j b).name ≡ true → StandsTwice (map link_of xs)
side_by_side xs k i j a b next here within same =
    let first : (slice_index_or xs (k + 1) b).name ≡ (slice_index_or xs i a).name =
    ap (λ (n : ℕ). (slice_index_or xs n b).name) (sym next) ∙ ap (λ (l : ListedName). l.name) (any_default xs i b a within) in
    let second : (slice_index_or xs j b).name ≡ (slice_index_or xs k b).name = ap (λ (n : ℕ). (slice_index_or xs n b).name) here in
    stands_twice xs k b (omega (arith, next, within)) (first ∙ (bytes_eq-Decides (slice_index_or xs i a).name (slice_index_or xs j b).name).0 same ∙ second)

-- the same names in another order
named_alike : (xs ys : List Link) → IsPermutation xs ys → (name : List ℕ) → count_by (λ (l : Link). bytes_eq l.name name) ys ≡ count_by (λ (l : Link). bytes_eq l.name name) xs
named_alike xs ys moved name = sum_by-IsPermutation (λ (l : Link). cond (bytes_eq l.name name) 1 0) xs ys moved

pub once_alike : (xs ys : List Link) → IsPermutation xs ys → AreOnce ys → AreOnce xs
once_alike xs ys moved once name = omega (arith, named_alike xs ys moved name, once name)

pub twice_alike : (xs ys : List Link) → IsPermutation xs ys → StandsTwice ys → StandsTwice xs
twice_alike xs ys moved (name, two) = (name, omega (arith, named_alike xs ys moved name, two))
