-- What a search of sorted entries finds, and what an insert at that index does.
use Rattle.std.proofs.Common.{◌≡◌, ℕ, zero, suc, ◌<◌, Bool, true, false, cond, ◌&&◌, List, [], ◌∷◌, length, get_or, set, Some, None, Result, Ok, Err, refl, sym, ap, subst, ◌∙◌, add-one, arith, T}
use Rattle.std.specs.declared.cmp.Ordering.{Ordering}
use Rattle.std.specs.declared.cmp.Ordering.TheVariants.{Less, Equal, Greater}
use Rattle.std.specs.Ordering.{is_eq, is_lt, ordering_reverse}
use Rattle.std.specs.List.{insert}
use Rattle.std.specs.List.Sorted.{IsSearchInRange, IsBinarySearchResult, IsSortedBy}
use Rattle.std.specs.Cmp.{IsTotalOrder, alike_right}
use Rattle.std.specs.FinMap.Entries.{find, put, is_sorted, is_sorted-put, is_sorted-where_key, below_all, by_order, where_key}
use Rattle.std.proofs.lemmas.Bool.{and_parts}
use Rattle.std.proofs.lemmas.List.Sorted.{searchable_from_sorted}
use Rattle.std.specs.declared.boxed.Box.{Box}
use Rattle.std.specs.Global.{Global}
use Rattle.sn_overlay.specs.Sorted.{IsAt, IsGap, FindsKey, bytes_by_file_block}

is_less : (r : Ordering) → is_lt r ≡ true → r ≡ Less
is_less Less h = refl
is_less Equal h = cc
is_less Greater h = cc

passed : (b : Bool) → T b → b ≡ true
passed true h = refl
passed false h = absurd h

-- one key against another, the other way round
turned : {K : Type 0} {R : K → K → Ordering} → IsTotalOrder R → (x y : K) (r : Ordering) → R x y ≡ r → R y x ≡ ordering_reverse r
turned {K} {R} o x y r e = o.antisymm y x ∙ ap ordering_reverse e

module _ {K X : Type 0} {R : K → K → Ordering} (o : IsTotalOrder R) where
  below_at : (x : K) (es : List (K × X)) (i : ℕ) (d : K × X) → below_all R x es ≡ true → i < length es → R x (get_or es i d).0 ≡ Less
  below_at x [] i d h k = absurd (omega arith)
  below_at x (e ∷ es) zero d h k = is_less (R x e.0) (and_parts (is_lt (R x e.0)) (below_all R x es) h).0
  below_at x (e ∷ es) (suc i) d h k = below_at x es i d (and_parts (is_lt (R x e.0)) (below_all R x es) h).1 (omega arith)

  pub adjacent : (es : List (K × X)) (i : ℕ) (d : K × X) → is_sorted R es ≡ true → suc i < length es → R (get_or es i d).0 (get_or es (suc i) d).0 ≡ Less
  adjacent [] i d h k = absurd (omega arith)
  adjacent (e ∷ es) zero d h k = below_at e.0 es 0 d (and_parts (below_all R e.0 es) (is_sorted R es) h).0 (omega arith)
  adjacent (e ∷ es) (suc i) d h k = adjacent es i d (and_parts (below_all R e.0 es) (is_sorted R es) h).1 (omega arith)

  rises : (es : List (K × X)) → is_sorted R es ≡ true → IsSortedBy (λ a b. is_lt (R a.0 b.0)) es
  rises es h i d low high = rw add-one (ap is_lt (turned o (get_or es i d).0 (get_or es (suc i) d).0 Less (adjacent es i d h (omega arith))))

  pub searched : (es : List (K × X)) (key : K) (r : Result ℕ ℕ) → is_sorted R es ≡ true → IsSearchInRange r (length es) → IsBinarySearchResult (λ e. R e.0 key) es r → FindsKey R key es r
  searched es key (Ok at) h within found = record { within = within; ties = found }
  searched es key (Err at) h within found =
      let parted = found (searchable_from_sorted o (λ e. e.0) es key (rises es h)) in
      record { within = within; less = λ i d k. parted.0 i d (omega arith) k; greater = λ i d k l. parted.1 i d k l }

  is_at_tail : (e : K × X) (es : List (K × X)) (key : K) (at : ℕ) → IsAt R key (e ∷ es) (suc at) → IsAt R key es at
  is_at_tail e es key at h = record { within = omega (arith, h.within); ties = h.ties }

  -- a key before the one that ties is less than it
  before : (e : K × X) (es : List (K × X)) (key : K) (at : ℕ) → is_sorted R (e ∷ es) ≡ true → IsAt R key es at → R key e.0 ≡ Greater
  before e es key at h is = turned o e.0 key Less
      (sym (alike_right o (get_or es at e).0 key e.0 (is.ties e)) ∙ below_at e.0 es at e (and_parts (below_all R e.0 es) (is_sorted R es) h).0 is.within)

  pub find-at : (es : List (K × X)) (key : K) (at : ℕ) (d : K × X) → is_sorted R es ≡ true → IsAt R key es at → find R key es ≡ Some (get_or es at d).1
  find-at [] key at d h is = absurd (omega (arith, is.within))
  find-at (e ∷ es) key zero d h is = ap (λ r. cond (is_eq r) (Some e.1) (find R key es)) (turned o e.0 key Equal (is.ties d))
  find-at (e ∷ es) key (suc at) d h is =
      let tail = is_at_tail e es key at is in
      ap (λ r. cond (is_eq r) (Some e.1) (find R key es)) (before e es key at h tail)
      ∙ find-at es key at d (and_parts (below_all R e.0 es) (is_sorted R es) h).1 tail

  pub put-at : (es : List (K × X)) (key : K) (v : X) (at : ℕ) (d : K × X) → is_sorted R es ≡ true → IsAt R key es at → put R key v es ≡ set es at ((get_or es at d).0, v)
  put-at [] key v at d h is = absurd (omega (arith, is.within))
  put-at (e ∷ es) key v zero d h is = ap (λ r. by_order r ((key, v) ∷ e ∷ es) ((e.0, v) ∷ es) (e ∷ put R key v es)) (turned o e.0 key Equal (is.ties d))
  put-at (e ∷ es) key v (suc at) d h is =
      let tail = is_at_tail e es key at is in
      ap (λ r. by_order r ((key, v) ∷ e ∷ es) ((e.0, v) ∷ es) (e ∷ put R key v es)) (before e es key at h tail)
      ∙ ap (λ rest. e ∷ rest) (put-at es key v at d (and_parts (below_all R e.0 es) (is_sorted R es) h).1 tail)

  gap_tail : (e : K × X) (es : List (K × X)) (key : K) (at : ℕ) → IsGap R key (e ∷ es) (suc at) → IsGap R key es at
  gap_tail e es key at h = record { within = omega (arith, h.within); less = λ i d k. h.less (suc i) d (omega arith); greater = λ i d k l. h.greater (suc i) d (omega arith) (omega arith) }

  above_tail : (e : K × X) (es : List (K × X)) (key : K) → IsGap R key (e ∷ es) 0 → IsGap R key es 0
  above_tail e es key h = record { within = omega arith; less = λ i d k. absurd (omega arith); greater = λ i d k l. h.greater (suc i) d (omega arith) (omega arith) }

  pub find-gap : (es : List (K × X)) (key : K) (at : ℕ) → IsGap R key es at → find R key es ≡ None
  find-gap [] key at gap = refl
  find-gap (e ∷ es) key zero gap = ap (λ r. cond (is_eq r) (Some e.1) (find R key es)) (turned o e.0 key Greater (gap.greater 0 e (omega arith) (omega arith))) ∙ find-gap es key 0 (above_tail e es key gap)
  find-gap (e ∷ es) key (suc at) gap = ap (λ r. cond (is_eq r) (Some e.1) (find R key es)) (turned o e.0 key Less (gap.less 0 e (omega arith))) ∙ find-gap es key at (gap_tail e es key at gap)

  pub put-gap : (es : List (K × X)) (key : K) (v : X) (at : ℕ) → IsGap R key es at → put R key v es ≡ insert es at (key, v)
  put-gap [] key v zero gap = refl
  put-gap [] key v (suc at) gap = absurd (omega (arith, gap.within))
  put-gap (e ∷ es) key v zero gap = ap (λ r. by_order r ((key, v) ∷ e ∷ es) ((e.0, v) ∷ es) (e ∷ put R key v es)) (turned o e.0 key Greater (gap.greater 0 e (omega arith) (omega arith)))
  put-gap (e ∷ es) key v (suc at) gap = ap (λ r. by_order r ((key, v) ∷ e ∷ es) ((e.0, v) ∷ es) (e ∷ put R key v es)) (turned o e.0 key Less (gap.less 0 e (omega arith)))
      ∙ ap (λ rest. e ∷ rest) (put-gap es key v at (gap_tail e es key at gap))

  pub sorted-put : (es : List (K × X)) (key : K) (v : X) → is_sorted R es ≡ true → is_sorted R (put R key v es) ≡ true
  sorted-put es key v h = passed _ (is_sorted-put R o key v es (subst T (sym h) tt))

pub sorted-kept : {K X : Type 0} (R : K → K → Ordering) (p : K → Bool) (es : List (K × X)) → is_sorted R es ≡ true → is_sorted R (where_key R p es) ≡ true
sorted-kept R p es h = passed _ (is_sorted-where_key R p es (subst T (sym h) tt))

-- entries with the same bytes at the same indices are sorted alike
module _ {K : Type 0} (R : K → K → Ordering) where
  below-bytes : (x : K) (es : List (K × Box (List ℕ) Global)) → below_all R x (bytes_by_file_block es) ≡ below_all R x es
  below-bytes x [] = refl
  below-bytes x (e ∷ es) = ap (λ b. is_lt (R x e.0) && b) (below-bytes x es)

  pub sorted-bytes : (es : List (K × Box (List ℕ) Global)) → is_sorted R (bytes_by_file_block es) ≡ is_sorted R es
  sorted-bytes [] = refl
  sorted-bytes (e ∷ es) = ap (λ b. b && is_sorted R (bytes_by_file_block es)) (below-bytes e.0 es) ∙ ap (λ b. below_all R e.0 es && b) (sorted-bytes es)

  pub sorted_alike : (es fs : List (K × Box (List ℕ) Global)) → bytes_by_file_block es ≡ bytes_by_file_block fs → is_sorted R fs ≡ true → is_sorted R es ≡ true
  sorted_alike es fs same h = sym (sorted-bytes es) ∙ ap (is_sorted R) same ∙ sorted-bytes fs ∙ h
