-- What a layer has of one directory and of one file, among sorted entries.
use Rattle.std.proofs.Common.{◌≡◌, ℕ, zero, suc, ◌+◌, ◌-◌, ◌<◌, ◌≤◌, Bool, true, false, cond, not, eqb, ltb, leb, List, [], ◌∷◌, ◌++◌, length, get_or, take, drop, Option, None, refl, sym, ap, subst, ◌∙◌, ◌⊎◌, inl, inr, T, add-one, arith}
use Rattle.std.specs.declared.boxed.Box.{Box}
use Rattle.std.specs.Global.{Global}
use Rattle.std.specs.declared.cmp.Ordering.{Ordering}
use Rattle.std.specs.declared.cmp.Ordering.TheVariants.{Less, Greater}
use Rattle.std.specs.Ordering.{nat_cmp, ordering_then}
use Rattle.std.specs.Option.{option_map}
use Rattle.std.specs.Cmp.{IsTotalOrder, nat_cmp_is, nat_cmp_total}
use Rattle.std.specs.FinMap as fin
use Rattle.std.specs.FinMap.Entries.{find, is_sorted, where_key, find-where_key, same_entries}
use Rattle.std.specs.List.Sorted.{IsNonDecreasingBy, IsPartitionPoint}
use Rattle.std.proofs.lemmas.List.Sorted.{IsNonDecreasingBy-from_all_adjacent}
use Rattle.std.proofs.lemmas.Bool.{cases_lt}
use Rattle.std.proofs.lemmas.Bool.Decides.{nat_tests}
use Rattle.std.proofs.lemmas.Map.Lookups.{CmpEqualImpliesEq, exact_unsigned}
use Rattle.sn_model.specs.declared.link.Link.{Link}
use Rattle.sn_model.specs.Tree.{link_cmp}
use Rattle.sn_model.proofs.LinkLemmas.{exact_links, links_total}
use Rattle.sn_model.proofs.EntryLemmas.{entries-retain}
use Rattle.sn_overlay.specs.declared.file_block.FileBlock.{FileBlock}
use Rattle.sn_overlay.specs.declared.node.NodeChange.{NodeChange}
use Rattle.sn_overlay.specs.Keys.{file_block_cmp}
use Rattle.sn_overlay.specs.Overlays.{nodes_of, names_of, blocks_of}
use Rattle.sn_overlay.specs.Sorted.{IsSpan, bytes_by_file_block}
use Rattle.sn_overlay.proofs.OverlaidLemmas.{exact_file_blocks, file_blocks_total, get-kept}
use Rattle.sn_overlay.proofs.OverlayLemmas.{get-blocks_of}
use Rattle.sn_overlay.proofs.SortedLemmas.{adjacent, sorted-bytes, sorted-kept}

as_test : (b : Bool) → b ≡ true → T b
as_test b h = subst T (sym h) tt

-- sorted entries are those of the map that is made of them
pub entries-sorted : {K X : Type 0} {R : K → K → Ordering} → IsTotalOrder R → CmpEqualImpliesEq R → (es : List (K × X)) → is_sorted R es ≡ true → fin.entries (fin.from_entries {R = R} es) ≡ es
entries-sorted {K} {X} {R} o exact es h = same_entries R o exact (fin.entries (fin.from_entries {R = R} es)) es (fin.entries_sorted (fin.from_entries {R = R} es)) (as_test _ h)
    (λ q. sym (fin.get-entries (fin.from_entries {R = R} es) q) ∙ fin.get-from_entries o es q)

pub entries-nodes_of : (es : List (ℕ × NodeChange)) → is_sorted nat_cmp es ≡ true → fin.entries (nodes_of es) ≡ es
unfolding nodes_of
entries-nodes_of es h = entries-sorted nat_cmp_total exact_unsigned es h

pub kept-names_of : (es : List (Link × Option ℕ)) (kept : Link → Bool) → is_sorted link_cmp es ≡ true → fin.entries (fin.retain_keys (names_of es) kept) ≡ where_key link_cmp kept es
unfolding names_of
kept-names_of es kept h = entries-retain links_total exact_links (names_of es) kept ∙ ap (where_key link_cmp kept) (entries-sorted links_total exact_links es h)

abbrev Boxed : Type 0
Boxed = Box (List ℕ) Global

-- the bytes of the entries that are kept
kept-bytes : (kept : FileBlock → Bool) (es : List (FileBlock × Boxed)) → where_key file_block_cmp kept (bytes_by_file_block es) ≡ bytes_by_file_block (where_key file_block_cmp kept es)
kept-bytes kept [] = refl
kept-bytes kept (e ∷ es) = ap (λ rest. cond (kept e.0) ((e.0, e.1.value) ∷ rest) rest) (kept-bytes kept es) ∙ told (kept e.0)
  where
    told : (b : Bool) → cond b ((e.0, e.1.value) ∷ bytes_by_file_block (where_key file_block_cmp kept es)) (bytes_by_file_block (where_key file_block_cmp kept es)) ≡ bytes_by_file_block (cond b (e ∷ where_key file_block_cmp kept es) (where_key file_block_cmp kept es))
    told true = refl
    told false = refl

pub kept-blocks_of : (es : List (FileBlock × Boxed)) (kept : FileBlock → Bool) → is_sorted file_block_cmp es ≡ true → fin.entries (fin.retain_keys (blocks_of es) kept) ≡ bytes_by_file_block (where_key file_block_cmp kept es)
unfolding blocks_of
kept-blocks_of es kept h =
    entries-retain file_blocks_total exact_file_blocks (blocks_of es) kept
    ∙ ap (where_key file_block_cmp kept) (entries-sorted file_blocks_total exact_file_blocks (bytes_by_file_block es) (sorted-bytes file_block_cmp es ∙ h))
    ∙ kept-bytes kept es

-- the map that is made of the entries that are kept
pub blocks_of-kept : (es : List (FileBlock × Boxed)) (kept : FileBlock → Bool) → blocks_of (where_key file_block_cmp kept es) ≡ fin.retain_keys (blocks_of es) kept
blocks_of-kept es kept = fin.same_map file_blocks_total exact_file_blocks _ _ (λ q.
    get-blocks_of (where_key file_block_cmp kept es) q
    ∙ ap (option_map (λ (b : Boxed). b.value)) (find-where_key file_block_cmp kept q (λ x e. ap kept (sym (exact_file_blocks q x e))) es)
    ∙ told (kept q) (find file_block_cmp q es)
    ∙ sym (get-kept exact_file_blocks (blocks_of es) kept q ∙ ap (λ found. cond (kept q) found None) (get-blocks_of es q)))
  where
    told : (b : Bool) (found : Option Boxed) → option_map (λ (b : Boxed). b.value) (cond b found None) ≡ cond b (option_map (λ (b : Boxed). b.value) found) None
    told true found = refl
    told false found = refl

-- ---- the entries of one number

other : (n wanted : ℕ) → (n < wanted) ⊎ (wanted < n) → eqb n wanted ≡ false
other n wanted (inl h) = grind (arith, nat_tests)
other n wanted (inr h) = grind (arith, nat_tests)

same : (n wanted : ℕ) → n ≡ wanted → eqb n wanted ≡ true
same n wanted h = grind (arith, nat_tests)

none_taken : {A : Type 0} (n m : ℕ) → take {A = A} n (drop m []) ≡ []
none_taken zero zero = refl
none_taken zero (suc m) = refl
none_taken (suc n) zero = refl
none_taken (suc n) (suc m) = refl

none_around : {A : Type 0} (n m : ℕ) → take {A = A} n [] ++ drop m [] ≡ []
none_around zero zero = refl
none_around zero (suc m) = refl
none_around (suc n) zero = refl
none_around (suc n) (suc m) = refl

module _ {K X : Type 0} (R : K → K → Ordering) (number_of : K → ℕ) (wanted : ℕ) where
  abbrev Span : List (K × X) → ℕ → ℕ → Type 0
  Span = IsSpan number_of wanted

  later : (e : K × X) (es : List (K × X)) (first end : ℕ) → Span (e ∷ es) (suc first) (suc end) → Span es first end
  later e es first end h = record {
    ordered = omega (arith, h.ordered);
    within = omega (arith, h.within);
    before = λ i d k. h.before (suc i) d (omega arith);
    inside = λ i d k l. h.inside (suc i) d (omega arith) (omega arith);
    behind = λ i d k l. h.behind (suc i) d (omega arith) (omega arith);
  }

  begun : (e : K × X) (es : List (K × X)) (end : ℕ) → Span (e ∷ es) 0 (suc end) → Span es 0 end
  begun e es end h = record {
    ordered = omega arith;
    within = omega (arith, h.within);
    before = λ i d k. absurd (omega arith);
    inside = λ i d k l. h.inside (suc i) d (omega arith) (omega arith);
    behind = λ i d k l. h.behind (suc i) d (omega arith) (omega arith);
  }

  passed_by : (e : K × X) (es : List (K × X)) → Span (e ∷ es) 0 0 → Span es 0 0
  passed_by e es h = record {
    ordered = omega arith;
    within = omega arith;
    before = λ i d k. absurd (omega arith);
    inside = λ i d k l. absurd (omega arith);
    behind = λ i d k l. h.behind (suc i) d (omega arith) (omega arith);
  }

  spanned_by : (es : List (K × X)) (first n end : ℕ) → first + n ≡ end → Span es first end → take n (drop first es) ≡ where_key R (λ key. eqb (number_of key) wanted) es
  spanned_by [] first n end e h = none_taken n first
  spanned_by (x ∷ es) zero zero zero e h =
      spanned_by es 0 0 0 (omega arith) (passed_by x es h)
      ∙ sym (ap (λ b. cond b (x ∷ where_key R (λ key. eqb (number_of key) wanted) es) (where_key R (λ key. eqb (number_of key) wanted) es)) (other (number_of x.0) wanted (inr (h.behind 0 x (omega arith) (omega arith)))))
  spanned_by (x ∷ es) zero zero (suc end) e h = absurd (omega arith)
  spanned_by (x ∷ es) zero (suc n) zero e h = absurd (omega arith)
  spanned_by (x ∷ es) zero (suc n) (suc end) e h =
      ap (λ rest. x ∷ rest) (spanned_by es 0 n end (omega arith) (begun x es end h))
      ∙ sym (ap (λ b. cond b (x ∷ where_key R (λ key. eqb (number_of key) wanted) es) (where_key R (λ key. eqb (number_of key) wanted) es)) (same (number_of x.0) wanted (h.inside 0 x (omega arith) (omega arith))))
  spanned_by (x ∷ es) (suc first) n zero e h = absurd (omega arith)
  spanned_by (x ∷ es) (suc first) n (suc end) e h =
      spanned_by es first n end (omega arith) (later x es first end h)
      ∙ sym (ap (λ b. cond b (x ∷ where_key R (λ key. eqb (number_of key) wanted) es) (where_key R (λ key. eqb (number_of key) wanted) es)) (other (number_of x.0) wanted (inl (h.before 0 x (omega arith)))))

  pub spanned : (es : List (K × X)) (first end : ℕ) → Span es first end → take (end - first) (drop first es) ≡ where_key R (λ key. eqb (number_of key) wanted) es
  spanned es first end h = spanned_by es first (end - first) end (omega (arith, h.ordered)) h

  pub around : (es : List (K × X)) (first end : ℕ) → Span es first end → take first es ++ drop end es ≡ where_key R (λ key. not (eqb (number_of key) wanted)) es
  around [] first end h = none_around first end
  around (e ∷ es) zero zero h =
      ap (λ rest. e ∷ rest) (around es 0 0 (passed_by e es h))
      ∙ sym (ap (λ b. cond (not b) (e ∷ where_key R (λ key. not (eqb (number_of key) wanted)) es) (where_key R (λ key. not (eqb (number_of key) wanted)) es)) (other (number_of e.0) wanted (inr (h.behind 0 e (omega arith) (omega arith)))))
  around (e ∷ es) zero (suc end) h =
      around es 0 end (begun e es end h)
      ∙ sym (ap (λ b. cond (not b) (e ∷ where_key R (λ key. not (eqb (number_of key) wanted)) es) (where_key R (λ key. not (eqb (number_of key) wanted)) es)) (same (number_of e.0) wanted (h.inside 0 e (omega arith) (omega arith))))
  around (e ∷ es) (suc first) zero h = absurd (omega (arith, h.ordered))
  around (e ∷ es) (suc first) (suc end) h =
      ap (λ rest. e ∷ rest) (around es first end (later e es first end h))
      ∙ sym (ap (λ b. cond (not b) (e ∷ where_key R (λ key. not (eqb (number_of key) wanted)) es) (where_key R (λ key. not (eqb (number_of key) wanted)) es)) (other (number_of e.0) wanted (inl (h.before 0 e (omega arith)))))

-- the indices where the entries of a number begin and end, as two searches find them
pub span_found : {K X : Type 0} (number_of : K → ℕ) (wanted : ℕ) (es : List (K × X)) (first end : ℕ) → first ≤ length es → end ≤ length es
    → IsPartitionPoint (λ e. ltb (number_of e.0) wanted ≡ true) (λ e. ltb (number_of e.0) wanted ≡ false) es first
    → IsPartitionPoint (λ e. leb (number_of e.0) wanted ≡ true) (λ e. leb (number_of e.0) wanted ≡ false) es end → IsSpan number_of wanted es first end
span_found {K} {X} number_of wanted es first end short within low high = record {
  ordered = told es refl (cases_lt end first);
  within = within;
  before = λ i d k. is_below (number_of (get_or es i d).0) wanted (low.0 i d (omega arith) k);
  inside = λ i d k l. is_it (number_of (get_or es i d).0) wanted (low.1 i d k (omega arith)) (high.0 i d (omega arith) l);
  behind = λ i d k l. is_above (number_of (get_or es i d).0) wanted (high.1 i d k l);
}
  where
    is_below : (n m : ℕ) → ltb n m ≡ true → n < m
    is_below n m h = grind (arith, nat_tests)

    is_it : (n m : ℕ) → ltb n m ≡ false → leb n m ≡ true → n ≡ m
    is_it n m h k = grind (arith, nat_tests)

    is_above : (n m : ℕ) → leb n m ≡ false → m < n
    is_above n m h = grind (arith, nat_tests)

    never : (n m : ℕ) → ltb n m ≡ true → leb n m ≡ false → ⊥
    never n m h k = grind (arith, nat_tests)

    told : (fs : List (K × X)) → es ≡ fs → (end < first) ⊎ (first ≤ end) → first ≤ end
    told fs e (inr k) = k
    told [] e (inl k) = absurd (omega (arith, ap length e))
    told (f ∷ fs) e (inl k) = absurd (never (number_of (get_or es end f).0) wanted (low.0 end f (omega arith) k) (high.1 end f (omega arith) (omega arith)))

-- entries that are in order are so by the numbers that come first in their keys
pub rising : {K X : Type 0} {R : K → K → Ordering} → IsTotalOrder R → (number_of : K → ℕ) → ((a b : K) → R a b ≡ Less → number_of a ≤ number_of b) → (es : List (K × X)) → is_sorted R es ≡ true → IsNonDecreasingBy (λ e. number_of e.0) es
rising {K} {X} {R} o number_of rises es h = IsNonDecreasingBy-from_all_adjacent (λ e. number_of e.0) es (λ k d below. rw add-one (rises (get_or es k d).0 (get_or es (suc k) d).0 (adjacent o es k d h (omega arith))))

first_rises : (a b : ℕ) (r : Ordering) → ordering_then (nat_cmp a b) r ≡ Less → a ≤ b
first_rises a b r h = told (cases_lt b a)
  where
    told : (b < a) ⊎ (a ≤ b) → a ≤ b
    told (inl k) = let never : Greater ≡ Less = ap (λ o. ordering_then o r) (nat_cmp_is a b Greater k) ∙ h in cc
    told (inr k) = k

pub rising-names : (es : List (Link × Option ℕ)) → is_sorted link_cmp es ≡ true → IsNonDecreasingBy (λ e. e.0.directory) es
rising-names es h = rising links_total (λ (link : Link). link.directory) (λ a b e. first_rises a.directory b.directory _ e) es h

pub rising-blocks : (es : List (FileBlock × Boxed)) → is_sorted file_block_cmp es ≡ true → IsNonDecreasingBy (λ e. e.0.file) es
rising-blocks es h = rising file_blocks_total (λ (file_block : FileBlock). file_block.file) (λ a b e. first_rises a.file b.file _ e) es h

-- ---- what is left of sorted entries

pub then : {A : Type 0} {x y z : A} → y ≡ z → x ≡ y → x ≡ z
then q p = p ∙ q

pub sorted_left : {K X : Type 0} (R : K → K → Ordering) (kept : K → Bool) (left es : List (K × X)) → left ≡ where_key R kept es → is_sorted R es ≡ true → is_sorted R left ≡ true
sorted_left R kept left es e h = ap (is_sorted R) e ∙ sorted-kept R kept es h
