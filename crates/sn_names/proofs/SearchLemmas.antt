-- Searching numbers.
use Rattle.std.proofs.Common.{◌≡◌, ◌<◌, ◌≤◌, ℕ, Option, Some, None, IfSome, List, [], ◌∷◌, ◌++◌, length, get_or, sym, subst, ◌∙◌, inl, inr, arith}
use Rattle.std.specs.List.{Contains}
use Rattle.std.proofs.lemmas.List.{get_or_default}
use Rattle.std.specs.List.Sorted.{IsPermutation, IsNonDecreasing}
use Rattle.std.proofs.lemmas.List.Elements.{Contains-append_cases, Contains-append_left, Contains-append_right}
use Rattle.std.proofs.lemmas.List.Sorted.{Contains-permutation}
use Rattle.sn_names.specs.Search.{IsAtMost, IsNext, HasAll}

-- what is sorted after numbers were put to others has all of them
pub sorted_has_all : (xs ys zs both : List ℕ) → both ≡ xs ++ ys → IsPermutation both zs → HasAll (xs ++ ys) zs
sorted_has_all xs ys zs both e p n h = Contains-permutation both zs n p (subst (λ (l : List ℕ). Contains l n) (sym e) h)

-- a search finds the place where a number would be
pub next_after : (xs : List ℕ) (from at : ℕ) → IsNonDecreasing xs → ((k : ℕ) → k < at → get_or xs k 0 < from) → ((k : ℕ) → at ≤ k → k < length xs → from < get_or xs k 0) → at < length xs → IsNext from xs (Some (get_or xs at 0))
next_after xs from at rises below above within = record {
  after = let h = above at (omega arith) within in omega arith;
  least = λ n h le.
      let e : get_or xs h.0 0 ≡ n = get_or_default xs h.0 0 n h.1 ∙ h.2 in
      let before : h.0 < at → get_or xs h.0 0 < from = below h.0 in
      let later : at ≤ h.0 → get_or xs at 0 ≤ get_or xs h.0 0 = λ late. rises at h.0 0 late h.1 in
      grind arith;
}

pub next_none : (xs : List ℕ) (from at : ℕ) → ((k : ℕ) → k < at → get_or xs k 0 < from) → length xs ≤ at → IsNext from xs None
next_none xs from at below over = record {
  after = tt;
  least = λ n h le.
      let e : get_or xs h.0 0 ≡ n = get_or_default xs h.0 0 n h.1 ∙ h.2 in
      let before : h.0 < at → get_or xs h.0 0 < from = below h.0 in
      let within : h.0 < length xs = h.1 in
      absurd (omega arith);
}

-- the earlier of two is the next of both
pub next_of_both : (xs ys : List ℕ) (from : ℕ) (a b r : Option ℕ) → IsNext from xs a → IsNext from ys b → ((n : ℕ) → IsAtMost a n → IsAtMost r n) → ((n : ℕ) → IsAtMost b n → IsAtMost r n)
    → ((n : ℕ) → IfSome a (λ m. n ≤ m) → IfSome b (λ m. n ≤ m) → IfSome r (λ m. n ≤ m)) → IsNext from (xs ++ ys) r
next_of_both xs ys from a b r p q first second after = record {
  after = after from p.after q.after;
  least = λ n h le. elim (Contains-append_cases xs ys n h) [ inl g ↦ first n (p.least n g le) | inr g ↦ second n (q.least n g le) ];
}

-- a number more
pub has_all_more : (xs ys zs : List ℕ) (y : ℕ) → zs ≡ ys ++ y ∷ [] → HasAll (y ∷ (xs ++ ys)) (xs ++ zs)
has_all_more xs ys zs y e n h = subst (λ (l : List ℕ). Contains (xs ++ l) n) (sym e) (elim (Contains-append_cases (y ∷ []) (xs ++ ys) n h) [
  | inl g ↦ Contains-append_right xs (ys ++ y ∷ []) n (Contains-append_right ys (y ∷ []) n g)
  | inr g ↦ elim (Contains-append_cases xs ys n g) [
    | inl k ↦ Contains-append_left xs (ys ++ y ∷ []) n k
    | inr k ↦ Contains-append_right xs (ys ++ y ∷ []) n (Contains-append_left ys (y ∷ []) n k)
  ]
])

-- the same numbers once those that came since are in their places
pub has_all_settled : (xs ys ys' zs rest : List ℕ) → IsPermutation ys ys' → HasAll (xs ++ ys') zs → HasAll (xs ++ ys) (zs ++ rest)
has_all_settled xs ys ys' zs rest p all n h = Contains-append_left zs rest n (all n (elim (Contains-append_cases xs ys n h) [
  | inl g ↦ Contains-append_left xs ys' n g
  | inr g ↦ Contains-append_right xs ys' n (Contains-permutation ys ys' n p g)
]))

-- numbers put to the first part
pub has_all_front : (xs ys zs more : List ℕ) → HasAll (xs ++ more) zs → HasAll ((xs ++ ys) ++ more) (zs ++ ys)
has_all_front xs ys zs more all n h = elim (Contains-append_cases (xs ++ ys) more n h) [
  | inl g ↦ elim (Contains-append_cases xs ys n g) [
    | inl k ↦ Contains-append_left zs ys n (all n (Contains-append_left xs more n k))
    | inr k ↦ Contains-append_right zs ys n k
  ]
  | inr g ↦ Contains-append_left zs ys n (all n (Contains-append_right xs more n g))
]
