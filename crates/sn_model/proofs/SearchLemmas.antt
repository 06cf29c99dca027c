-- A search for the first number that isn't used.
use Rattle.std.proofs.Common.{◌≡◌, ℕ, zero, suc, ◌+◌, ◌-◌, ◌<◌, ◌≤◌, Bool, true, false, cond, Some, None, is_some, refl, sym, ap, ◌∙◌, arith, add-zero}
use Rattle.std.specs.FinMap as map
use Rattle.sn_limits.specs.declared.limits.Limits.{Limits}
use Rattle.sn_model.specs.Tree.{Tree, first_without, least_unused}

-- it ends at the first number that isn't used
pub first_found : (used : ℕ → Bool) (first n more : ℕ) → ((k : ℕ) → first ≤ k → k < first + n → used k ≡ true) → used (first + n) ≡ false → n < more → first_without used first more ≡ Some (first + n)
unfolding first_without
first_found used first n zero all none lt = absurd (omega arith)
first_found used first zero (suc more) all none lt =
    let here : used first ≡ false = ap used (sym (add-zero first)) ∙ none in
    rw here (ap (λ k. Some k) (sym (add-zero first)))
first_found used first (suc n) (suc more) all none lt =
    let here : used first ≡ true = all first (omega arith) (omega arith) in
    let shift : first + 1 + n ≡ first + suc n = omega arith in
    rw here (first_found used (first + 1) n more (λ k low high. all k (omega arith) (omega arith)) (ap used shift ∙ none) (omega arith) ∙ ap (λ k. Some k) shift)

-- and finds none where all are used
pub none_without : (used : ℕ → Bool) (first more : ℕ) → ((k : ℕ) → first ≤ k → k < first + more → used k ≡ true) → first_without used first more ≡ None
unfolding first_without
none_without used first zero all = refl
none_without used first (suc more) all =
    let here : used first ≡ true = all first (omega arith) (omega arith) in
    rw here (none_without used (first + 1) more (λ k low high. all k (omega arith) (omega arith)))

-- a number that was found isn't used, and lies among those that were looked at
pub is_found : (used : ℕ → Bool) (first more number : ℕ) → first_without used first more ≡ Some number → (used number ≡ false) × (first ≤ number) × (number < first + more)
unfolding first_without
is_found used first zero number e = cc
is_found used first (suc more) number e = looked (used first) refl (is_found used (first + 1) more number) e
  where
    looked : (b : Bool) → used first ≡ b → (first_without used (first + 1) more ≡ Some number → (used number ≡ false) × (first + 1 ≤ number) × (number < first + 1 + more))
        → cond b (first_without used (first + 1) more) (Some first) ≡ Some number → (used number ≡ false) × (first ≤ number) × (number < first + suc more)
    looked true t further f = let k = further f in (k.0, omega (arith, k.1), omega (arith, k.2))
    looked false t further f = let same : first ≡ number = cc in (ap used (sym same) ∙ t, omega (arith, same), omega (arith, same))

-- ---- the least number that no node has

-- is the first one after those that are used
pub least_is : (limits : Limits) (tree : Tree) (number : ℕ) → ((k : ℕ) → 2 ≤ k → k < number → is_some (map.get tree.nodes k) ≡ true) → map.get tree.nodes number ≡ None → 2 ≤ number → number ≤ limits.largest_number → least_unused limits tree ≡ Some number
unfolding least_unused
least_is limits tree number used unused low high =
    let sum : 2 + (number - 2) ≡ number = omega arith in
    first_found (λ k. is_some (map.get tree.nodes k)) 2 (number - 2) (limits.largest_number - 1) (λ k l h. used k l (omega (arith, sum))) (ap (λ k. is_some (map.get tree.nodes k)) sum ∙ ap is_some unused) (omega (arith, sum)) ∙ ap (λ k. Some k) sum

pub none_is : (limits : Limits) (tree : Tree) (end : ℕ) → ((k : ℕ) → 2 ≤ k → k < end → is_some (map.get tree.nodes k) ≡ true) → limits.largest_number < end → least_unused limits tree ≡ None
unfolding least_unused
none_is limits tree end used all = none_without (λ k. is_some (map.get tree.nodes k)) 2 (limits.largest_number - 1) (λ k low high. used k low (omega (arith, all)))
