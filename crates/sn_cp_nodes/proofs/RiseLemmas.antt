-- Numbers that rise, and keys that come before others.
use Rattle.std.proofs.Common.{◌≡◌, ◌≢◌, ⊎_elim, ℕ, suc, ◌+◌, ◌<◌, ◌≤◌, T, List, [], ◌∷◌, Contains, refl, ap, subst, ◌∙◌, arith}
use Rattle.std.specs.Prelude.{slice_index}
use Rattle.std.specs.Cmp.{nat_cmp_is}
use Rattle.std.specs.List.Sorted.{IsStrictlyIncreasing}
use Rattle.std.specs.Ordering.{is_lt, nat_cmp}
use Rattle.std.specs.declared.cmp.Ordering.{Ordering}
use Rattle.std.specs.declared.cmp.Ordering.TheVariants.{Less, Equal, Greater}
use Rattle.std.proofs.lemmas.Bool.{cases_eq, cases_lt}
use Rattle.sn_ondisk.specs.Counts.{times}
use Rattle.sn_ondisk.proofs.CountLemmas.{among_times, times-cons, times-other, times-same}

pub rest_rises : (x : ℕ) (xs : List ℕ) → IsStrictlyIncreasing (x ∷ xs) → IsStrictlyIncreasing xs
rest_rises x xs rise k within =
    let at : suc k + 1 ≡ suc (k + 1) = omega arith in
    subst (λ (m : ℕ). slice_index xs k < slice_index (x ∷ xs) m) at (rise (suc k) (omega (arith, within)))

below_rest : (x y : ℕ) (xs : List ℕ) → IsStrictlyIncreasing (x ∷ xs) → y ≤ x → times y xs ≡ 0
below_rest x y [] rise le = refl
below_rest x y (z ∷ xs) rise le =
    let next : x < z = rise 0 (omega arith) in
    let other : z ≢ y = λ e. omega (arith, next, le, e) in
    times-cons y z xs ∙ omega (arith, times-other y z other, below_rest z y xs (rest_rises x (z ∷ xs) rise) (omega (arith, next, le)))

-- the first isn't among the others
pub first_apart : (x : ℕ) (xs : List ℕ) → IsStrictlyIncreasing (x ∷ xs) → Contains xs x → ⊥
first_apart x xs rise among = omega (arith, among_times x xs among, below_rest x x xs rise (omega arith))

pub rising_once : (xs : List ℕ) → IsStrictlyIncreasing xs → (y : ℕ) → times y xs ≤ 1
rising_once [] rise y = omega arith
rising_once (x ∷ xs) rise y = ⊎_elim
    (λ (same : x ≡ y). omega (arith, times-cons y x xs, ap (λ (z : ℕ). times y (z ∷ [])) same, times-same y, below_rest x y xs rise (omega (arith, same))))
    (λ (other : x ≢ y). omega (arith, times-cons y x xs, times-other y x other, rising_once xs (rest_rises x xs rise) y))
    (cases_eq x y)

-- ---- keys

pub lesser : (r : Ordering) → T (is_lt r) → r ≡ Less
lesser Less h = refl
lesser Equal h = absurd h
lesser Greater h = absurd h

pub less_by : (a b : ℕ) → nat_cmp a b ≡ Less → a < b
less_by a b is = ⊎_elim
    (λ (less : a < b). less)
    (λ (not : b ≤ a). ⊎_elim
    (λ (greater : b < a). let never : Greater ≡ Less = nat_cmp_is a b Greater greater ∙ is in absurd cc)
    (λ (equal : a ≤ b). let never : Equal ≡ Less = nat_cmp_is a b Equal (omega (arith, not, equal)) ∙ is in absurd cc)
    (cases_lt b a))
    (cases_lt a b)
