-- Sums over numbers, of which some change.
use Rattle.std.proofs.Common.{◌≡◌, ◌≢◌, ⊎_elim, ℕ, ◌+◌, ◌*◌, ◌<◌, ◌≤◌, List, [], ◌∷◌, sum_by, refl, sym, ap, ◌∙◌, arith}
use Rattle.std.proofs.lemmas.Bool.{cases_eq, cases_lt}
use Rattle.std.proofs.lemmas.List.Sums.{sum_by-cons}
use Rattle.sn_ondisk.specs.Counts.{times}
use Rattle.sn_ondisk.proofs.CountLemmas.{times-cons, times-same, times-other}

module _ {X : Type 0} where
  pub sum_alike : (f g : X → ℕ) (xs : List X) → ((x : X) → f x ≡ g x) → sum_by f xs ≡ sum_by g xs
  sum_alike f g [] each = refl
  sum_alike f g (x ∷ xs) each = omega (arith, sum_by-cons f x xs, sum_by-cons g x xs, each x, sum_alike f g xs each)

  pub sum_both : (f g : X → ℕ) (xs : List X) → sum_by (λ x. f x + g x) xs ≡ sum_by f xs + sum_by g xs
  sum_both f g [] = refl
  sum_both f g (x ∷ xs) = omega (arith, sum_by-cons (λ (y : X). f y + g y) x xs, sum_by-cons f x xs, sum_by-cons g x xs, sum_both f g xs)

  pub sum_nothing : (xs : List X) → sum_by (λ (x : X). 0) xs ≡ 0
  sum_nothing [] = refl
  sum_nothing (x ∷ xs) = omega (arith, sum_by-cons (λ (y : X). 0) x xs, sum_nothing xs)

-- of one number alone
module _ (f : ℕ → ℕ) (c : ℕ) where
  abbrev at_one : ℕ → ℕ
  at_one n = f n * times n (c ∷ [])

  first_one : (n : ℕ) (all : List ℕ) → sum_by at_one all ≡ f c * times c all → sum_by at_one (n ∷ all) ≡ f c * times c (n ∷ all)
  first_one n all later = ⊎_elim same other (cases_eq n c)
    where
      rest : sum_by at_one (n ∷ all) ≡ at_one n + f c * times c all
      rest = omega (arith, sum_by-cons at_one n all, later)

      same : n ≡ c → sum_by at_one (n ∷ all) ≡ f c * times c (n ∷ all)
      same is =
          let here : at_one n ≡ f c * 1 = ap at_one is ∙ ap (λ (t : ℕ). f c * t) (times-same c) in
          let there : times c (n ∷ all) ≡ 1 + times c all = times-cons c n all ∙ ap (λ (t : ℕ). t + times c all) (ap (λ (m : ℕ). times c (m ∷ [])) is ∙ times-same c) in
          rest ∙ omega (arith, here, ap (λ (t : ℕ). f c * t) there)

      other : n ≢ c → sum_by at_one (n ∷ all) ≡ f c * times c (n ∷ all)
      other apart =
          let here : at_one n ≡ f n * 0 = ap (λ (t : ℕ). f n * t) (times-other n c (λ e. apart (sym e))) in
          let there : times c (n ∷ all) ≡ times c all = omega (arith, times-cons c n all, times-other c n apart) in
          rest ∙ omega (arith, here, ap (λ (t : ℕ). f c * t) there)

  sum_one : (all : List ℕ) → sum_by at_one all ≡ f c * times c all
  sum_one [] = omega arith
  sum_one (n ∷ all) = first_one n all (sum_one all)

module _ (all : List ℕ) (once : (n : ℕ) → times n all ≤ 1) where
  once_here : (f : ℕ → ℕ) (c : ℕ) → (times c all ≡ 0 → f c ≡ 0) → f c * times c all ≡ f c
  once_here f c outside = ⊎_elim
      (λ (some : 0 < times c all). let one : times c all ≡ 1 = omega (arith, some, once c) in omega (arith, ap (λ (t : ℕ). f c * t) one))
      (λ (not : times c all ≤ 0). let none : times c all ≡ 0 = omega (arith, not) in omega (arith, ap (λ (t : ℕ). f c * t) none, outside none))
      (cases_lt 0 (times c all))

  -- a sum over some numbers, as one over all
  pub sum_over : (f : ℕ → ℕ) → ((n : ℕ) → times n all ≡ 0 → f n ≡ 0) → (some : List ℕ) → sum_by (λ (n : ℕ). f n * times n some) all ≡ sum_by f some
  sum_over f outside [] = sum_alike (λ (n : ℕ). f n * times n []) (λ (n : ℕ). 0) all (λ n. omega arith) ∙ sum_nothing all
  sum_over f outside (c ∷ some) =
      let split = sum_alike (λ (n : ℕ). f n * times n (c ∷ some)) (λ (n : ℕ). f n * times n (c ∷ []) + f n * times n some) all
      (λ n. omega (arith, ap (λ (t : ℕ). f n * t) (times-cons n c some))) in
      omega (arith, split, sum_both (λ (n : ℕ). f n * times n (c ∷ [])) (λ (n : ℕ). f n * times n some) all, sum_one f c all, once_here f c (outside c), sum_over f outside some, sum_by-cons f c some)

  -- Where two functions differ at some numbers alone, their sums over all differ by what those have.
  module _ (f g : ℕ → ℕ) (f_outside : (n : ℕ) → times n all ≡ 0 → f n ≡ 0) (g_outside : (n : ℕ) → times n all ≡ 0 → g n ≡ 0) (some : List ℕ) (some_once : (n : ℕ) → times n some ≤ 1)
      (alike : (n : ℕ) → times n some ≡ 0 → f n ≡ g n) where
    pointwise : (n : ℕ) → f n + g n * times n some ≡ g n + f n * times n some
    pointwise n = ⊎_elim
        (λ (changed : 0 < times n some). let one : times n some ≡ 1 = omega (arith, changed, some_once n) in omega (arith, ap (λ (t : ℕ). f n * t) one, ap (λ (t : ℕ). g n * t) one))
        (λ (not : times n some ≤ 0). let none : times n some ≡ 0 = omega (arith, not) in omega (arith, ap (λ (t : ℕ). f n * t) none, ap (λ (t : ℕ). g n * t) none, alike n none))
        (cases_lt 0 (times n some))

    pub sums_differ : sum_by f all + sum_by g some ≡ sum_by g all + sum_by f some
    sums_differ = omega (
      arith,
      sum_alike (λ (n : ℕ). f n + g n * times n some) (λ (n : ℕ). g n + f n * times n some) all pointwise,
      sum_both f (λ (n : ℕ). g n * times n some) all,
      sum_both g (λ (n : ℕ). f n * times n some) all,
      sum_over f f_outside some,
      sum_over g g_outside some,
    )
