-- Lists made piece by piece: what is in them, and what is found in them.
use Rattle.std.proofs.Common.{◌≡◌, ◌≢◌, ◌⊎◌, inl, inr, ⊎_elim, ℕ, ◌+◌, ◌-◌, ◌<◌, ◌≤◌, Bool, true, false, cond, List, [], ◌∷◌, ◌++◌, Some, None, Contains, count_by, sum_by, flat_map, refl, sym, ap, subst, ◌∙◌, arith}
use Rattle.std.specs.declared.cmp.Ordering.{Ordering}
use Rattle.std.specs.List.{range_with_len}
use Rattle.std.specs.Ordering.{eq_by_cmp}
use Rattle.std.specs.FinMap.Entries.{find}
use Rattle.std.proofs.lemmas.List.Elements.{Contains-append_left, Contains-append_right, Contains-append_cases}
use Rattle.std.proofs.lemmas.List.FromFn.{length-range_with_len, get_or-range_with_len}
use Rattle.std.proofs.lemmas.List.Sums.{sum_by-append, sum_by-cons}
use Rattle.sn_device.proofs.SectorLemmas.{Contains-first, Contains-more, Contains-cases}

-- ---- what is in them

pub none_in : {X A : Type 0} (x : X) → Contains [] x → A
none_in x (k, within, is) = absurd (omega (arith, within))

pub flat_map-has : {A : Type 0} (f : ℕ → List A) (xs : List ℕ) (x : ℕ) (y : A) → Contains xs x → Contains (f x) y → Contains (flat_map f xs) y
flat_map-has f [] x y among in_piece = none_in x among
flat_map-has {A} f (z ∷ xs) x y among in_piece = ⊎_elim
    (λ (same : x ≡ z). Contains-append_left (f z) (flat_map f xs) y (subst (λ (n : ℕ). Contains (f n) y) same in_piece))
    (λ more. Contains-append_right (f z) (flat_map f xs) y (flat_map-has f xs x y more in_piece))
    (Contains-cases z xs x among)

pub flat_map-from : {A : Type 0} (f : ℕ → List A) (xs : List ℕ) (y : A) → Contains (flat_map f xs) y → (x : ℕ) × Contains xs x × Contains (f x) y
flat_map-from f [] y among = none_in y among
flat_map-from {A} f (z ∷ xs) y among = ⊎_elim
    (λ here. (z, Contains-first z xs, here))
    (λ more. let w = flat_map-from f xs y more in (w.0, Contains-more z xs w.0 w.1, w.2))
    (Contains-append_cases (f z) (flat_map f xs) y among)

pub flat_map-alike : {X A : Type 0} (f g : X → List A) (xs : List X) → ((x : X) → g x ≡ f x) → flat_map g xs ≡ flat_map f xs
flat_map-alike f g [] each = refl
flat_map-alike f g (x ∷ xs) each = ap (λ piece. piece ++ flat_map g xs) (each x) ∙ ap (λ rest. f x ++ rest) (flat_map-alike f g xs each)

pub range-has : (a n i : ℕ) → a ≤ i → i < a + n → Contains (range_with_len a n) i
range-has a n i from to =
    let within : i - a < n = omega (arith, from, to) in
    let here : a + (i - a) ≡ i = omega (arith, from) in
    (i - a, omega (arith, within, length-range_with_len a n), get_or-range_with_len a n (i - a) i within ∙ here)

pub range-from : (a n i : ℕ) → Contains (range_with_len a n) i → (a ≤ i) × (i < a + n)
range-from a n i (k, within, is) =
    let under : k < n = omega (arith, within, length-range_with_len a n) in
    let here : a + k ≡ i = sym (get_or-range_with_len a n k i under) ∙ is in
    (omega (arith, here), omega (arith, here, under))

-- ---- how often something is in them

pub count-append : {X : Type 0} (p : X → Bool) (xs ys : List X) → count_by p (xs ++ ys) ≡ count_by p xs + count_by p ys
count-append p xs ys = sum_by-append (λ x. cond (p x) 1 0) xs ys

pub count-flat_map : {X A : Type 0} (p : A → Bool) (f : X → List A) (xs : List X) → count_by p (flat_map f xs) ≡ sum_by (λ x. count_by p (f x)) xs
count-flat_map p f [] = refl
count-flat_map {X} p f (x ∷ xs) = omega (arith, count-append p (f x) (flat_map f xs), count-flat_map p f xs, sum_by-cons (λ (y : X). count_by p (f y)) x xs)

-- ---- what is found in them

some_none : {A B : Type 0} (x : A) → Some x ≡ None → B
some_none x e = absurd cc

module _ {K X : Type 0} (R : K → K → Ordering) (q : K) where
  pub find-behind : (xs ys : List (K × X)) → find R q xs ≡ None → find R q (xs ++ ys) ≡ find R q ys
  find-behind [] ys none = refl
  find-behind (e ∷ es) ys none = told (eq_by_cmp R q e.0) none (find-behind es ys)
    where
      told : (b : Bool) → cond b (Some e.1) (find R q es) ≡ None → (find R q es ≡ None → find R q (es ++ ys) ≡ find R q ys) → cond b (Some e.1) (find R q (es ++ ys)) ≡ find R q ys
      told true never later = some_none e.1 never
      told false still later = later still

  pub find-front : (xs ys : List (K × X)) (v : X) → find R q xs ≡ Some v → find R q (xs ++ ys) ≡ Some v
  find-front [] ys v found = some_none v (sym found)
  find-front (e ∷ es) ys v found = told (eq_by_cmp R q e.0) found (find-front es ys v)
    where
      told : (b : Bool) → cond b (Some e.1) (find R q es) ≡ Some v → (find R q es ≡ Some v → find R q (es ++ ys) ≡ Some v) → cond b (Some e.1) (find R q (es ++ ys)) ≡ Some v
      told true here later = here
      told false still later = later still

  -- pieces by numbers, of which one alone can have the key
  module _ (f : ℕ → List (K × X)) (d : ℕ) (others : (n : ℕ) → n ≢ d → find R q (f n) ≡ None) (same_or_not : (n : ℕ) → (n ≡ d) ⊎ (n ≢ d)) where
    pub missed : (ns : List ℕ) → find R q (f d) ≡ None → find R q (flat_map f ns) ≡ None
    missed [] none = refl
    missed (n ∷ ns) none =
        let here : find R q (f n) ≡ None = ⊎_elim (λ (same : n ≡ d). ap (λ (m : ℕ). find R q (f m)) same ∙ none) (others n) (same_or_not n) in
        find-behind (f n) (flat_map f ns) here ∙ missed ns none

    pub found_in : (ns : List ℕ) (v : X) → Contains ns d → find R q (f d) ≡ Some v → find R q (flat_map f ns) ≡ Some v
    found_in [] v among found = none_in d among
    found_in (n ∷ ns) v among found = told (λ more. found_in ns v more found) (same_or_not n)
      where
        told : (Contains ns d → find R q (flat_map f ns) ≡ Some v) → (n ≡ d) ⊎ (n ≢ d) → find R q (flat_map f (n ∷ ns)) ≡ Some v
        told later (inl same) = find-front (f n) (flat_map f ns) v (ap (λ (m : ℕ). find R q (f m)) same ∙ found)
        told later (inr apart) = ⊎_elim
            (λ (same : d ≡ n). absurd (apart (sym same)))
            (λ more. find-behind (f n) (flat_map f ns) (others n apart) ∙ later more)
            (Contains-cases n ns d among)
