-- How often something is in a list, and what holds of all that is in it.
use Rattle.std.proofs.Common.{◌≡◌, ◌≢◌, ◌⊎◌, inl, inr, ⊎_elim, ℕ, zero, suc, ◌+◌, ◌<◌, ◌≤◌, ◌==◌, Bool, true, false, cond, List, [], ◌∷◌, ◌++◌, map, flat_map, take, drop, replicate, Some, Contains, count_by, sum_by, refl, sym, ap, subst, ◌∙◌, arith, if◌then◌else◌}
use Rattle.std.specs.List.{AllByRecursion, range_with_len}
use Rattle.std.specs.Str.{bytes_eq}
use Rattle.std.proofs.lemmas.Bool.{eq-eqb, eqb-true, true≢false}
use Rattle.std.proofs.lemmas.List.Sums.{sum_by-cons}
use Rattle.std.proofs.lemmas.Slice.Eq.{bytes_eq-Decides}
use Rattle.sn_layout_node.specs.Directory.{Link, number_of}
use Rattle.sn_image.proofs.ListLemmas.{none_in}

-- ---- sums

pub cases : {A : Type 0} (x : A) (xs : List A) (y : A) → Contains (x ∷ xs) y → (x ≡ y) ⊎ Contains xs y
cases x xs y (zero, within, is) = inl is
cases x xs y (suc k, within, is) = inr (k, omega (arith, within), is)

module _ {A : Type 0} (f : A → ℕ) where
  pub sum_one : (xs : List A) (x : A) → Contains xs x → f x ≤ sum_by f xs
  sum_one [] x among = none_in x among
  sum_one (z ∷ xs) x among = ⊎_elim
      (λ (same : z ≡ x). omega (arith, sum_by-cons f z xs, ap f same))
      (λ more. omega (arith, sum_by-cons f z xs, sum_one xs x more))
      (cases z xs x among)

  pub sum_two : (xs : List A) (x y : A) → x ≢ y → Contains xs x → Contains xs y → f x + f y ≤ sum_by f xs
  sum_two [] x y apart one two = none_in x one
  sum_two (z ∷ xs) x y apart one two = told (sum_two xs x y apart) (cases z xs x one) (cases z xs y two)
    where
      told : (Contains xs x → Contains xs y → f x + f y ≤ sum_by f xs) → (z ≡ x) ⊎ Contains xs x → (z ≡ y) ⊎ Contains xs y → f x + f y ≤ sum_by f (z ∷ xs)
      told later (inl a) (inl b) = absurd (apart (sym a ∙ b))
      told later (inl a) (inr more) = omega (arith, sum_by-cons f z xs, ap f a, sum_one xs y more)
      told later (inr more) (inl b) = omega (arith, sum_by-cons f z xs, ap f b, sum_one xs x more)
      told later (inr a) (inr b) = omega (arith, sum_by-cons f z xs, later a b)

-- a sum of which one number alone has a part
pub sum_at : (f : ℕ → ℕ) (d most : ℕ) → f d ≤ most → ((n : ℕ) → n ≢ d → f n ≡ 0) → (a n : ℕ) → sum_by f (range_with_len a n) ≤ most
sum_at f d most own others a zero = omega arith
sum_at f d most own others a (suc n) = told (sum_at f d most own others (a + 1) n) (a == d) refl
  where
    none : (b m : ℕ) → d < b → sum_by f (range_with_len b m) ≡ 0
    none b zero above = refl
    none b (suc m) above =
        let other : b ≢ d = (λ same. omega (arith, same, above)) in
        omega (arith, sum_by-cons f b (range_with_len (b + 1) m), others b other, none (b + 1) m (omega (arith, above)))

    told : sum_by f (range_with_len (a + 1) n) ≤ most → (t : Bool) → (a == d) ≡ t → sum_by f (a ∷ range_with_len (a + 1) n) ≤ most
    told later true e =
        let same : a ≡ d = eqb-true a d e in
        omega (arith, sum_by-cons f a (range_with_len (a + 1) n), ap f same, own, none (a + 1) n (omega (arith, same)))
    told later false e =
        let other : a ≢ d = (λ same. true≢false (sym (eq-eqb a d same) ∙ e)) in
        omega (arith, sum_by-cons f a (range_with_len (a + 1) n), others a other, later)

pub count-map : {A B : Type 0} (p : B → Bool) (g : A → B) (xs : List A) → count_by p (map g xs) ≡ count_by (λ x. p (g x)) xs
count-map p g [] = refl
count-map {A} p g (x ∷ xs) = omega (arith, sum_by-cons (λ y. cond (p y) 1 0) (g x) (map g xs), count-map p g xs, sum_by-cons (λ (y : A). cond (p (g y)) 1 0) x xs)

pub count-none : {A : Type 0} (p : A → Bool) (xs : List A) → ((x : A) → p x ≡ false) → count_by p xs ≡ 0
count-none p [] none = refl
count-none p (x ∷ xs) none = omega (arith, sum_by-cons (λ y. cond (p y) 1 0) x xs, ap {B = ℕ} (λ (b : Bool). cond b 1 0) (none x), count-none p xs none)

abbrev pub weight_of : Bool → ℕ
weight_of b = cond b 1 0

pub once : (b : Bool) → b ≡ true → weight_of b ≡ 1
once b is = ap weight_of is

-- ---- the number under a name that occurs once

-- 1 where the names are the same
abbrev pub same_name : Link → Link → ℕ
same_name x y = cond (bytes_eq y.name x.name) 1 0

pub found_once : (names : List Link) (x : Link) → count_by (λ l. bytes_eq l.name x.name) names ≤ 1 → Contains names x → number_of x.name names ≡ Some x.number
found_once [] x few among = none_in x among
found_once (l ∷ ls) x few among = told (found_once ls x) (bytes_eq l.name x.name) refl (cases l ls x among)
  where
    self : same_name x x ≡ 1
    self = once (bytes_eq x.name x.name) ((bytes_eq-Decides x.name x.name).1 refl)

    told : (count_by (λ y. bytes_eq y.name x.name) ls ≤ 1 → Contains ls x → number_of x.name ls ≡ Some x.number) → (b : Bool) → bytes_eq l.name x.name ≡ b → (l ≡ x) ⊎ Contains ls x → (if b then Some l.number else number_of x.name ls) ≡ Some x.number
    told later true e (inl same) = ap (λ (y : Link). Some y.number) same
    told later true e (inr more) =
        let here : same_name x l ≡ 1 = once (bytes_eq l.name x.name) e in
        let sum = sum_by-cons (same_name x) l ls in
        let rest = sum_one (same_name x) ls x more in
        absurd (omega (arith, few, here, sum, rest, self))
    told later false e (inl same) = absurd (true≢false (sym ((bytes_eq-Decides l.name x.name).1 (ap (λ (y : Link). y.name) same)) ∙ e))
    told later false e (inr more) = later (omega (arith, few, sum_by-cons (same_name x) l ls)) more

-- ---- what holds of all

module _ {A : Type 0} (P : A → Type 0) where
  pub all_append : (xs ys : List A) → AllByRecursion P xs → AllByRecursion P ys → AllByRecursion P (xs ++ ys)
  all_append [] ys a b = b
  all_append (x ∷ xs) ys a b = (a.0, all_append xs ys a.1 b)

  pub all_take : (n : ℕ) (xs : List A) → AllByRecursion P xs → AllByRecursion P (take n xs)
  all_take zero xs a = tt
  all_take (suc n) [] a = tt
  all_take (suc n) (x ∷ xs) a = (a.0, all_take n xs a.1)

  pub all_drop : (n : ℕ) (xs : List A) → AllByRecursion P xs → AllByRecursion P (drop n xs)
  all_drop zero xs a = a
  all_drop (suc n) [] a = tt
  all_drop (suc n) (x ∷ xs) a = all_drop n xs a.1

  pub all_replicate : (n : ℕ) (x : A) → P x → AllByRecursion P (replicate n x)
  all_replicate zero x p = tt
  all_replicate (suc n) x p = (p, all_replicate n x p)

  pub all_flat_map : {X : Type 0} (f : X → List A) (xs : List X) → ((x : X) → Contains xs x → AllByRecursion P (f x)) → AllByRecursion P (flat_map f xs)
  all_flat_map f [] each = tt
  all_flat_map f (x ∷ xs) each = all_append (f x) (flat_map f xs) (each x (0, omega arith, refl)) (all_flat_map f xs (λ y more. each y (suc more.0, omega (arith, more.1), more.2)))

  pub all_has : (xs : List A) (x : A) → AllByRecursion P xs → Contains xs x → P x
  all_has [] x a among = none_in x among
  all_has (y ∷ ys) x a among = ⊎_elim (λ (same : y ≡ x). subst P same a.0) (λ more. all_has ys x a.1 more) (cases y ys x among)
