-- Elements of lists, and names among links.
use Rattle.std.proofs.Common.{◌≡◌, ◌≢◌, ◌⊎◌, inl, inr, ℕ, zero, suc, ◌+◌, Bool, true, false, cond, if◌then◌else◌, List, [], ◌∷◌, Contains, count_by, Some, None, refl, sym, ap, ◌∙◌, arith}
use Rattle.std.specs.Str.{bytes_eq}
use Rattle.std.proofs.lemmas.Bool.{true≢false}
use Rattle.std.proofs.lemmas.List.Sums.{sum_by-cons}
use Rattle.std.proofs.lemmas.Slice.Eq.{bytes_eq-Decides}
use Rattle.sn_layout_node.specs.Directory.{Link, number_of}

-- ---- what a list has

module _ {X : Type 0} where
  pub first_there : (x : X) (xs : List X) → Contains (x ∷ xs) x
  first_there x xs = (0, omega arith, refl)

  pub more_there : (x : X) (xs : List X) (y : X) → Contains xs y → Contains (x ∷ xs) y
  more_there x xs y (k, within, is) = (suc k, omega arith, is)

  pub cases_there : (x : X) (xs : List X) (y : X) → Contains (x ∷ xs) y → (y ≡ x) ⊎ Contains xs y
  cases_there x xs y (zero, within, is) = inl (sym is)
  cases_there x xs y (suc k, within, is) = inr (k, omega arith, is)

-- ---- names that are the same, or others

pub same_name : (a b : List ℕ) → a ≡ b → bytes_eq a b ≡ true
same_name a b same = (bytes_eq-Decides a b).1 same

pub other_name : (a b : List ℕ) → a ≢ b → bytes_eq a b ≡ false
other_name a b other = told (bytes_eq a b) refl
  where
    told : (c : Bool) → bytes_eq a b ≡ c → c ≡ false
    told true is = absurd (other ((bytes_eq-Decides a b).0 is))
    told false is = refl

pub cases_name : (a b : List ℕ) → (a ≡ b) ⊎ (a ≢ b)
cases_name a b = told (bytes_eq a b) refl
  where
    told : (c : Bool) → bytes_eq a b ≡ c → (a ≡ b) ⊎ (a ≢ b)
    told true is = inl ((bytes_eq-Decides a b).0 is)
    told false is = inr (λ same. true≢false (sym (same_name a b same) ∙ is))

-- ---- how often a name occurs among links

module _ (name : List ℕ) where
  abbrev pub times_named : List Link → ℕ
  times_named links = count_by (λ (l : Link). bytes_eq l.name name) links

  pub times-first : (link : Link) (links : List Link) → bytes_eq link.name name ≡ true → times_named (link ∷ links) ≡ 1 + times_named links
  times-first link links same = omega (arith, sum_by-cons (λ (l : Link). cond (bytes_eq l.name name) 1 0) link links, ap {B = ℕ} (λ (b : Bool). cond b 1 0) same)

  pub times-rest : (link : Link) (links : List Link) → bytes_eq link.name name ≡ false → times_named (link ∷ links) ≡ times_named links
  times-rest link links other = omega (arith, sum_by-cons (λ (l : Link). cond (bytes_eq l.name name) 1 0) link links, ap {B = ℕ} (λ (b : Bool). cond b 1 0) other)

  pub times-none : (links : List Link) → number_of name links ≡ None → times_named links ≡ 0
  times-none [] none = refl
  times-none (link ∷ links) none = told (bytes_eq link.name name) refl none (times-none links)
    where
      told : (b : Bool) → bytes_eq link.name name ≡ b → (if b then Some link.number else number_of name links) ≡ None → (number_of name links ≡ None → times_named links ≡ 0) → times_named (link ∷ links) ≡ 0
      told true is some later = absurd cc
      told false is rest later = times-rest link links is ∙ later rest
