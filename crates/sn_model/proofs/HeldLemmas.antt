-- Files that a descriptor has.
use Rattle.std.proofs.Common.{◌≡◌, ℕ, ◌+◌, ◌||◌, Bool, true, false, nat_lt, cond, List, [], ◌∷◌, Option, Some, None, count_by, refl, sym, ap, ◌∙◌, arith, eqb-true, eq-eqb}
use Rattle.std.specs.Prelude.{IsSomeAnd}
use Rattle.std.specs.Cmp.{IsTotalOrder, nat_cmp_total}
use Rattle.std.specs.FinMap as map
use Rattle.std.specs.List.{list_any}
use Rattle.std.specs.Ordering.{nat_cmp}
use Rattle.std.proofs.lemmas.Bool.{lt-ltb, ltb-true}
use Rattle.std.proofs.lemmas.Cmp.{on_total, then_total}
use Rattle.std.proofs.lemmas.List.Sums.{sum_by-cons}
use Rattle.std.proofs.lemmas.Map.Lookups.{CmpEqualImpliesEq, exact_unsigned, exact_pairs}
use Rattle.sn_walk.specs.declared.object.Home.{Home}
use Rattle.sn_walk.specs.declared.object.Home.TheVariants.{Live, Frozen}
use Rattle.sn_model.proofs.CountLemmas.{count, count_found, count_some}
use Rattle.sn_model.specs.Descriptors.{Descriptors, is_held_in}
use Rattle.sn_model.specs.Settling.{is_of_live}
use Rattle.sn_model.specs.World.{Descriptor, descriptor_cmp}

pub descriptors_total : IsTotalOrder descriptor_cmp
descriptors_total = then_total (on_total (λ k. k.0) nat_cmp_total) (on_total (λ k. k.1) nat_cmp_total)

pub exact_descriptors : CmpEqualImpliesEq descriptor_cmp
exact_descriptors = exact_pairs nat_cmp nat_cmp exact_unsigned exact_unsigned

abbrev pub is_holder : ℕ → (ℕ × ℕ) × Descriptor → Bool
is_holder number e = is_of_live number e.1.home e.1.number

-- a test that some element passes counts some
pub any_counts : {A : Type 0} (p : A → Bool) (xs : List A) → list_any p xs ≡ nat_lt 0 (count_by p xs)
any_counts p [] = refl
any_counts {A} p (x ∷ xs) =
    let all = sum_by-cons (λ (y : A). cond (p y) 1 0) x xs in
    elim (p x) as (λ b. (b || list_any p xs) ≡ nat_lt 0 (cond b 1 0 + count_by p xs)) [
      | true ↦ sym (lt-ltb 0 (1 + count_by p xs) (omega arith))
      | false ↦ any_counts p xs ∙ ap (nat_lt 0) (let none : count_by p xs ≡ 0 + count_by p xs = omega arith in none)
    ] ∙ ap (nat_lt 0) (sym all)

-- a file is held where some descriptor counts
pub held_count : (table : Descriptors) (number : ℕ) → is_held_in table number ≡ nat_lt 0 (count (is_holder number) table)
held_count table number = any_counts (is_holder number) (map.entries table)

of_live : (number : ℕ) (home : Home) (other : ℕ) → home ≡ Live → other ≡ number → is_of_live number home other ≡ true
of_live number home other is same = ap (λ (h : Home). is_of_live number h other) is ∙ eq-eqb other number same

is_live : (number : ℕ) (home : Home) (other : ℕ) → is_of_live number home other ≡ true → (home ≡ Live) × (other ≡ number)
is_live number Live other e = (refl, eqb-true other number e)
is_live number (Frozen name) other e = cc

-- what a descriptor has is held
pub held_at : (table : Descriptors) (number session fd : ℕ) (d : Descriptor) → map.get table (session, fd) ≡ Some d → d.home ≡ Live → d.number ≡ number → is_held_in table number ≡ true
held_at table number session fd d e live same =
    held_count table number ∙ lt-ltb 0 (count (is_holder number) table) (count_some descriptors_total exact_descriptors (is_holder number) table (session, fd) d e (of_live number d.home d.number live same))

-- what is held has a descriptor
pub held_by : (table : Descriptors) (number : ℕ) → is_held_in table number ≡ true → (session : ℕ) × (fd : ℕ) × IsSomeAnd (map.get table (session, fd)) (λ d. (d.home ≡ Live) × (d.number ≡ number))
held_by table number e =
    let w = count_found descriptors_total exact_descriptors (is_holder number) table (ltb-true 0 (count (is_holder number) table) (sym (held_count table number) ∙ e)) in
    (w.0.0, w.0.1, there (map.get table (w.0.0, w.0.1)) w.1 w.2 (is_live number w.1.home w.1.number w.3))
  where
    there : (o : Option Descriptor) (d : Descriptor) → o ≡ Some d → (d.home ≡ Live) × (d.number ≡ number) → IsSomeAnd o (λ d. (d.home ≡ Live) × (d.number ≡ number))
    there None d f h = cc
    there (Some x) d f h = let same : d ≡ x = cc in (ap (λ (y : Descriptor). y.home) (sym same) ∙ h.0, ap (λ (y : Descriptor). y.number) (sym same) ∙ h.1)
