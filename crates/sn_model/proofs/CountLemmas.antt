-- How many entries of a finite map pass a test, and how that changes with the map.
use Rattle.std.proofs.Common.{◌≡◌, ℕ, zero, suc, ◌+◌, ◌≤◌, Bool, true, false, cond, Some, None, count_by, refl, sym, ap, ◌∙◌, arith, true≢false}
use Rattle.std.specs.declared.cmp.Ordering.{Ordering}
use Rattle.std.specs.Cmp.{IsTotalOrder}
use Rattle.std.specs.FinMap as map
use Rattle.sn_model.proofs.EntryLemmas.{share, total-insert, total-remove, total-found}

abbrev pub count : {K X : Type 0} {R : K → K → Ordering} → (K × X → Bool) → map.FinMap R X → ℕ
count p m = count_by p (map.entries m)

-- an entry counts once if it passes
abbrev pub once : {A : Type 0} → (A → Bool) → A → ℕ
once p e = cond (p e) 1 0

-- what counts has passed
passes : (b : Bool) → 1 ≤ cond b 1 0 → b ≡ true
passes true h = refl
passes false h = absurd (omega (arith, h))

module _ {K X : Type 0} {R : K → K → Ordering} (o : IsTotalOrder R) (same : map.IsAntisymmetric R) (p : K × X → Bool) (m : map.FinMap R X) where
  -- a new entry counts if it passes
  pub count_inserted : (k : K) (v : X) → map.get m k ≡ None → count p (map.insert m k v) ≡ count p m + once p (k, v)
  count_inserted k v g = omega (arith, total-insert o same (once p) m k v, ap (share (once p) k) g)

  -- a removed entry stops to count
  pub count_removed : (k : K) (w : X) → map.get m k ≡ Some w → count p (map.remove m k) + once p (k, w) ≡ count p m
  count_removed k w g = omega (arith, total-remove o same (once p) m k, ap (share (once p) k) g)

  pub count_fewer : (k : K) → count p (map.remove m k) ≤ count p m
  count_fewer k = omega (arith, total-remove o same (once p) m k)

  -- an entry that passes makes the count at least 1
  pub count_some : (k : K) (v : X) → map.get m k ≡ Some v → p (k, v) ≡ true → 1 ≤ count p m
  count_some k v g e = omega (arith, total-remove o same (once p) m k, ap (share (once p) k) g, ap {B = ℕ} (λ (b : Bool). cond b 1 0) e)

  -- a count that is at least 1 has an entry that passes
  pub count_found : 1 ≤ count p m → (k : K) × (v : X) × (map.get m k ≡ Some v) × (p (k, v) ≡ true)
  count_found some = let w = total-found o (once p) m some in (w.0, w.1, w.2, passes (p (w.0, w.1)) w.3)

  -- a count of 0 has no entry that passes
  pub none_passes : count p m ≡ 0 → (k : K) (v : X) → map.get m k ≡ Some v → p (k, v) ≡ false
  none_passes is k v g = told (p (k, v)) refl
    where
      told : (b : Bool) → p (k, v) ≡ b → p (k, v) ≡ false
      told true e = absurd (omega (arith, is, count_some k v g e))
      told false e = e

  -- where no entry passes, the count is 0
  pub count_none : ((k : K) (v : X) → map.get m k ≡ Some v → p (k, v) ≡ false) → count p m ≡ 0
  count_none each = told (count p m) refl
    where
      told : (n : ℕ) → count p m ≡ n → count p m ≡ 0
      told zero e = e
      told (suc n) e = let w = count_found (omega (arith, e)) in absurd (true≢false (sym w.3 ∙ each w.0 w.1 w.2))
