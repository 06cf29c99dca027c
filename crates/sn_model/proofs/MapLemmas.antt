-- What a finite map has after a key got a value or lost it.
use Rattle.std.proofs.Common.{◌≡◌, ◌≢◌, Bool, true, false, cond, Some, None, refl, sym, ap, ◌∙◌, ◌⊎◌, inl, inr}
use Rattle.std.specs.declared.cmp.Ordering.{Ordering}
use Rattle.std.specs.Ordering.{eq_by_cmp}
use Rattle.std.specs.Cmp.{IsTotalOrder, eq_by_cmp_equiv}
use Rattle.std.specs.FinMap as map
use Rattle.std.proofs.lemmas.Bool.{true≢false, false_from_ne_true}
use Rattle.std.proofs.lemmas.Map.Lookups.{CmpEqualImpliesEq}
use Rattle.std.proofs.lemmas.Map.Views.{tells_apart}
use Rattle.sn_model.proofs.ChainLemmas.{some_none}

-- two keys of an exact order are one or two
pub same_or_apart : {K : Type 0} {R : K → K → Ordering} → IsTotalOrder R → CmpEqualImpliesEq R → (a b : K) → (a ≡ b) ⊎ (a ≢ b)
same_or_apart {K} {R} o exact a b = decided (eq_by_cmp R a b) refl
  where
    decided : (t : Bool) → eq_by_cmp R a b ≡ t → (a ≡ b) ⊎ (a ≢ b)
    decided true e = inl (tells_apart exact a b e)
    decided false e = inr (λ same. absurd (true≢false (sym ((eq_by_cmp_equiv o).refl a) ∙ ap (eq_by_cmp R a) same ∙ e)))

-- after a value is put at a key, it is there
pub get_inserted : {K X : Type 0} {R : K → K → Ordering} → IsTotalOrder R → (m : map.FinMap R X) (k : K) (v : X) → map.get (map.insert m k v) k ≡ Some v
get_inserted {K} {X} {R} o m k v = map.get-insert o m k v k ∙ ap (λ b. cond b (Some v) (map.get m k)) ((eq_by_cmp_equiv o).refl k)

-- and what is at each other key stays
pub get_other : {K X : Type 0} {R : K → K → Ordering} → IsTotalOrder R → CmpEqualImpliesEq R → (m : map.FinMap R X) (k : K) (v : X) (q : K) → q ≢ k → map.get (map.insert m k v) q ≡ map.get m q
get_other {K} {X} {R} o exact m k v q apart = map.get-insert o m k v q ∙ ap (λ b. cond b (Some v) (map.get m q)) (false_from_ne_true (eq_by_cmp R q k) (λ e. apart (tells_apart exact q k e)))

-- after a key is taken it is gone, and what is at each other key stays
pub get_removed : {K X : Type 0} {R : K → K → Ordering} → IsTotalOrder R → (m : map.FinMap R X) (k : K) → map.get (map.remove m k) k ≡ None
get_removed {K} {X} {R} o m k = map.get-remove o m k k ∙ ap (λ b. cond b None (map.get m k)) ((eq_by_cmp_equiv o).refl k)

pub get_left : {K X : Type 0} {R : K → K → Ordering} → IsTotalOrder R → CmpEqualImpliesEq R → (m : map.FinMap R X) (k q : K) → q ≢ k → map.get (map.remove m k) q ≡ map.get m q
get_left {K} {X} {R} o exact m k q apart = map.get-remove o m k q ∙ ap (λ b. cond b None (map.get m q)) (false_from_ne_true (eq_by_cmp R q k) (λ e. apart (tells_apart exact q k e)))

-- what is left was there
pub get_was : {K X : Type 0} {R : K → K → Ordering} → IsTotalOrder R → CmpEqualImpliesEq R → (m : map.FinMap R X) (k q : K) (v : X) → map.get (map.remove m k) q ≡ Some v → (q ≢ k) × (map.get m q ≡ Some v)
get_was {K} {X} {R} o exact m k q v e = (λ same. some_none _ _ e (ap (map.get (map.remove m k)) same ∙ get_removed o m k), told (eq_by_cmp R q k) (sym (map.get-remove o m k q) ∙ e))
  where
    told : (b : Bool) → cond b None (map.get m q) ≡ Some v → map.get m q ≡ Some v
    told true f = cc
    told false f = f
