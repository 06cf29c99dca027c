-- Entries in the order of their keys: each is found at its own.
use Rattle.std.proofs.Common.{◌≡◌, ⊎_elim, ◌&&◌, Bool, true, false, cond, T, List, [], ◌∷◌, None, Some, Contains, refl, sym, ap, subst, ◌∙◌, arith}
use Rattle.std.specs.FinMap.Entries.{below_all, find, is_sorted}
use Rattle.std.specs.Cmp.{IsTotalOrder, eq_by_cmp_equiv}
use Rattle.std.specs.Ordering.{eq_by_cmp, is_eq, is_lt}
use Rattle.std.specs.declared.cmp.Ordering.{Ordering}
use Rattle.std.specs.declared.cmp.Ordering.TheVariants.{Less, Equal, Greater}
use Rattle.std.proofs.lemmas.Map.Lookups.{CmpEqualImpliesEq}
use Rattle.std.proofs.lemmas.Map.Views.{tells_apart}
use Rattle.sn_cp_nodes.proofs.ElementLemmas.{cases_there}

pub sorted_parts : (a b : Bool) → T (a && b) → T a × T b
sorted_parts true b h = (tt, h)
sorted_parts false b h = absurd h

other_key : (r : Ordering) → T (is_lt r) → is_eq r ≡ false
other_key Less h = refl
other_key Equal h = absurd h
other_key Greater h = absurd h

pub find_below : {K X : Type 0} (R : K → K → Ordering) (key : K) (es : List (K × X)) → T (below_all R key es) → find R key es ≡ None
find_below R key [] h = refl
find_below R key (e ∷ es) h =
    let parts = sorted_parts (is_lt (R key e.0)) (below_all R key es) h in
    ap (λ (c : Bool). cond c (Some e.1) (find R key es)) (other_key (R key e.0) parts.0) ∙ find_below R key es parts.1

none_some : {A : Type 0} {x : A} → None ≡ Some x → ⊥
none_some e = absurd cc

module _ {K X : Type 0} {R : K → K → Ordering} (total : IsTotalOrder R) (exact : CmpEqualImpliesEq R) where
  pub found_each : (es : List (K × X)) → T (is_sorted R es) → (e : K × X) → Contains es e → find R e.0 es ≡ Some e.1
  found_each [] h e among = absurd (omega (arith, among.1))
  found_each (x ∷ es) h e among = ⊎_elim
      (λ (same : e ≡ x). subst (λ (y : K × X). find R y.0 (x ∷ es) ≡ Some y.1) (sym same)
      (ap (λ (c : Bool). cond c (Some x.1) (find R x.0 es)) ((eq_by_cmp_equiv total).refl x.0)))
      (λ (more : Contains es e). behind (eq_by_cmp R e.0 x.0) refl (found_each es parts.1 e more))
      (cases_there x es e among)
    where
      parts : T (below_all R x.0 es) × T (is_sorted R es)
      parts = sorted_parts (below_all R x.0 es) (is_sorted R es) h

      behind : (b : Bool) → eq_by_cmp R e.0 x.0 ≡ b → find R e.0 es ≡ Some e.1 → cond b (Some x.1) (find R e.0 es) ≡ Some e.1
      behind true is found = absurd (none_some (sym (ap (λ (k : K). find R k es) (tells_apart exact e.0 x.0 is) ∙ find_below R x.0 es parts.0) ∙ found))
      behind false is found = found
