-- The keys of a map in memory, in order.
use Rattle.std.proofs.Common.{◌≡◌, Bool, true, false, ◌&&◌, List, [], ◌∷◌, map, refl, sym, ap, subst, ◌∙◌}
use Rattle.std.specs.Prelude.{T}
use Rattle.std.specs.declared.cmp.Ordering.{Ordering}
use Rattle.std.specs.declared.cmp.Ordering.TheVariants.{Less}
use Rattle.std.specs.Ordering.{is_lt}
use Rattle.std.specs.Cmp.{IsTotalOrder}
use Rattle.std.specs.List.{AllByRecursion}
use Rattle.std.specs.List.Sorted.{IsStrictlySortedBy}
use Rattle.std.specs.Map.{keys_of}
use Rattle.std.specs.FinMap as fin
use Rattle.std.specs.FinMap.Entries.{below_all}
use Rattle.std.proofs.lemmas.Map.Keys.{sorted_head, sorted_tail}
use Rattle.std.proofs.lemmas.Map.Lookups.{CmpEqualImpliesEq}
use Rattle.sn_maps.specs.Maps.{seen_as}

pub joined : (a b : Bool) → T a → T b → T (a && b)
joined true b p q = q
joined false b p q = p

-- a list in the order of its keys is what the map of it has
pub entries-from_entries : {K X : Type 0} {R : K → K → Ordering} → IsTotalOrder R → CmpEqualImpliesEq R → (es : List (K × X)) → T (fin.is_sorted R es) → fin.entries (fin.from_entries {R = R} es) ≡ es
entries-from_entries {K} {X} {R} o exact es h =
    ap fin.entries (fin.same_map o exact (fin.from_entries {R = R} es) (fin.from_sorted {R = R} es) (λ q. fin.get-from_entries o es q ∙ sym (fin.get-from_sorted R es q h)))
    ∙ fin.entries-from_sorted R es h

module _ {K L X Y : Type 0} (R : L → L → Ordering) (key : K → L) (f : X → Y) where
  abbrev seen : List (K × X) → List (L × Y)
  seen es = map (λ e. (key e.0, f e.1)) es

  below_seen : (k : K) (es : List (K × X)) → AllByRecursion (λ y. R (key k) (key y) ≡ Less) (keys_of es) → T (below_all R (key k) (seen es))
  below_seen k [] h = tt
  below_seen k (e ∷ es) h = joined _ _ (subst (λ r. T (is_lt r)) (sym h.0) tt) (below_seen k es h.1)

  sorted_seen : (es : List (K × X)) → IsStrictlySortedBy (λ x y. R (key x) (key y)) (keys_of es) → T (fin.is_sorted R (seen es))
  sorted_seen [] h = tt
  sorted_seen (e ∷ es) h = joined _ _ (below_seen e.0 es (sorted_head (λ x y. R (key x) (key y)) e.0 (keys_of es) h)) (sorted_seen es (sorted_tail (λ x y. R (key x) (key y)) e.0 (keys_of es) h))

  keys_seen : (es : List (K × X)) → map (λ e. e.0) (seen es) ≡ map key (keys_of es)
  keys_seen [] = refl
  keys_seen (e ∷ es) = ap (λ ks. key e.0 ∷ ks) (keys_seen es)

  -- the keys of a map in memory, in the order of what they are seen as
  pub keys-seen_as : IsTotalOrder R → CmpEqualImpliesEq R → (es : List (K × X)) → IsStrictlySortedBy (λ x y. R (key x) (key y)) (keys_of es) → fin.keys (seen_as R key f es) ≡ map key (keys_of es)
  keys-seen_as o exact es h = ap (map (λ e. e.0)) (entries-from_entries o exact (seen es) (sorted_seen es h)) ∙ keys_seen es
