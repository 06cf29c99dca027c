-- The entries of a map in memory are those of the finite map as which it is seen.
use Rattle.std.proofs.Common.{◌≡◌, ℕ, List, [], ◌∷◌, map, refl, sym, ap, subst, ◌∙◌}
use Rattle.std.specs.Prelude.{T}
use Rattle.std.specs.declared.cmp.Ordering.TheVariants.{Less}
use Rattle.std.specs.Cmp.{nat_cmp_total}
use Rattle.std.specs.FinMap as fin
use Rattle.std.specs.FinMap.Entries.{below_all}
use Rattle.std.specs.List.{AllByRecursion}
use Rattle.std.specs.List.Sorted.{IsStrictlySortedBy}
use Rattle.std.specs.Map.{keys_of}
use Rattle.std.specs.Ordering.{is_lt, nat_cmp}
use Rattle.std.proofs.lemmas.Map.Keys.{sorted_head, sorted_tail}
use Rattle.std.proofs.lemmas.Map.Lookups.{exact_unsigned}
use Rattle.sn_maps.specs.Maps.{seen_by}
use Rattle.sn_maps.proofs.KeyLemmas.{entries-from_entries, joined}

below : {X : Type 0} (k : ℕ) (es : List (ℕ × X)) → AllByRecursion (λ y. nat_cmp k y ≡ Less) (keys_of es) → T (below_all nat_cmp k es)
below k [] h = tt
below k (e ∷ es) h = joined _ _ (subst (λ r. T (is_lt r)) (sym h.0) tt) (below k es h.1)

sorted : {X : Type 0} (es : List (ℕ × X)) → IsStrictlySortedBy nat_cmp (keys_of es) → T (fin.is_sorted nat_cmp es)
sorted [] h = tt
sorted (e ∷ es) h = joined _ _ (below e.0 es (sorted_head nat_cmp e.0 (keys_of es) h)) (sorted es (sorted_tail nat_cmp e.0 (keys_of es) h))

as_they_are : {X : Type 0} (es : List (ℕ × X)) → map (λ (e : ℕ × X). (e.0, e.1)) es ≡ es
as_they_are [] = refl
as_they_are (e ∷ es) = ap (λ (rest : List _). e ∷ rest) (as_they_are es)

pub entries-seen : {X : Type 0} (es : List (ℕ × X)) → IsStrictlySortedBy nat_cmp (keys_of es) → fin.entries (seen_by nat_cmp (λ (x : X). x) es) ≡ es
entries-seen {X} es h =
    ap (λ (fs : List (ℕ × X)). fin.entries (fin.from_entries {R = nat_cmp} fs)) (as_they_are es)
    ∙ entries-from_entries nat_cmp_total exact_unsigned es (sorted es h)
