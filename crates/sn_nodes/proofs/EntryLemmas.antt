-- The entries of a finite map whose values are those of another, each seen by a function.
use Rattle.std.proofs.Common.{◌≡◌, Bool, true, false, cond, T, ◌&&◌, List, [], ◌∷◌, Option, Some, map, refl, sym, ap, subst, ◌∙◌}
use Rattle.std.specs.declared.cmp.Ordering.{Ordering}
use Rattle.std.specs.Option.{option_map}
use Rattle.std.specs.Ordering.{eq_by_cmp, is_lt}
use Rattle.std.specs.Cmp.{IsTotalOrder}
use Rattle.std.specs.FinMap as fin
use Rattle.std.specs.FinMap.Entries.{below_all, find, is_sorted}

module _ {K X Y : Type 0} (R : K → K → Ordering) (f : X → Y) where
  abbrev seen_entries : List (K × X) → List (K × Y)
  seen_entries es = map (λ e. (e.0, f e.1)) es

  one : (b : Bool) (x : X) (o : Option X) → option_map f (cond b (Some x) o) ≡ cond b (Some (f x)) (option_map f o)
  one true x o = refl
  one false x o = refl

  find_seen : (es : List (K × X)) (q : K) → find R q (seen_entries es) ≡ option_map f (find R q es)
  find_seen [] q = refl
  find_seen (e ∷ es) q = ap (cond (eq_by_cmp R q e.0) (Some (f e.1))) (find_seen es q) ∙ sym (one (eq_by_cmp R q e.0) e.1 (find R q es))

  below_seen : (x : K) (es : List (K × X)) → below_all R x (seen_entries es) ≡ below_all R x es
  below_seen x [] = refl
  below_seen x (e ∷ es) = ap (λ b. is_lt (R x e.0) && b) (below_seen x es)

  sorted_seen : (es : List (K × X)) → is_sorted R (seen_entries es) ≡ is_sorted R es
  sorted_seen [] = refl
  sorted_seen (e ∷ es) = ap (λ b. b && is_sorted R (seen_entries es)) (below_seen e.0 es) ∙ ap (λ b. below_all R e.0 es && b) (sorted_seen es)

  pub entries_seen : IsTotalOrder R → fin.IsAntisymmetric R → (m : fin.FinMap R X) (n : fin.FinMap R Y) → ((q : K) → fin.get n q ≡ option_map f (fin.get m q)) → fin.entries n ≡ map (λ e. (e.0, f e.1)) (fin.entries m)
  entries_seen o exact m n see = ap fin.entries (fin.same_map o exact _ _ alike) ∙ fin.entries-from_sorted R (seen_entries (fin.entries m)) rises
    where
      rises : T (is_sorted R (seen_entries (fin.entries m)))
      rises = subst T (sym (sorted_seen (fin.entries m))) (fin.entries_sorted m)

      alike : (q : K) → fin.get n q ≡ fin.get (fin.from_sorted {R = R} (seen_entries (fin.entries m))) q
      alike q = see q ∙ ap (option_map f) (fin.get-entries m q) ∙ sym (find_seen (fin.entries m) q) ∙ sym (fin.get-from_sorted R _ q rises)
