-- What entries that were put one after the other hold at a key.
use Rattle.std.proofs.Common.{◌≡◌, Bool, true, false, cond, List, [], ◌∷◌, length, Option, Some, None, refl, sym, ap, ◌∙◌, arith}
use Rattle.std.specs.declared.cmp.Ordering.{Ordering}
use Rattle.std.specs.declared.cmp.Ordering.TheVariants.{Less, Equal, Greater}
use Rattle.std.specs.Ordering.{eq_by_cmp, is_eq, is_lt}
use Rattle.std.specs.Cmp.{IsTotalOrder}
use Rattle.std.specs.FinMap.Entries.{find, put, find-put, find_tied, is_sorted, below_all}
use Rattle.std.proofs.lemmas.Bool.{and_parts, true≢false}
use Rattle.sn_overlay.specs.Sorted.{put_each}

pub put_each-none : {K X : Type 0} (R : K → K → Ordering) (over : Option X → X → X) (old : List (K × X)) → put_each R over [] old ≡ old
unfolding put_each
put_each-none R over old = refl

-- the newer value over the older one, where there is a newer one
abbrev pub value_over : {X : Type 0} → (Option X → X → X) → Option X → Option X → Option X
value_over over None older = older
value_over over (Some newer) older = Some (over older newer)

lesser : (r : Ordering) → is_lt r ≡ true → r ≡ Less
lesser Less h = refl
lesser Equal h = absurd (true≢false (sym h))
lesser Greater h = absurd (true≢false (sym h))

is_equal : (r : Ordering) → is_eq r ≡ true → r ≡ Equal
is_equal Less h = absurd (true≢false (sym h))
is_equal Equal h = refl
is_equal Greater h = absurd (true≢false (sym h))

module _ {K X : Type 0} {R : K → K → Ordering} (o : IsTotalOrder R) where
  -- a key that is below all isn't found
  find-below : (x : K) (es : List (K × X)) → below_all R x es ≡ true → find R x es ≡ None
  find-below x [] h = refl
  find-below x (e ∷ es) h =
      let parts = and_parts (is_lt (R x e.0)) (below_all R x es) h in
      ap (λ r. cond (is_eq r) (Some e.1) (find R x es)) (lesser (R x e.0) parts.0) ∙ find-below x es parts.1

  pub find-put_each : (over : Option X → X → X) (es old : List (K × X)) (q : K) → is_sorted R es ≡ true → find R q (put_each R over es old) ≡ value_over over (find R q es) (find R q old)
  unfolding put_each
  find-put_each over [] old q h = refl
  find-put_each over (e ∷ es) old q h =
      find-put_each over es (put R e.0 (over (find R e.0 old) e.1) old) q parts.1
      ∙ ap (value_over over (find R q es)) (find-put R o q e.0 (over (find R e.0 old) e.1) old)
      ∙ told (eq_by_cmp R q e.0) refl
    where
      parts : (below_all R e.0 es ≡ true) × (is_sorted R es ≡ true)
      parts = and_parts (below_all R e.0 es) (is_sorted R es) h

      told : (b : Bool) → eq_by_cmp R q e.0 ≡ b → value_over over (find R q es) (cond b (Some (over (find R e.0 old) e.1)) (find R q old)) ≡ value_over over (cond b (Some e.1) (find R q es)) (find R q old)
      told false t = refl
      told true t =
          let tie = is_equal (R q e.0) t in
          ap (λ found. value_over over found (Some (over (find R e.0 old) e.1))) (sym (find_tied R o q e.0 tie es) ∙ find-below e.0 es parts.0)
          ∙ ap (λ found. Some (over found e.1)) (find_tied R o q e.0 tie old)

pub put_each-cons : {K X : Type 0} (R : K → K → Ordering) (over : Option X → X → X) (e : K × X) (es old : List (K × X)) → put_each R over (e ∷ es) old ≡ put_each R over es (put R e.0 (over (find R e.0 old) e.1) old)
unfolding put_each
put_each-cons R over e es old = refl

pub nothing_left : {A : Type 0} (xs : List A) → length xs ≡ 0 → xs ≡ []
nothing_left [] h = refl
nothing_left (x ∷ xs) h = absurd (omega arith)
