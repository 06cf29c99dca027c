-- Sums over the entries of a finite map, and what they lead to.
use Rattle.std.proofs.Common.{◌≡◌, ℕ, zero, suc, ◌+◌, ◌≤◌, Bool, true, false, cond, ◌&&◌, ◌||◌, T, List, [], ◌∷◌, ◌++◌, filter, flat_map, Option, Some, None, sum_by, refl, sym, ap, ◌∙◌, ◌⊎◌, inl, inr, arith}
use Rattle.std.specs.declared.cmp.Ordering.{Ordering}
use Rattle.std.specs.declared.cmp.Ordering.TheVariants.{Less, Equal, Greater}
use Rattle.std.specs.Ordering.{is_lt, is_eq, eq_by_cmp}
use Rattle.std.specs.Cmp.{IsTotalOrder, tied_itself, eq_by_cmp_equiv}
use Rattle.std.specs.FinMap as map
use Rattle.std.specs.FinMap.Entries.{by_order, put, where_key, find, below_all, is_sorted, is_sorted-where_key, find-where_key}
use Rattle.std.proofs.lemmas.Map.Views.{tells_apart}
use Rattle.std.proofs.lemmas.List.Folds.{list_any-append}
use Rattle.std.proofs.lemmas.List.Sums.{sum_by-cons}
use Rattle.std.specs.List.{list_any}
use Rattle.sn_model.proofs.ChainLemmas.{or_right, some_same}

-- a conjunction has both
both : (a b : Bool) → T (a && b) → T a × T b
both true b h = (tt, h)
both false b h = absurd h

-- an order that passes `is_lt` is Less
less : (r : Ordering) → T (is_lt r) → r ≡ Less
less Less h = refl
less Equal h = absurd h
less Greater h = absurd h

-- of two equal tests, the inner one's first branch isn't reached
twice : {A : Type 0} (b : Bool) (x y : Option A) → cond b x (cond b None y) ≡ cond b x y
twice true x y = refl
twice false x y = refl

-- what a key adds to a sum
abbrev pub share : {K X : Type 0} → (K × X → ℕ) → K → Option X → ℕ
share f k None = 0
share f k (Some v) = f (k, v)

-- a sum over the entries whose keys are kept
sum-where_key : {K X : Type 0} (R : K → K → Ordering) (f : K × X → ℕ) (kept : K → Bool) (es : List (K × X)) → sum_by f (where_key R kept es) ≡ sum_by (λ e. cond (kept e.0) (f e) 0) es
sum-where_key R f kept [] = refl
sum-where_key {K} {X} R f kept (e ∷ es) =
    let rest = sum-where_key R f kept es in
    elim (kept e.0) as (λ b. sum_by f (cond b (e ∷ where_key R kept es) (where_key R kept es)) ≡ cond b (f e) 0 + sum_by (λ (e : K × X). cond (kept e.0) (f e) 0) es) [
      | true ↦ omega (arith, rest, sum_by-cons f e (where_key R kept es))
      | false ↦ omega (arith, rest)
    ] ∙ sym (sum_by-cons (λ e. cond (kept e.0) (f e) 0) e es)

module _ {K X : Type 0} {R : K → K → Ordering} (o : IsTotalOrder R) where
  -- a key that is below whatever x is below isn't found in a list above x
  none_below : (q x : K) (es : List (K × X)) → ((z : K) → R x z ≡ Less → R q z ≡ Less) → T (below_all R x es) → find R q es ≡ None
  none_below q x [] further h = refl
  none_below q x (e ∷ es) further h =
      let s = both (is_lt (R x e.0)) (below_all R x es) h in
      ap (λ (r : Ordering). cond (is_eq r) (Some e.1) (find R q es)) (further e.0 (less (R x e.0) s.0)) ∙ none_below q x es further s.1

  -- what is found after the first entry is found in the whole list
  found_later : (e : K × X) (es : List (K × X)) (k : K) (v : X) → T (below_all R e.0 es) → find R k es ≡ Some v → find R k (e ∷ es) ≡ Some v
  found_later e es k v h found =
      elim (R k e.0) as (λ r. R k e.0 ≡ r → cond (is_eq r) (Some e.1) (find R k es) ≡ Some v) [
        | Less ↦ λ p. found
        | Equal ↦ λ p. let never : None ≡ Some v = sym (none_below k e.0 es (λ z l. o.congr k e.0 z p ∙ l) h) ∙ found in absurd cc
        | Greater ↦ λ p. found
      ] refl

  -- the first entry is found at its key
  found_first : (e : K × X) (es : List (K × X)) → find R e.0 (e ∷ es) ≡ Some e.1
  found_first e es = ap (λ (r : Ordering). cond (is_eq r) (Some e.1) (find R e.0 es)) (tied_itself o e.0)

  -- a sum that is no more at each entry is no more
  sum-le : (f g : K × X → ℕ) (es : List (K × X)) → T (is_sorted R es) → ((k : K) (v : X) → find R k es ≡ Some v → f (k, v) ≤ g (k, v)) → sum_by f es ≤ sum_by g es
  sum-le f g [] h each = omega arith
  sum-le f g (e ∷ es) h each =
      let s = both (below_all R e.0 es) (is_sorted R es) h in
      let head : f e ≤ g e = each e.0 e.1 (found_first e es) in
      omega (arith, sum_by-cons f e es, sum_by-cons g e es, head, sum-le f g es s.1 (λ k v found. each k v (found_later e es k v s.0 found)))

  -- a sum above 0 has an entry above 0
  sum-found : (f : K × X → ℕ) (es : List (K × X)) → T (is_sorted R es) → 1 ≤ sum_by f es → (k : K) × (v : X) × (find R k es ≡ Some v) × (1 ≤ f (k, v))
  sum-found f [] h some = absurd (omega (arith, some))
  sum-found f (e ∷ es) h some =
      let s = both (below_all R e.0 es) (is_sorted R es) h in
      elim (f e) as (λ n. f e ≡ n → (k : K) × (v : X) × (find R k (e ∷ es) ≡ Some v) × (1 ≤ f (k, v))) [
        | zero ↦ λ p. let found = sum-found f es s.1 (omega (arith, some, sum_by-cons f e es, p)) in (found.0, found.1, found_later e es found.0 found.1 s.0 found.2, found.3)
        | suc n ↦ λ p. (e.0, e.1, found_first e es, omega (arith, p))
      ] refl

  module _ (same : map.IsAntisymmetric R) where
    -- a sum after an entry is put in its place
    sum-put : (f : K × X → ℕ) (k : K) (v : X) (es : List (K × X)) → T (is_sorted R es) → sum_by f (put R k v es) + share f k (find R k es) ≡ sum_by f es + f (k, v)
    sum-put f k v [] h = omega arith
    sum-put f k v (e ∷ es) h =
        let s = both (below_all R e.0 es) (is_sorted R es) h in
        elim (R k e.0) as (λ r. R k e.0 ≡ r → sum_by f (by_order r ((k, v) ∷ e ∷ es) ((e.0, v) ∷ es) (e ∷ put R k v es)) + share f k (cond (is_eq r) (Some e.1) (find R k es)) ≡ sum_by f (e ∷ es) + f (k, v)) [
          | Less ↦ λ p. omega (arith, sum_by-cons f (k, v) (e ∷ es), ap (share f k) (none_below k e.0 es (λ z. o.trans k e.0 z p) s.0))
          | Equal ↦ λ p. omega (arith, sum_by-cons f e es, sum_by-cons f (e.0, v) es, ap (λ (x : K). f (x, v)) (same k e.0 p), ap (λ (x : K). f (x, e.1)) (same k e.0 p))
          | Greater ↦ λ p. omega (arith, sum_by-cons f e es, sum_by-cons f e (put R k v es), sum-put f k v es s.1)
        ] refl

    -- a map after an insert: the sum loses what the key had, and gains the new entry
    pub total-insert : (f : K × X → ℕ) (m : map.FinMap R X) (k : K) (v : X) → sum_by f (map.entries (map.insert m k v)) + share f k (map.get m k) ≡ sum_by f (map.entries m) + f (k, v)
    total-insert f m k v = omega (arith, ap (sum_by f) (map.entries-insert o m k v), ap (share f k) (map.get-entries m k), sum-put f k v (map.entries m) (map.entries_sorted m))

    -- a key that ties is the key
    at_key : (m : map.FinMap R X) (k q : K) (x : Option X) (b : Bool) → eq_by_cmp R q k ≡ b → map.get m k ≡ x → cond b x (map.get m q) ≡ map.get m q
    at_key m k q x true e g = sym g ∙ ap (map.get m) (sym (tells_apart same q k e))
    at_key m k q x false e g = refl

    -- the value that a key had, put back
    put_back : (m : map.FinMap R X) (k : K) (w : X) → map.get m k ≡ Some w → map.insert (map.remove m k) k w ≡ m
    put_back m k w g = map.same_map o same _ _ (λ q. map.get-insert o (map.remove m k) k w q ∙ ap (cond (eq_by_cmp R q k) (Some w)) (map.get-remove o m k q) ∙ twice (eq_by_cmp R q k) (Some w) (map.get m q) ∙ at_key m k q (Some w) (eq_by_cmp R q k) refl g)

    -- a map after a remove: the sum loses what the key had
    pub total-remove : (f : K × X → ℕ) (m : map.FinMap R X) (k : K) → sum_by f (map.entries (map.remove m k)) + share f k (map.get m k) ≡ sum_by f (map.entries m)
    total-remove f m k = told (map.get m k) refl
      where
        gone : map.get (map.remove m k) k ≡ None
        gone = map.get-remove o m k k ∙ ap (λ b. cond b None (map.get m k)) ((eq_by_cmp_equiv o).refl k)

        told : (x : Option X) → map.get m k ≡ x → sum_by f (map.entries (map.remove m k)) + share f k (map.get m k) ≡ sum_by f (map.entries m)
        told None g = omega (arith, ap (share f k) g, ap (λ (n : map.FinMap R X). sum_by f (map.entries n)) (map.same_map o same (map.remove m k) m (λ q. map.get-remove o m k q ∙ at_key m k q None (eq_by_cmp R q k) refl g)))
        told (Some w) g = omega (arith, ap (share f k) g, ap (λ (n : map.FinMap R X). sum_by f (map.entries n)) (put_back m k w g), total-insert f (map.remove m k) k w, ap (share f k) gone)

    -- the entries whose keys are kept, in the order in which they were
    pub entries-retain : (m : map.FinMap R X) (kept : K → Bool) → map.entries (map.retain_keys m kept) ≡ where_key R kept (map.entries m)
    entries-retain m kept = ap map.entries (map.same_map o same _ _ alike) ∙ map.entries-from_sorted R (where_key R kept (map.entries m)) rises
      where
        rises : T (is_sorted R (where_key R kept (map.entries m)))
        rises = is_sorted-where_key R kept (map.entries m) (map.entries_sorted m)

        tied : (q x : K) → R q x ≡ Equal → kept x ≡ kept q
        tied q x t = ap kept (sym (same q x t))

        alike : (q : K) → map.get (map.retain_keys m kept) q ≡ map.get (map.from_sorted {R = R} (where_key R kept (map.entries m))) q
        alike q = map.get-retain_keys m kept q (tied q) ∙ ap (λ (x : Option X). cond (kept q) x None) (map.get-entries m q) ∙ sym (find-where_key R kept q (tied q) (map.entries m)) ∙ sym (map.get-from_sorted R _ q rises)

    -- a map after keys are kept: the sum of the entries that are kept
    pub total-retain : (f : K × X → ℕ) (m : map.FinMap R X) (kept : K → Bool) → sum_by f (map.entries (map.retain_keys m kept)) ≡ sum_by (λ e. cond (kept e.0) (f e) 0) (map.entries m)
    total-retain f m kept = ap (sum_by f) (entries-retain m kept) ∙ sum-where_key R f kept (map.entries m)

  -- a sum that is no more at each entry of a map is no more
  pub total-le : (f g : K × X → ℕ) (m : map.FinMap R X) → ((k : K) (v : X) → map.get m k ≡ Some v → f (k, v) ≤ g (k, v)) → sum_by f (map.entries m) ≤ sum_by g (map.entries m)
  total-le f g m each = sum-le f g (map.entries m) (map.entries_sorted m) (λ k v found. each k v (map.get-entries m k ∙ found))

  -- a sum above 0 has an entry above 0
  pub total-found : (f : K × X → ℕ) (m : map.FinMap R X) → 1 ≤ sum_by f (map.entries m) → (k : K) × (v : X) × (map.get m k ≡ Some v) × (1 ≤ f (k, v))
  total-found f m some = let s = sum-found f (map.entries m) (map.entries_sorted m) some in (s.0, s.1, map.get-entries m s.0 ∙ s.2, s.3)

-- of two lists that one was made of, one has what passes
any_split : {A : Type 0} (t : A → Bool) (xs ys : List A) → list_any t (xs ++ ys) ≡ true → (list_any t xs ≡ true) ⊎ (list_any t ys ≡ true)
any_split t xs ys e = told (list_any t xs) refl (sym (list_any-append t xs ys) ∙ e)
  where
    told : (b : Bool) → list_any t xs ≡ b → (list_any t xs || list_any t ys) ≡ true → (list_any t xs ≡ true) ⊎ (list_any t ys ≡ true)
    told true f h = inl f
    told false f h = inr (sym (ap (λ c. c || list_any t ys) f) ∙ h)

-- what the entries that pass a test lead to
abbrev led : {A K X : Type 0} → (K × X → List A) → (K × X → Bool) → List (K × X) → List A
led g p es = flat_map g (filter p es)

-- it comes from one of them
record FromEntry {A K X : Type 0} (R : K → K → Ordering) (t : A → Bool) (g : K × X → List A) (p : K × X → Bool) (es : List (K × X)) : Type 0 where
  key : K
  value : X
  found : find R key es ≡ Some value
  passes : p (key, value) ≡ true
  leads : list_any t (g (key, value)) ≡ true

module _ {A K X : Type 0} {R : K → K → Ordering} (o : IsTotalOrder R) (same : map.IsAntisymmetric R) (t : A → Bool) (g : K × X → List A) (p : K × X → Bool) where
  any_found : (es : List (K × X)) (q : K) (v : X) → find R q es ≡ Some v → p (q, v) ≡ true → list_any t (g (q, v)) ≡ true → list_any t (led g p es) ≡ true
  any_found [] q v e h a = cc
  any_found (x ∷ es) q v e h a = told (λ f. any_found es q v f h a) (eq_by_cmp R q x.0) refl
    where
      told : (find R q es ≡ Some v → list_any t (led g p es) ≡ true) → (b : Bool) → eq_by_cmp R q x.0 ≡ b → list_any t (flat_map g (cond (p x) (x ∷ filter p es) (filter p es))) ≡ true
      told again true te =
          let value : x.1 ≡ v = some_same _ _ (rw te at e) in
          let key : q ≡ x.0 = tells_apart same q x.0 te in
          let one : (q, v) ≡ x = (λ i. (key i, sym value i)) in
          ap (λ b. list_any t (flat_map g (cond b (x ∷ filter p es) (filter p es)))) (sym (ap p one) ∙ h) ∙ list_any-append t (g x) (led g p es) ∙ ap (λ b. b || list_any t (led g p es)) (sym (ap (λ y. list_any t (g y)) one) ∙ a)
      told again false te = later (p x) (again (rw te at e))
        where
          later : (b : Bool) → list_any t (led g p es) ≡ true → list_any t (flat_map g (cond b (x ∷ filter p es) (filter p es))) ≡ true
          later true r = list_any-append t (g x) (led g p es) ∙ or_right (list_any t (g x)) _ r
          later false r = r

  from_found : (es : List (K × X)) → T (is_sorted R es) → list_any t (led g p es) ≡ true → FromEntry R t g p es
  from_found [] s e = cc
  from_found (x ∷ es) s e =
      let parts = both (below_all R x.0 es) (is_sorted R es) s in
      told (from_found es parts.1) (λ r. record { key = r.key; value = r.value; found = found_later o x es r.key r.value parts.0 r.found; passes = r.passes; leads = r.leads }) (p x) refl
    where
      told : (list_any t (led g p es) ≡ true → FromEntry R t g p es) → (FromEntry R t g p es → FromEntry R t g p (x ∷ es)) → (b : Bool) → p x ≡ b → FromEntry R t g p (x ∷ es)
      told again on true pb = split (any_split t (g x) (led g p es) (sym (ap (λ b. list_any t (flat_map g (cond b (x ∷ filter p es) (filter p es)))) pb) ∙ e))
        where
          split : (list_any t (g x) ≡ true) ⊎ (list_any t (led g p es) ≡ true) → FromEntry R t g p (x ∷ es)
          split (inl f) = record { key = x.0; value = x.1; found = found_first o x es; passes = pb; leads = f }
          split (inr f) = on (again f)
      told again on false pb = on (again (sym (ap (λ b. list_any t (flat_map g (cond b (x ∷ filter p es) (filter p es)))) pb) ∙ e))

  -- what an entry that passes leads to is among what all that pass lead to
  pub any_entry : (m : map.FinMap R X) (q : K) (v : X) → map.get m q ≡ Some v → p (q, v) ≡ true → list_any t (g (q, v)) ≡ true → list_any t (led g p (map.entries m)) ≡ true
  any_entry m q v e h a = any_found (map.entries m) q v (sym (map.get-entries m q) ∙ e) h a

  -- and comes from one of them
  pub from_entry : (m : map.FinMap R X) → list_any t (led g p (map.entries m)) ≡ true → (q : K) × (v : X) × (map.get m q ≡ Some v) × (p (q, v) ≡ true) × (list_any t (g (q, v)) ≡ true)
  from_entry m e = let r = from_found (map.entries m) (map.entries_sorted m) e in (r.key, r.value, map.get-entries m r.key ∙ r.found, r.passes, r.leads)
