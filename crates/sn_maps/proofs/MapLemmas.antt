-- Maps in memory against the finite maps that they represent.
use Rattle.std.proofs.Common.{◌≡◌, ◌≢◌, Bool, true, false, cond, List, [], ◌∷◌, Option, Some, None, length, map, refl, sym, ap, ◌∙◌, arith}
use Rattle.std.specs.declared.cmp.Ordering.{Ordering}
use Rattle.std.specs.Option.{option_map}
use Rattle.std.specs.Ordering.{eq_by_cmp}
use Rattle.std.specs.Cmp.{IsTotalOrder, eq_by_cmp_equiv}
use Rattle.std.specs.Map.{lookup, KeepsOthers}
use Rattle.std.specs.BTreeMap.{BTreeMap, UpdatesBy, is_at}
use Rattle.std.specs.FinMap as fin
use Rattle.std.proofs.lemmas.Bool.{false_from_ne_true}
use Rattle.std.proofs.lemmas.Map.Lookups.{CmpEqualImpliesEq}
use Rattle.std.proofs.lemmas.Map.Views.{tells_apart}
use Rattle.sn_maps.specs.Maps.{restored, seen_as, seen_by, updated, updated_at}

map_cond : {X Y : Type 0} (f : X → Y) (b : Bool) (x : X) (o : Option X) → option_map f (cond b (Some x) o) ≡ cond b (Some (f x)) (option_map f o)
map_cond f true x o = refl
map_cond f false x o = refl

none_cond : {X Y : Type 0} (f : X → Y) (b : Bool) (o : Option X) → option_map f (cond b None o) ≡ cond b None (option_map f o)
none_cond f true o = refl
none_cond f false o = refl

some≢none : {X : Type 0} (x : X) → Some x ≢ None
some≢none x e = cc

module _ {K L X Y : Type 0} (R : L → L → Ordering) (key : K → L) (f : X → Y) where
  find-mapped : (es : List (K × X)) (q : L) → fin.find R q (map (λ e. (key e.0, f e.1)) es) ≡ option_map f (lookup (is_at (λ k. R q (key k))) es)
  find-mapped [] q = refl
  find-mapped (e ∷ es) q = ap (cond (eq_by_cmp R q (key e.0)) (Some (f e.1))) (find-mapped es q) ∙ sym (map_cond f (eq_by_cmp R q (key e.0)) e.1 (lookup (is_at (λ k. R q (key k))) es))

  -- what the finite map has at a key is what a look-up finds, as it is seen
  pub get-seen_as : IsTotalOrder R → (es : List (K × X)) (q : L) → fin.get (seen_as R key f es) q ≡ option_map f (lookup (is_at (λ k. R q (key k))) es)
  get-seen_as o es q = fin.get-from_entries o _ q ∙ find-mapped es q

  -- entries that differ at one key make finite maps that differ there
  pub insert-seen_as : IsTotalOrder R → CmpEqualImpliesEq R → (es fs : List (K × X)) (k : L) (v : X) → ((q : L) → lookup (is_at (λ k. R q (key k))) fs ≡ cond (is_at (R k) q) (Some v) (lookup (is_at (λ k. R q (key k))) es)) → seen_as R key f fs ≡ fin.insert (seen_as R key f es) k (f v)
  insert-seen_as o exact es fs k v h = fin.same_map o exact _ _ (λ q.
      get-seen_as o fs q ∙ ap (option_map f) (h q) ∙ map_cond f (is_at (R k) q) v (lookup (is_at (λ k. R q (key k))) es)
      ∙ ap (λ b. cond b (Some (f v)) (option_map f (lookup (is_at (λ k. R q (key k))) es))) ((eq_by_cmp_equiv o).symm k q)
      ∙ sym (fin.get-insert o (seen_as R key f es) k (f v) q ∙ ap (cond (is_at (R q) k) (Some (f v))) (get-seen_as o es q)))

  -- the same where a key is removed
  pub remove-seen_as : IsTotalOrder R → CmpEqualImpliesEq R → (es fs : List (K × X)) (k : L) → ((q : L) → lookup (is_at (λ k. R q (key k))) fs ≡ cond (is_at (R k) q) None (lookup (is_at (λ k. R q (key k))) es)) → seen_as R key f fs ≡ fin.remove (seen_as R key f es) k
  remove-seen_as o exact es fs k h = fin.same_map o exact _ _ (λ q.
      get-seen_as o fs q ∙ ap (option_map f) (h q) ∙ none_cond f (is_at (R k) q) (lookup (is_at (λ k. R q (key k))) es)
      ∙ ap (λ b. cond b None (option_map f (lookup (is_at (λ k. R q (key k))) es))) ((eq_by_cmp_equiv o).symm k q)
      ∙ sym (fin.get-remove o (seen_as R key f es) k q ∙ ap (cond (is_at (R q) k) None) (get-seen_as o es q)))

  -- no entries are no map's
  pub empty-seen_as : (es : List (K × X)) → length es ≡ 0 → seen_as R key f es ≡ fin.empty
  empty-seen_as [] e = refl
  empty-seen_as (x ∷ es) e = absurd (omega arith)

  pub seen_as-empty : IsTotalOrder R → (es : List (K × X)) → seen_as R key f es ≡ fin.empty → length es ≡ 0
  seen_as-empty o [] e = refl
  seen_as-empty o (x ∷ es) e =
      let k = key x.0 in
      let there : fin.get (seen_as R key f (x ∷ es)) k ≡ Some (f x.1) = fin.get-insert o (seen_as R key f es) k (f x.1) k ∙ ap (λ b. cond b (Some (f x.1)) (fin.get (seen_as R key f es) k)) ((eq_by_cmp_equiv o).refl k) in
      let none : fin.get (seen_as R key f (x ∷ es)) k ≡ None = ap (λ (m : fin.FinMap R Y). fin.get m k) e ∙ fin.get-empty R k in
      absurd (some≢none (f x.1) (sym there ∙ none))

-- what a call left at one key, for keys that are compared as they are seen: at any key that can be seen
module _ {K L X : Type 0} (R : L → L → Ordering) (key : K → L) (o : IsTotalOrder R) (exact : CmpEqualImpliesEq R) (m n : BTreeMap K X) (k : L) (w : Option X) where
  pub updates-seen_as : UpdatesBy (λ x y. R (key x) (key y)) (λ x. R k (key x)) m n w → (q : L) → lookup (is_at (λ x. R q (key x))) n.entries ≡ cond (is_at (R k) q) w (lookup (is_at (λ x. R q (key x))) m.entries)
  unfolding KeepsOthers
  updates-seen_as h q = told (is_at (R k) q) refl
    where
      apart : eq_by_cmp R k q ≡ false → (x : K) → eq_by_cmp R k (key x) ≡ true → eq_by_cmp R q (key x) ≡ false
      apart e x y = ap (eq_by_cmp R q) (sym (tells_apart exact k (key x) y)) ∙ (eq_by_cmp_equiv o).symm q k ∙ e

      told : (b : Bool) → eq_by_cmp R k q ≡ b → lookup (is_at (λ x. R q (key x))) n.entries ≡ cond b w (lookup (is_at (λ x. R q (key x))) m.entries)
      told true e = ap (λ z. lookup (is_at (λ x. R z (key x))) n.entries) (sym (tells_apart exact k q e)) ∙ h.1
      told false e = h.3 (λ x. eq_by_cmp R q (key x)) (λ x y. (eq_by_cmp_equiv o).congr q (key x) (key y)) (apart e)

-- the same for keys that are seen as they are
module _ {K X Y : Type 0} (R : K → K → Ordering) (f : X → Y) (o : IsTotalOrder R) where
  pub get-seen_by : (es : List (K × X)) (q : K) → fin.get (seen_by R f es) q ≡ option_map f (lookup (is_at (R q)) es)
  get-seen_by es q = get-seen_as R (λ k. k) f o es q

  pub insert-seen_by : CmpEqualImpliesEq R → (es fs : List (K × X)) (k : K) (v : X) → ((q : K) → lookup (is_at (R q)) fs ≡ cond (is_at (R k) q) (Some v) (lookup (is_at (R q)) es)) → seen_by R f fs ≡ fin.insert (seen_by R f es) k (f v)
  insert-seen_by exact es fs k v h = insert-seen_as R (λ k. k) f o exact es fs k v h

  pub remove-seen_by : CmpEqualImpliesEq R → (es fs : List (K × X)) (k : K) → ((q : K) → lookup (is_at (R q)) fs ≡ cond (is_at (R k) q) None (lookup (is_at (R q)) es)) → seen_by R f fs ≡ fin.remove (seen_by R f es) k
  remove-seen_by exact es fs k h = remove-seen_as R (λ k. k) f o exact es fs k h

-- what isn't there needn't be removed
pub remove-absent : {K X : Type 0} {R : K → K → Ordering} → IsTotalOrder R → CmpEqualImpliesEq R → (m : fin.FinMap R X) (k : K) → fin.get m k ≡ None → fin.remove m k ≡ m
remove-absent {K} {X} {R} o exact m k absent = fin.same_map o exact _ _ (λ q. fin.get-remove o m k q ∙ at_key q (eq_by_cmp R q k) refl)
  where
    at_key : (q : K) (b : Bool) → eq_by_cmp R q k ≡ b → cond b None (fin.get m q) ≡ fin.get m q
    at_key q true e = sym absent ∙ ap (fin.get m) (sym (tells_apart exact q k e))
    at_key q false e = refl

-- what was put at a new key, and is removed again, leaves the map as it was
pub remove-insert : {K X : Type 0} {R : K → K → Ordering} → IsTotalOrder R → CmpEqualImpliesEq R → (m : fin.FinMap R X) (k : K) (v : X) → fin.get m k ≡ None → fin.remove (fin.insert m k v) k ≡ m
remove-insert {K} {X} {R} o exact m k v absent = fin.same_map o exact _ _ (λ q.
    fin.get-remove o (fin.insert m k v) k q ∙ ap (cond (eq_by_cmp R q k) None) (fin.get-insert o m k v q) ∙ at_key q (eq_by_cmp R q k) refl)
  where
    at_key : (q : K) (b : Bool) → eq_by_cmp R q k ≡ b → cond (eq_by_cmp R q k) None (cond (eq_by_cmp R q k) (Some v) (fin.get m q)) ≡ fin.get m q
    at_key q true e = rw e (sym absent ∙ ap (fin.get m) (sym (tells_apart exact q k e)))
    at_key q false e = rw e refl

pub option_map_same : {X : Type 0} (o : Option X) → option_map (λ x. x) o ≡ o
option_map_same None = refl
option_map_same (Some x) = refl

-- for values that are seen as they are
pub get-seen_plain : {K X : Type 0} (R : K → K → Ordering) → IsTotalOrder R → (es : List (K × X)) (q : K) → fin.get (seen_by R (λ (x : X). x) es) q ≡ lookup (is_at (R q)) es
get-seen_plain R o es q = get-seen_by R (λ x. x) o es q ∙ option_map_same _

-- a value that is written at a key that has one
pub updated-seen_by : {K X Y : Type 0} (R : K → K → Ordering) (f : X → Y) → IsTotalOrder R → CmpEqualImpliesEq R → (es fs : List (K × X)) (k : K) (v w : X) (g : Y → Y) → lookup (is_at (R k)) es ≡ Some v → g (f v) ≡ f w → ((q : K) → lookup (is_at (R q)) fs ≡ cond (is_at (R k) q) (Some w) (lookup (is_at (R q)) es)) → seen_by R f fs ≡ updated (seen_by R f es) k g
updated-seen_by {K} {X} {Y} R f o exact es fs k v w g was is h =
    let there : fin.get (seen_by R f es) k ≡ Some (f v) = get-seen_by R f o es k ∙ ap (option_map f) was in
    insert-seen_by R f o exact es fs k w h ∙ ap (fin.insert (seen_by R f es) k) (sym is) ∙ sym (ap (updated_at (seen_by R f es) k g) there)

-- nothing is written where the key has no value
pub none-seen_by : {K X Y : Type 0} (R : K → K → Ordering) (f : X → Y) → IsTotalOrder R → (es fs : List (K × X)) (k : K) (g : Y → Y) → lookup (is_at (R k)) es ≡ None → fs ≡ es → seen_by R f fs ≡ updated (seen_by R f es) k g
none-seen_by R f o es fs k g was same =
    let there : fin.get (seen_by R f es) k ≡ None = get-seen_by R f o es k ∙ ap (option_map f) was in
    ap (seen_by R f) same ∙ sym (ap (updated_at (seen_by R f es) k g) there)

-- what is written as it was
pub same-updated : {K X : Type 0} {R : K → K → Ordering} → IsTotalOrder R → CmpEqualImpliesEq R → (m : fin.FinMap R X) (k : K) (g : X → X) → ((x : X) → g x ≡ x) → updated m k g ≡ m
same-updated {K} {X} {R} o exact m k g same = told (fin.get m k) refl
  where
    at_key : (q : K) (x : X) (b : Bool) → fin.get m k ≡ Some x → eq_by_cmp R q k ≡ b → cond (eq_by_cmp R q k) (Some (g x)) (fin.get m q) ≡ fin.get m q
    at_key q x true e t = rw t (ap (λ (y : X). Some y) (same x) ∙ sym e ∙ ap (fin.get m) (sym (tells_apart exact q k t)))
    at_key q x false e t = rw t refl

    told : (v : Option X) → fin.get m k ≡ v → updated_at m k g v ≡ m
    told None e = refl
    told (Some x) e = fin.same_map o exact _ _ (λ q. fin.get-insert o m k (g x) q ∙ at_key q x (eq_by_cmp R q k) e refl)

-- what a map has after an update
pub get-updated : {K X : Type 0} {R : K → K → Ordering} → IsTotalOrder R → CmpEqualImpliesEq R → (m : fin.FinMap R X) (k : K) (g : X → X) (q : K) → fin.get (updated m k g) q ≡ cond (eq_by_cmp R q k) (option_map g (fin.get m q)) (fin.get m q)
get-updated {K} {X} {R} o exact m k g q = told (fin.get m k) refl (eq_by_cmp R q k) refl
  where
    told : (v : Option X) → fin.get m k ≡ v → (b : Bool) → eq_by_cmp R q k ≡ b → fin.get (updated_at m k g v) q ≡ cond (eq_by_cmp R q k) (option_map g (fin.get m q)) (fin.get m q)
    told None e true t = rw t (ap (fin.get m) (tells_apart exact q k t) ∙ e ∙ sym (ap (option_map g) (ap (fin.get m) (tells_apart exact q k t) ∙ e)))
    told None e false t = rw t refl
    told (Some x) e true t = fin.get-insert o m k (g x) q ∙ rw t (sym (ap (option_map g) (ap (fin.get m) (tells_apart exact q k t) ∙ e)))
    told (Some x) e false t = fin.get-insert o m k (g x) q ∙ rw t refl

-- the same, each value by a function of its own
pub get-updated_each : {K X : Type 0} {R : K → K → Ordering} → IsTotalOrder R → CmpEqualImpliesEq R → (m : fin.FinMap R X) (k : K) (g : X → X) (q : K) → fin.get (updated m k g) q ≡ option_map (λ x. cond (eq_by_cmp R q k) (g x) x) (fin.get m q)
get-updated_each {K} {X} {R} o exact m k g q = get-updated o exact m k g q ∙ told (eq_by_cmp R q k) (fin.get m q)
  where
    told : (b : Bool) (v : Option X) → cond b (option_map g v) v ≡ option_map (λ x. cond b (g x) x) v
    told true v = refl
    told false None = refl
    told false (Some x) = refl

pub get-updated_other : {K X : Type 0} {R : K → K → Ordering} → IsTotalOrder R → CmpEqualImpliesEq R → (m : fin.FinMap R X) (k : K) (g : X → X) (q : K) → q ≢ k → fin.get (updated m k g) q ≡ fin.get m q
get-updated_other {K} {X} {R} o exact m k g q apart = get-updated o exact m k g q ∙ ap (λ b. cond b (option_map g (fin.get m q)) (fin.get m q)) (false_from_ne_true (eq_by_cmp R q k) (λ e. apart (tells_apart exact q k e)))

-- what was put at a key is removed again, and what was there is put back
pub restored-insert : {K X : Type 0} {R : K → K → Ordering} → IsTotalOrder R → CmpEqualImpliesEq R → (m : fin.FinMap R X) (k : K) (v : X) (old : Option X) → fin.get m k ≡ old → restored (fin.insert m k v) k old ≡ m
restored-insert o exact m k v None e = remove-insert o exact m k v e
restored-insert {K} {X} {R} o exact m k v (Some x) e = fin.same_map o exact _ _ (λ q. get-updated o exact (fin.insert m k v) k (λ _. x) q ∙ at_key q (eq_by_cmp R q k) refl)
  where
    at_key : (q : K) (b : Bool) → eq_by_cmp R q k ≡ b → cond (eq_by_cmp R q k) (option_map (λ _. x) (fin.get (fin.insert m k v) q)) (fin.get (fin.insert m k v) q) ≡ fin.get m q
    at_key q true t = rw t (ap (option_map (λ _. x)) (fin.get-insert o m k v q ∙ ap (λ b. cond b (Some v) (fin.get m q)) t) ∙ sym e ∙ ap (fin.get m) (sym (tells_apart exact q k t)))
    at_key q false t = rw t (fin.get-insert o m k v q ∙ ap (λ b. cond b (Some v) (fin.get m q)) t)
