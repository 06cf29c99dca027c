-- What a finite map laid over another one has at a key.
use Rattle.std.proofs.Common.{◌≡◌, Bool, true, false, cond, List, [], ◌∷◌, Option, Some, None, map, refl, sym, ap, ◌∙◌}
use Rattle.std.specs.declared.cmp.Ordering.{Ordering}
use Rattle.std.specs.Ordering.{eq_by_cmp}
use Rattle.std.specs.Option.{option_map, unwrap_or}
use Rattle.std.specs.Cmp.{IsTotalOrder, nat_cmp_total}
use Rattle.std.specs.FinMap as fin
use Rattle.std.proofs.lemmas.Cmp.{on_total, then_total}
use Rattle.std.proofs.lemmas.Map.Lookups.{CmpEqualImpliesEq, exact_unsigned, exact_pairs}
use Rattle.std.proofs.lemmas.Map.Views.{tells_apart}
use Rattle.std.specs.Ordering.{nat_cmp}
use Rattle.sn_overlay.specs.Keys.{file_block_cmp, file_block_at}
use Rattle.sn_overlay.specs.Overlaid.{overlaid, set_or_take}

pub exact_file_blocks : CmpEqualImpliesEq file_block_cmp
exact_file_blocks a b h = ap (λ p. file_block_at p.0 p.1) (exact_pairs nat_cmp nat_cmp exact_unsigned exact_unsigned (a.file, a.index) (b.file, b.index) h)

pub file_blocks_total : IsTotalOrder file_block_cmp
file_blocks_total = then_total (on_total (λ p. p.file) nat_cmp_total) (on_total (λ p. p.index) nat_cmp_total)

module _ {K X : Type 0} {R : K → K → Ordering} (o : IsTotalOrder R) where
  get-set_or_take : (m : fin.FinMap R X) (k : K) (v : Option X) (q : K) → fin.get (set_or_take m k v) q ≡ cond (eq_by_cmp R q k) v (fin.get m q)
  get-set_or_take m k None q = fin.get-remove o m k q
  get-set_or_take m k (Some v) q = fin.get-insert o m k v q

  unwrap-cond : (b : Bool) (v : Option X) (f : Option (Option X)) (below : Option X) → cond b v (unwrap_or f below) ≡ unwrap_or (cond b (Some v) f) below
  unwrap-cond true v f below = refl
  unwrap-cond false v f below = refl

  pub get-overlaid : (es : List (K × Option X)) (below : fin.FinMap R X) (q : K) → fin.get (overlaid es below) q ≡ unwrap_or (fin.find R q es) (fin.get below q)
  unfolding overlaid
  get-overlaid [] below q = refl
  get-overlaid (e ∷ es) below q = get-set_or_take (overlaid es below) e.0 e.1 q
      ∙ ap (cond (eq_by_cmp R q e.0) e.1) (get-overlaid es below q) ∙ unwrap-cond (eq_by_cmp R q e.0) e.1 (fin.find R q es) (fin.get below q)

-- a value that is made of its key and what it was
module _ {K X Y : Type 0} (R : K → K → Ordering) (exact : CmpEqualImpliesEq R) (f : K → X → Y) where
  map-cond : (b : Bool) (q k : K) (v : X) (w : Option X) → eq_by_cmp R q k ≡ b → cond b (Some (f k v)) (option_map (f q) w) ≡ option_map (f q) (cond b (Some v) w)
  map-cond true q k v w e = ap (λ j. Some (f j v)) (sym (tells_apart exact q k e))
  map-cond false q k v w e = refl

  pub find-mapped : (es : List (K × X)) (q : K) → fin.find R q (map (λ e. (e.0, f e.0 e.1)) es) ≡ option_map (f q) (fin.find R q es)
  find-mapped [] q = refl
  find-mapped (e ∷ es) q = ap (cond (eq_by_cmp R q e.0) (Some (f e.0 e.1))) (find-mapped es q) ∙ map-cond (eq_by_cmp R q e.0) q e.0 e.1 (fin.find R q es) refl

-- a finite map laid over another one, each value made of its key and what it was
pub get-laid : {K X Y : Type 0} {R : K → K → Ordering} → IsTotalOrder R → CmpEqualImpliesEq R → (f : K → X → Option Y) (m : fin.FinMap R X) (below : fin.FinMap R Y) (q : K) → fin.get (overlaid (map (λ e. (e.0, f e.0 e.1)) (fin.entries m)) below) q ≡ unwrap_or (option_map (f q) (fin.get m q)) (fin.get below q)
get-laid {K} {X} {Y} {R} o exact f m below q = get-overlaid o _ below q ∙ ap (λ found. unwrap_or found (fin.get below q)) (find-mapped R exact f (fin.entries m) q ∙ ap (option_map (f q)) (sym (fin.get-entries m q)))

-- the keys that pass a test
pub get-kept : {K X : Type 0} {R : K → K → Ordering} → CmpEqualImpliesEq R → (m : fin.FinMap R X) (p : K → Bool) (q : K) → fin.get (fin.retain_keys m p) q ≡ cond (p q) (fin.get m q) None
get-kept {K} {X} {R} exact m p q = fin.get-retain_keys m p q (λ x e. ap p (sym (exact q x e)))
