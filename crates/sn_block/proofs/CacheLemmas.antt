-- What the calls of `lru` do to the blocks that are kept.
use Rattle.std.proofs.Common.{◌≡◌, ◌≢◌, inl, inr, ⊎_elim, ℕ, ◌-◌, take, Option, true, false, List, [], ◌∷◌, nat_eq, Contains, IsTrue, None, Some, refl, sym, ◌∙◌, ap}
use Rattle.std.specs.Cmp.{nat_eq_equiv}
use Rattle.std.specs.List.{IsDistinct}
use Rattle.std.specs.Map.{keys_of, lookup, lookup_entry, remove_entry}
use Rattle.std.specs.Option.{option_map_or}
use Rattle.std.specs.declared.boxed.Box.{Box}
use Rattle.std.specs.Global.{Global}
use Rattle.std.proofs.lemmas.Bool.{eqb-true, eq-eqb}
use Rattle.std.proofs.lemmas.Map.{lookup-remove_entry}
use Rattle.lru.specs.LruCache.{LruCache, promoted, put_entries}
use Rattle.lru.proofs.CallerLemmas.{Contains-put_entries, Contains-remove_entry, Contains-lookup_entry}
use Rattle.lru.proofs.Splits.{Contains-nil, Contains-cons}
use Rattle.sn_block.specs.Cache.{Entry, has, first_number, HasOnlyWith, HasOnlyOthers}

same-number : (k n : ℕ) → nat_eq k n ≡ true → n ≡ k
same-number k n same = sym (eqb-true k n same)

-- a block that is kept is found
found : (k : ℕ) (es : List Entry) → IsTrue (has k es) → (e : Entry) × (lookup_entry (nat_eq k) es ≡ Some e)
found k [] is = cc
found k (f ∷ es) is = (elim (nat_eq k f.0) as (λ y. nat_eq k f.0 ≡ y → (e : Entry) × (lookup_entry (nat_eq k) (f ∷ es) ≡ Some e)) [
  | true ↦ λ t. (f, rw t refl)
  | false ↦ λ t. let on = found k es (rw t at is) in (on.0, rw t on.1)
]) refl

pub first-promoted : (k : ℕ) (es : List Entry) → IsTrue (has k es) → first_number (promoted (nat_eq k) es) ≡ Some k
first-promoted k es is =
    let at = found k es is in
    let on = Contains-lookup_entry (nat_eq k) es at.0 at.1 in
    rw at.1 (ap Some (same-number k at.0.0 on.1))

module _ (c : LruCache ℕ (Box (List ℕ) Global)) (k : ℕ) (block : Box (List ℕ) Global) where
  after : Option Entry → List Entry
  after o = option_map_or (λ e. (e.0, block) ∷ remove_entry (nat_eq k) c.entries) o ((k, block) ∷ take (c.cap - 1) c.entries)

  first-after : (o : Option Entry) → lookup_entry (nat_eq k) c.entries ≡ o → first_number (after o) ≡ Some k
  unfolding after
  first-after None is = refl
  first-after (Some e) is = ap Some (same-number k e.0 (Contains-lookup_entry (nat_eq k) c.entries e is).1)

  pub first-put : first_number (put_entries nat_eq c k block) ≡ Some k
  unfolding after
  first-put = first-after (lookup_entry (nat_eq k) c.entries) refl

pub others-put : (c : LruCache ℕ (Box (List ℕ) Global)) (k : ℕ) (block : Box (List ℕ) Global) → HasOnlyWith k block.value c.entries (put_entries nat_eq c k block)
others-put c k block e among = ⊎_elim
    (λ was. inl was)
    (λ put. inr (⊎_elim (λ same. same) (λ was. same-number k e.0 was.2) put.1, ap (λ (b : Box (List ℕ) Global). b.value) put.0))
    (Contains-put_entries nat_eq c k block e among)

-- a number that isn't found isn't there
absent : (k : ℕ) (es : List Entry) (e : Entry) → lookup (nat_eq k) es ≡ None → Contains es e → e.0 ≢ k
absent k [] e none among same = Contains-nil e among
absent k (f ∷ es) e none among same = (elim (nat_eq k f.0) as (λ y. nat_eq k f.0 ≡ y → ⊥) [
  | true ↦ λ t. let none' = rw t at none in cc
  | false ↦ λ t. ⊎_elim
      (λ first. let is : nat_eq k f.0 ≡ true = eq-eqb k f.0 (sym same ∙ ap (λ (g : Entry). g.0) (sym first)) in cc)
      (λ later. absent k es e (rw t at none) later same)
      (Contains-cons f es e among)
]) refl

one_key : (k x y : ℕ) → nat_eq k x ≡ true → nat_eq k y ≡ nat_eq x y
one_key k x y is = ap (λ n. nat_eq n y) (sym (same-number k x is))

pub others-removed : (k : ℕ) (es : List Entry) → IsDistinct nat_eq (keys_of es) → HasOnlyOthers k es (remove_entry (nat_eq k) es)
others-removed k es distinct e among = (Contains-remove_entry (nat_eq k) es e among, absent k (remove_entry (nat_eq k) es) e (lookup-remove_entry nat_eq_equiv (nat_eq k) (one_key k) k es distinct ∙ rw (nat_eq_equiv.refl k) refl) among)
