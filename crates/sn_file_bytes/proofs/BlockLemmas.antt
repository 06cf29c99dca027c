-- The byte at an offset, as blocks come, change and go.
use Rattle.std.proofs.Common.{◌≡◌, ◌≢◌, ℕ, ◌+◌, ◌-◌, ◌*◌, ◌/◌, ◌%◌, ◌<◌, ◌≤◌, ◌&&◌, ◌==◌, Bool, true, false, cond, List, length, take, drop, get_or, filter, Option, Some, None, min, nat_le, nat_lt, refl, sym, ap, ◌∙◌, ◌⊎◌, inl, inr, arith, lit≤}
use Rattle.std.specs.Ordering.{nat_cmp}
use Rattle.std.specs.Cmp.{nat_cmp_total, eq_by_cmp_equiv, unsigned_tied}
use Rattle.std.specs.BTreeMap.{is_at}
use Rattle.std.specs.declared.boxed.Box.{Box}
use Rattle.std.specs.Global.{Global}
use Rattle.std.proofs.Math.Nat.{mod-add-div'}
use Rattle.std.proofs.lemmas.Bool.{eq-eqb, eqb-true, eqb-false, ne_eqb, le-leb, lt-leb, lt-ltb, le-ltb, leb-true, leb-false}
use Rattle.std.proofs.lemmas.List.{get_or-drop, get_or-take, length-take}
use Rattle.std.proofs.lemmas.Nat.{mod_below}
use Rattle.std.proofs.lemmas.Map.Entries.{lookup-filter-keys}
use Rattle.sn_file_bytes.specs.Blocks.{Entries, block_at, byte_at, cut_at, in_block, over, values_from}
use Rattle.sn_file_bytes.proofs.ListLemmas.{cut_in, cut_out, list_is, over_above, over_below, over_in, side_of}

-- an offset is one in a block
pub parts : (k : ℕ) → k ≡ k / 4096 * 4096 + k % 4096
parts k = omega (arith, mod-add-div' k 4096)

pub low : (k : ℕ) → k % 4096 < 4096
low k = mod_below k 4096 (lit≤ tt)

quotient : (k q r : ℕ) → k ≡ q * 4096 + r → r < 4096 → k / 4096 ≡ q
quotient k q r e lt = omega (arith, parts k, low k, e, lt)

remainder : (k q r : ℕ) → k ≡ q * 4096 + r → r < 4096 → k % 4096 ≡ r
remainder k q r e lt = omega (arith, parts k, low k, e, lt)

pub byte_is : (es : Entries) (k q r : ℕ) → k ≡ q * 4096 + r → r < 4096 → byte_at es k ≡ in_block (block_at es q) r
unfolding byte_at
byte_is es k q r e lt = λ i. in_block (block_at es (quotient k q r e lt i)) (remainder k q r e lt i)

same_or_apart : (a b : ℕ) → (a ≡ b) ⊎ (a ≢ b)
same_or_apart a b = told (a == b) refl
  where
    told : (t : Bool) → (a == b) ≡ t → (a ≡ b) ⊎ (a ≢ b)
    told true e = inl (eqb-true a b e)
    told false e = inr (eqb-false a b e)

-- blocks with another one at an index, or without the one there
abbrev pub Updated : Entries → Entries → ℕ → Option (Box (List ℕ) Global) → Type 0
Updated es fs index w = (i : ℕ) → block_at fs i ≡ cond (is_at (nat_cmp index) i) w (block_at es i)

module _ (es fs : Entries) (index : ℕ) (w : Option (Box (List ℕ) Global)) (u : Updated es fs index w) where
  pub block_here : block_at fs index ≡ w
  block_here = u index ∙ ap (λ b. cond b w (block_at es index)) ((eq_by_cmp_equiv nat_cmp_total).refl index)

  pub block_other : (i : ℕ) → i ≢ index → block_at fs i ≡ block_at es i
  block_other i apart = u i ∙ ap (λ b. cond b w (block_at es i)) (unsigned_tied index i ∙ ne_eqb index i (λ e. apart (sym e)))

  pub byte_here : (k : ℕ) → k / 4096 ≡ index → byte_at fs k ≡ in_block w (k % 4096)
  byte_here k e = byte_is fs k index (k % 4096) (omega (arith, parts k, e)) (low k) ∙ ap (λ (o : Option (Box (List ℕ) Global)). in_block o (k % 4096)) block_here

  pub byte_other : (k : ℕ) → k / 4096 ≢ index → byte_at fs k ≡ byte_at es k
  unfolding byte_at
  byte_other k apart = ap (λ (o : Option (Box (List ℕ) Global)). in_block o (k % 4096)) (block_other (k / 4096) apart)

-- a hole that gets a block of zeros
pub filled : (es fs : Entries) (index : ℕ) (box : Box (List ℕ) Global) → Updated es fs index (Some box) → block_at es index ≡ None → ((i : ℕ) → get_or box.value i 0 ≡ 0) → (k : ℕ) → byte_at fs k ≡ byte_at es k
filled es fs index box u hole zeros k = told (same_or_apart (k / 4096) index)
  where
    told : (k / 4096 ≡ index) ⊎ (k / 4096 ≢ index) → byte_at fs k ≡ byte_at es k
    told (inl e) =
        byte_here es fs index (Some box) u k e ∙ zeros (k % 4096)
        ∙ sym (byte_is es k index (k % 4096) (omega (arith, parts k, e)) (low k) ∙ ap (λ (o : Option (Box (List ℕ) Global)). in_block o (k % 4096)) hole)
    told (inr e) = byte_other es fs index (Some box) u k e

-- bytes that are put into one block
pub piece_put : (es fs : Entries) (at : ℕ) (piece : List ℕ) (box new : Box (List ℕ) Global) → block_at es (at / 4096) ≡ Some box → Updated es fs (at / 4096) (Some new) → ((i : ℕ) → get_or new.value i 0 ≡ over (λ j. get_or box.value j 0) (at % 4096) piece i) → at % 4096 + length piece ≤ 4096
    → (k : ℕ) → byte_at fs k ≡ over (byte_at es) at piece k
piece_put es fs at piece box new there u is within k = told (same_or_apart (k / 4096) (at / 4096))
  where
    was : k / 4096 ≡ at / 4096 → byte_at es k ≡ get_or box.value (k % 4096) 0
    was e = byte_is es k (at / 4096) (k % 4096) (omega (arith, parts k, e)) (low k) ∙ ap (λ (o : Option (Box (List ℕ) Global)). in_block o (k % 4096)) there

    inside : k / 4096 ≡ at / 4096 → over (λ j. get_or box.value j 0) (at % 4096) piece (k % 4096) ≡ over (byte_at es) at piece k
    inside e = split (side_of (at % 4096) (k % 4096) (length piece))
      where
        split : (k % 4096 < at % 4096) ⊎ (((at % 4096 ≤ k % 4096) × (k % 4096 < at % 4096 + length piece)) ⊎ (at % 4096 + length piece ≤ k % 4096)) → over (λ j. get_or box.value j 0) (at % 4096) piece (k % 4096) ≡ over (byte_at es) at piece k
        split (inl a) = over_below (λ j. get_or box.value j 0) (at % 4096) piece (k % 4096) a ∙ sym (was e) ∙ sym (over_below (byte_at es) at piece k (omega (arith, a, e, parts k, parts at)))
        split (inr (inl a)) =
            let same : k % 4096 - at % 4096 ≡ k - at = omega (arith, a.0, e, parts k, parts at) in
            over_in (λ j. get_or box.value j 0) (at % 4096) piece (k % 4096) a.0 a.1 ∙ ap (λ (j : ℕ). get_or piece j 0) same
            ∙ sym (over_in (byte_at es) at piece k (omega (arith, a.0, e, parts k, parts at)) (omega (arith, a.1, e, parts k, parts at)))
        split (inr (inr a)) = over_above (λ j. get_or box.value j 0) (at % 4096) piece (k % 4096) a ∙ sym (was e) ∙ sym (over_above (byte_at es) at piece k (omega (arith, a, e, parts k, parts at)))

    outside : k / 4096 ≢ at / 4096 → byte_at es k ≡ over (byte_at es) at piece k
    outside e = split (side_of at k (length piece))
      where
        split : (k < at) ⊎ (((at ≤ k) × (k < at + length piece)) ⊎ (at + length piece ≤ k)) → byte_at es k ≡ over (byte_at es) at piece k
        split (inl a) = sym (over_below (byte_at es) at piece k a)
        split (inr (inl a)) = absurd (e (omega (arith, a.0, a.1, within, parts k, parts at, low k, low at)))
        split (inr (inr a)) = sym (over_above (byte_at es) at piece k a)

    told : (k / 4096 ≡ at / 4096) ⊎ (k / 4096 ≢ at / 4096) → byte_at fs k ≡ over (byte_at es) at piece k
    told (inl e) = byte_here es fs (at / 4096) (Some new) u k e ∙ is (k % 4096) ∙ inside e
    told (inr e) = byte_other es fs (at / 4096) (Some new) u k e ∙ outside e

-- the zeros behind an offset, in its block
abbrev pub cleared : (ℕ → ℕ) → ℕ → ℕ → ℕ
cleared f at k = cond ((k / 4096 == at / 4096) && nat_le (at % 4096) (k % 4096)) 0 (f k)

cleared_apart : (f : ℕ → ℕ) (at k : ℕ) → k / 4096 ≢ at / 4096 → cleared f at k ≡ f k
cleared_apart f at k e = ap (λ b. cond (b && nat_le (at % 4096) (k % 4096)) 0 (f k)) (ne_eqb (k / 4096) (at / 4096) e)

cleared_below : (f : ℕ → ℕ) (at k : ℕ) → k / 4096 ≡ at / 4096 → k % 4096 < at % 4096 → cleared f at k ≡ f k
cleared_below f at k e lt = λ i. cond (eq-eqb (k / 4096) (at / 4096) e i && lt-leb (at % 4096) (k % 4096) lt i) 0 (f k)

cleared_from : (f : ℕ → ℕ) (at k : ℕ) → k / 4096 ≡ at / 4096 → at % 4096 ≤ k % 4096 → cleared f at k ≡ 0
cleared_from f at k e le = λ i. cond (eq-eqb (k / 4096) (at / 4096) e i && le-leb (at % 4096) (k % 4096) le i) 0 (f k)

pub piece_cleared : (es fs : Entries) (at : ℕ) (box new : Box (List ℕ) Global) → block_at es (at / 4096) ≡ Some box → Updated es fs (at / 4096) (Some new) → ((i : ℕ) → get_or new.value i 0 ≡ cut_at (λ j. get_or box.value j 0) (at % 4096) i)
    → (k : ℕ) → byte_at fs k ≡ cleared (byte_at es) at k
piece_cleared es fs at box new there u is k = told (same_or_apart (k / 4096) (at / 4096))
  where
    was : k / 4096 ≡ at / 4096 → byte_at es k ≡ get_or box.value (k % 4096) 0
    was e = byte_is es k (at / 4096) (k % 4096) (omega (arith, parts k, e)) (low k) ∙ ap (λ (o : Option (Box (List ℕ) Global)). in_block o (k % 4096)) there

    inside : k / 4096 ≡ at / 4096 → cut_at (λ j. get_or box.value j 0) (at % 4096) (k % 4096) ≡ cleared (byte_at es) at k
    inside e = split (nat_le (at % 4096) (k % 4096)) refl
      where
        split : (b : Bool) → nat_le (at % 4096) (k % 4096) ≡ b → cut_at (λ j. get_or box.value j 0) (at % 4096) (k % 4096) ≡ cleared (byte_at es) at k
        split true t = let le = leb-true (at % 4096) (k % 4096) t in cut_out (λ j. get_or box.value j 0) (at % 4096) (k % 4096) le ∙ sym (cleared_from (byte_at es) at k e le)
        split false t = let lt = leb-false (at % 4096) (k % 4096) t in cut_in (λ j. get_or box.value j 0) (at % 4096) (k % 4096) lt ∙ sym (was e) ∙ sym (cleared_below (byte_at es) at k e lt)

    told : (k / 4096 ≡ at / 4096) ⊎ (k / 4096 ≢ at / 4096) → byte_at fs k ≡ cleared (byte_at es) at k
    told (inl e) = byte_here es fs (at / 4096) (Some new) u k e ∙ is (k % 4096) ∙ inside e
    told (inr e) = byte_other es fs (at / 4096) (Some new) u k e ∙ sym (cleared_apart (byte_at es) at k e)

-- a hole has nothing to clear
pub hole_cleared : (es : Entries) (at : ℕ) → block_at es (at / 4096) ≡ None → (k : ℕ) → byte_at es k ≡ cleared (byte_at es) at k
hole_cleared es at hole k = told (same_or_apart (k / 4096) (at / 4096)) (nat_le (at % 4096) (k % 4096)) refl
  where
    told : (k / 4096 ≡ at / 4096) ⊎ (k / 4096 ≢ at / 4096) → (b : Bool) → nat_le (at % 4096) (k % 4096) ≡ b → byte_at es k ≡ cleared (byte_at es) at k
    told (inr e) b t = sym (cleared_apart (byte_at es) at k e)
    told (inl e) false t = sym (cleared_below (byte_at es) at k e (leb-false (at % 4096) (k % 4096) t))
    told (inl e) true t =
        byte_is es k (at / 4096) (k % 4096) (omega (arith, parts k, e)) (low k) ∙ ap (λ (o : Option (Box (List ℕ) Global)). in_block o (k % 4096)) hole
        ∙ sym (cleared_from (byte_at es) at k e (leb-true (at % 4096) (k % 4096) t))

-- blocks up to an index alone
pub dropped : (es : Entries) (index k : ℕ) → byte_at (filter (λ e. nat_lt e.0 index) es) k ≡ cond (nat_lt (k / 4096) index) (byte_at es k) 0
unfolding byte_at
dropped es index k =
    ap (λ (o : Option (Box (List ℕ) Global)). in_block o (k % 4096)) (lookup-filter-keys (is_at (nat_cmp (k / 4096))) (λ i. nat_lt i index) (nat_lt (k / 4096) index) (λ i e. ap (λ (j : ℕ). nat_lt j index) (sym (eqb-true (k / 4096) i (sym (unsigned_tied (k / 4096) i) ∙ e)))) es)
    ∙ told (nat_lt (k / 4096) index) (block_at es (k / 4096))
  where
    told : (b : Bool) (o : Option (Box (List ℕ) Global)) → in_block (cond b o None) (k % 4096) ≡ cond b (in_block o (k % 4096)) 0
    told true o = refl
    told false o = refl

-- both together cut
pub cut_is : (f g h : ℕ → ℕ) (size : ℕ) → ((k : ℕ) → g k ≡ cond (nat_lt (k / 4096) (size / 4096 + min 1 (size % 4096))) (f k) 0) → ((k : ℕ) → h k ≡ cleared g size k) → (k : ℕ) → h k ≡ cut_at f size k
cut_is f g h size first second k = told (nat_le size k) refl (same_or_apart (k / 4096) (size / 4096))
  where
    kept : k / 4096 < size / 4096 + min 1 (size % 4096) → g k ≡ f k
    kept lt = first k ∙ ap (λ b. cond b (f k) 0) (lt-ltb (k / 4096) (size / 4096 + min 1 (size % 4096)) lt)

    gone : size / 4096 + min 1 (size % 4096) ≤ k / 4096 → g k ≡ 0
    gone le = first k ∙ ap (λ b. cond b (f k) 0) (le-ltb (k / 4096) (size / 4096 + min 1 (size % 4096)) le)

    told : (b : Bool) → nat_le size k ≡ b → (k / 4096 ≡ size / 4096) ⊎ (k / 4096 ≢ size / 4096) → h k ≡ cut_at f size k
    told true t (inl e) =
        let le = leb-true size k t in
        second k ∙ cleared_from g size k e (omega (arith, le, e, parts k, parts size)) ∙ sym (cut_out f size k le)
    told true t (inr e) =
        let le = leb-true size k t in
        second k ∙ cleared_apart g size k e ∙ gone (omega (arith, le, e, parts k, parts size, low k, low size)) ∙ sym (cut_out f size k le)
    told false t (inl e) =
        let lt = leb-false size k t in
        let less : k % 4096 < size % 4096 = omega (arith, lt, e, parts k, parts size) in
        second k ∙ cleared_below g size k e less ∙ kept (omega (arith, e, less)) ∙ sym (cut_in f size k lt)
    told false t (inr e) =
        let lt = leb-false size k t in
        second k ∙ cleared_apart g size k e ∙ kept (omega (arith, lt, e, parts k, parts size, low k, low size)) ∙ sym (cut_in f size k lt)

-- bytes of one block from an offset on
pub piece_is : (es : Entries) (at n m : ℕ) (xs : List ℕ) → m ≡ n → at % 4096 + n ≤ 4096 → ((i : ℕ) → get_or xs i 0 ≡ in_block (block_at es (at / 4096)) i) → take m (drop (at % 4096) xs) ≡ values_from (byte_at es) at (length (take m (drop (at % 4096) xs)))
piece_is es at n m xs same within is = list_is (byte_at es) at (take m (drop (at % 4096) xs)) (λ i lt.
    let few : i < m = omega (arith, lt, length-take m (drop (at % 4096) xs)) in
    get_or-take m (drop (at % 4096) xs) i 0 few ∙ get_or-drop (at % 4096) xs i 0 ∙ is (at % 4096 + i)
    ∙ sym (byte_is es (at + i) (at / 4096) (at % 4096 + i) (omega (arith, parts at)) (omega (arith, few, same, within))))
