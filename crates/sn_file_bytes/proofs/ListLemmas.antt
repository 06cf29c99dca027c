-- Lists of the values of a function.
use Rattle.std.proofs.Common.{◌≡◌, ℕ, zero, suc, ◌+◌, ◌-◌, ◌<◌, ◌≤◌, ◌&&◌, Bool, true, false, cond, List, [], ◌∷◌, ◌++◌, length, take, drop, get_or, replicate, min, max, nat_le, nat_lt, refl, sym, ap, ◌∙◌, ◌⊎◌, inl, inr, arith, add-zero, append_assoc, append-nil, length-append, length-drop}
use Rattle.std.proofs.lemmas.Bool.{le-leb, lt-leb, lt-ltb, le-ltb, leb-true, leb-false, ltb-true, ltb-false, and_right}
use Rattle.std.proofs.lemmas.List.{ext_get_or, get_or_past, get_or-drop, get_or-take, get_or_append_left, get_or-append_right, get_or-replicate, length-replicate, length-take, length-take-le}
use Rattle.sn_model.specs.Changes.{overwritten, resized}
use Rattle.sn_file_bytes.specs.Blocks.{cut_at, over, values_from}

pub length-values_from : (f : ℕ → ℕ) (first n : ℕ) → length (values_from f first n) ≡ n
unfolding values_from
length-values_from f first zero = refl
length-values_from f first (suc n) = omega (arith, length-values_from f (first + 1) n)

pub get_or-values_from : (f : ℕ → ℕ) (first n i d : ℕ) → i < n → get_or (values_from f first n) i d ≡ f (first + i)
unfolding values_from
get_or-values_from f first zero i d h = absurd (omega arith)
get_or-values_from f first (suc n) zero d h = ap f (sym (add-zero first))
get_or-values_from f first (suc n) (suc i) d h =
    let shift : first + 1 + i ≡ first + suc i = omega arith in
    get_or-values_from f (first + 1) n i d (omega arith) ∙ ap f shift

-- a list that has the values of a function
pub list_is : (f : ℕ → ℕ) (first : ℕ) (xs : List ℕ) → ((i : ℕ) → i < length xs → get_or xs i 0 ≡ f (first + i)) → xs ≡ values_from f first (length xs)
list_is f first xs h = ext_get_or 0 xs (values_from f first (length xs)) (sym (length-values_from f first (length xs))) (λ i lt. h i lt ∙ sym (get_or-values_from f first (length xs) i 0 lt))

-- the same from the first argument on
get_or-values : (f : ℕ → ℕ) (n i : ℕ) → i < n → get_or (values_from f 0 n) i 0 ≡ f i
get_or-values f n i lt = let none : 0 + i ≡ i = omega arith in get_or-values_from f 0 n i 0 lt ∙ ap f none

list_all : (f : ℕ → ℕ) (xs : List ℕ) → ((i : ℕ) → i < length xs → get_or xs i 0 ≡ f i) → xs ≡ values_from f 0 (length xs)
list_all f xs h = list_is f 0 xs (λ i lt. let none : i ≡ 0 + i = omega arith in h i lt ∙ ap f none)

pub values_join : (f : ℕ → ℕ) (first m n : ℕ) → values_from f first m ++ values_from f (first + m) n ≡ values_from f first (m + n)
unfolding values_from
values_join f first zero n = let none : n ≡ 0 + n = omega arith in ap (λ k. values_from f k n) (add-zero first) ∙ ap (values_from f first) none
values_join f first (suc m) n =
    let shift : first + suc m ≡ first + 1 + m = omega arith in
    let sum : suc (m + n) ≡ suc m + n = omega arith in
    ap (λ xs. f first ∷ xs) (ap (λ k. values_from f (first + 1) m ++ values_from f k n) shift ∙ values_join f (first + 1) m n) ∙ ap (values_from f first) sum

-- where an index lies to a list that is put from another on
pub side_of : (offset k n : ℕ) → (k < offset) ⊎ (((offset ≤ k) × (k < offset + n)) ⊎ (offset + n ≤ k))
side_of offset k n = told (nat_le offset k) refl (nat_lt k (offset + n)) refl
  where
    told : (a : Bool) → nat_le offset k ≡ a → (b : Bool) → nat_lt k (offset + n) ≡ b → (k < offset) ⊎ (((offset ≤ k) × (k < offset + n)) ⊎ (offset + n ≤ k))
    told false e b f = inl (leb-false offset k e)
    told true e true f = inr (inl (leb-true offset k e, ltb-true k (offset + n) f))
    told true e false f = inr (inr (ltb-false k (offset + n) f))

module _ (f : ℕ → ℕ) (offset : ℕ) (new : List ℕ) (k : ℕ) where
  pub over_in : offset ≤ k → k < offset + length new → over f offset new k ≡ get_or new (k - offset) 0
  over_in a b = λ i. cond (le-leb offset k a i && lt-ltb k (offset + length new) b i) (get_or new (k - offset) 0) (f k)

  pub over_below : k < offset → over f offset new k ≡ f k
  over_below a = ap (λ b. cond (b && nat_lt k (offset + length new)) (get_or new (k - offset) 0) (f k)) (lt-leb offset k a)

  pub over_above : offset + length new ≤ k → over f offset new k ≡ f k
  over_above a = ap (λ b. cond b (get_or new (k - offset) 0) (f k)) (and_right (nat_le offset k) (nat_lt k (offset + length new)) (le-ltb k (offset + length new) a))

module _ (f : ℕ → ℕ) (size k : ℕ) where
  pub cut_in : k < size → cut_at f size k ≡ f k
  cut_in a = ap (λ b. cond b (f k) 0) (lt-ltb k size a)

  pub cut_out : size ≤ k → cut_at f size k ≡ 0
  cut_out a = ap (λ b. cond b (f k) 0) (le-ltb k size a)

-- a list that is put piece by piece
pub over_more : (f g h : ℕ → ℕ) (offset done count : ℕ) (new piece : List ℕ) → done + count ≤ length new → piece ≡ take count (drop done new) → ((k : ℕ) → g k ≡ over f offset (take done new) k) → ((k : ℕ) → h k ≡ over g (offset + done) piece k) → (k : ℕ) → h k ≡ over f offset (take (done + count) new) k
over_more f g h offset done count new piece few is before after k = told (side_of (offset + done) k count)
  where
    size : length piece ≡ count
    size = ap length is ∙ length-take-le count (drop done new) (omega (arith, few, length-drop done new))

    was : length (take done new) ≡ done
    was = length-take-le done new (omega (arith, few))

    all : length (take (done + count) new) ≡ done + count
    all = length-take-le (done + count) new few

    first : k < offset + done → over f offset (take done new) k ≡ over f offset (take (done + count) new) k
    first low = split (side_of offset k done)
      where
        split : (k < offset) ⊎ (((offset ≤ k) × (k < offset + done)) ⊎ (offset + done ≤ k)) → over f offset (take done new) k ≡ over f offset (take (done + count) new) k
        split (inl a) = over_below f offset (take done new) k a ∙ sym (over_below f offset (take (done + count) new) k a)
        split (inr (inl a)) =
            over_in f offset (take done new) k a.0 (omega (arith, a.1, was)) ∙ get_or-take done new (k - offset) 0 (omega (arith, a.0, a.1))
            ∙ sym (over_in f offset (take (done + count) new) k a.0 (omega (arith, a.1, all)) ∙ get_or-take (done + count) new (k - offset) 0 (omega (arith, a.0, a.1)))
        split (inr (inr a)) = absurd (omega (arith, a, low))

    told : (k < offset + done) ⊎ (((offset + done ≤ k) × (k < offset + done + count)) ⊎ (offset + done + count ≤ k)) → h k ≡ over f offset (take (done + count) new) k
    told (inl a) = after k ∙ over_below g (offset + done) piece k a ∙ before k ∙ first a
    told (inr (inl a)) =
        let there : done + (k - (offset + done)) ≡ k - offset = omega (arith, a.0) in
        after k ∙ over_in g (offset + done) piece k a.0 (omega (arith, a.1, size))
        ∙ ap (λ (xs : List ℕ). get_or xs (k - (offset + done)) 0) is ∙ get_or-take count (drop done new) (k - (offset + done)) 0 (omega (arith, a.0, a.1)) ∙ get_or-drop done new (k - (offset + done)) 0
        ∙ ap (λ (i : ℕ). get_or new i 0) there
        ∙ sym (over_in f offset (take (done + count) new) k (omega (arith, a.0)) (omega (arith, a.1, all)) ∙ get_or-take (done + count) new (k - offset) 0 (omega (arith, a.0, a.1)))
    told (inr (inr a)) =
        after k ∙ over_above g (offset + done) piece k (omega (arith, a, size)) ∙ before k ∙ over_above f offset (take done new) k (omega (arith, a, was))
        ∙ sym (over_above f offset (take (done + count) new) k (omega (arith, a, all)))

abbrev pub nothing : ℕ → List ℕ
nothing m = replicate m 0

pub zeros_at : (m j : ℕ) → get_or (nothing m) j 0 ≡ 0
zeros_at m j = told (nat_lt j m) refl
  where
    told : (b : Bool) → nat_lt j m ≡ b → get_or (nothing m) j 0 ≡ 0
    told true e = get_or-replicate {A = ℕ} m j 0 0 (ltb-true j m e)
    told false e = get_or_past (nothing m) j 0 (omega (arith, ltb-false j m e, length-replicate {A = ℕ} m 0))

-- what a list of another size has
pub length-resized : (xs : List ℕ) (size : ℕ) → length (resized xs size) ≡ size
length-resized xs size = length-take-le size (xs ++ nothing (size - length xs)) (omega (arith, length-append xs (nothing (size - length xs)), length-replicate {A = ℕ} (size - length xs) 0))

pub resized_at : (xs : List ℕ) (size i : ℕ) → i < size → get_or (resized xs size) i 0 ≡ get_or xs i 0
resized_at xs size i lt = get_or-take size (xs ++ nothing (size - length xs)) i 0 lt ∙ told (nat_lt i (length xs)) refl
  where
    told : (b : Bool) → nat_lt i (length xs) ≡ b → get_or (xs ++ nothing (size - length xs)) i 0 ≡ get_or xs i 0
    told true e = get_or_append_left xs (nothing (size - length xs)) 0 i (ltb-true i (length xs) e)
    told false e =
        let past = ltb-false i (length xs) e in
        get_or-append_right xs (nothing (size - length xs)) (length xs) i 0 refl past ∙ zeros_at (size - length xs) (i - length xs) ∙ sym (get_or_past xs i 0 past)

-- a function with zeros from the end of its list on
module _ (f : ℕ → ℕ) (n : ℕ) (zeros : (k : ℕ) → n ≤ k → f k ≡ 0) where
  abbrev bytes : List ℕ
  bytes = values_from f 0 n

  value_at : (i : ℕ) → get_or bytes i 0 ≡ f i
  value_at i = told (nat_lt i n) refl
    where
      told : (b : Bool) → nat_lt i n ≡ b → get_or bytes i 0 ≡ f i
      told true e = get_or-values f n i (ltb-true i n e)
      told false e = let past = ltb-false i n e in get_or_past bytes i 0 (omega (arith, past, length-values_from f 0 n)) ∙ sym (zeros i past)

  pub resized_is : (g : ℕ → ℕ) (size : ℕ) → ((k : ℕ) → k < size → g k ≡ f k) → values_from g 0 size ≡ resized bytes size
  resized_is g size same = sym (list_all g (resized bytes size) (λ i lt. let low : i < size = omega (arith, lt, length-resized bytes size) in resized_at bytes size i low ∙ value_at i ∙ sym (same i low)) ∙ ap (values_from g 0) (length-resized bytes size))

  module _ (g : ℕ → ℕ) (offset : ℕ) (new : List ℕ) (is : (k : ℕ) → g k ≡ over f offset new k) where
    abbrev all : List ℕ
    all = overwritten bytes offset new

    length-all : length all ≡ max n (offset + length new)
    length-all = omega (arith, length-append (resized bytes offset) (new ++ drop (offset + length new) bytes), length-append new (drop (offset + length new) bytes), length-drop (offset + length new) bytes, length-resized bytes offset, length-values_from f 0 n)

    each : (i : ℕ) → get_or all i 0 ≡ g i
    each i = told (side_of offset i (length new))
      where
        tail : offset ≤ i → get_or all i 0 ≡ get_or (new ++ drop (offset + length new) bytes) (i - offset) 0
        tail a = get_or-append_right (resized bytes offset) (new ++ drop (offset + length new) bytes) offset i 0 (length-resized bytes offset) a

        told : (i < offset) ⊎ (((offset ≤ i) × (i < offset + length new)) ⊎ (offset + length new ≤ i)) → get_or all i 0 ≡ g i
        told (inl a) =
            get_or_append_left (resized bytes offset) (new ++ drop (offset + length new) bytes) 0 i (omega (arith, a, length-resized bytes offset))
            ∙ resized_at bytes offset i a ∙ value_at i ∙ sym (is i ∙ over_below f offset new i a)
        told (inr (inl a)) =
            tail a.0 ∙ get_or_append_left new (drop (offset + length new) bytes) 0 (i - offset) (omega (arith, a.0, a.1)) ∙ sym (is i ∙ over_in f offset new i a.0 a.1)
        told (inr (inr a)) =
            let back : offset + length new + (i - offset - length new) ≡ i = omega (arith, a) in
            tail (omega (arith, a)) ∙ get_or-append_right new (drop (offset + length new) bytes) (length new) (i - offset) 0 refl (omega (arith, a))
            ∙ get_or-drop (offset + length new) bytes (i - offset - length new) 0 ∙ ap (λ (j : ℕ). get_or bytes j 0) back ∙ value_at i ∙ sym (is i ∙ over_above f offset new i a)

    pub overwritten_is : values_from g 0 (max n (offset + length new)) ≡ overwritten bytes offset new
    overwritten_is = sym (list_all g all (λ i lt. each i) ∙ ap (values_from g 0) length-all)

-- what is read
pub read_is : (f : ℕ → ℕ) (n offset count : ℕ) → take count (drop offset (values_from f 0 n)) ≡ values_from f offset (min (n - offset) count)
read_is f n offset count =
    let size : length (take count (drop offset (values_from f 0 n))) ≡ min (n - offset) count = omega (arith, length-take count (drop offset (values_from f 0 n)), length-drop offset (values_from f 0 n), length-values_from f 0 n) in
    list_is f offset (take count (drop offset (values_from f 0 n)))
    (λ i lt. get_or-take count (drop offset (values_from f 0 n)) i 0 (omega (arith, lt, size)) ∙ get_or-drop offset (values_from f 0 n) i 0 ∙ get_or-values f n (offset + i) (omega (arith, lt, size)))
    ∙ ap (values_from f offset) size

-- a list behind which nothing, and one more piece, is read
pub none_read : (f : ℕ → ℕ) (first n : ℕ) (xs : List ℕ) → n ≡ 0 → xs ≡ xs ++ values_from f first n
unfolding values_from
none_read f first n xs e = sym (append-nil xs) ∙ ap (λ k. xs ++ values_from f first k) (sym e)

pub more_read : (f : ℕ → ℕ) (offset at : ℕ) (xs ys piece : List ℕ) → offset ≤ at → xs ≡ ys ++ values_from f offset (at - offset) → piece ≡ values_from f at (length piece) → xs ++ piece ≡ ys ++ values_from f offset (at + length piece - offset)
more_read f offset at xs ys piece low e h =
    let here : at ≡ offset + (at - offset) = omega (arith, low) in
    let all : at - offset + length piece ≡ at + length piece - offset = omega (arith, low) in
    (λ i. e i ++ h i) ∙ append_assoc ys (values_from f offset (at - offset)) (values_from f at (length piece))
    ∙ ap (λ (zs : List ℕ). ys ++ zs) (ap (λ k. values_from f offset (at - offset) ++ values_from f k (length piece)) here ∙ values_join f offset (at - offset) (length piece) ∙ ap (values_from f offset) all)

-- nothing is read behind the end
pub past_read : (f : ℕ → ℕ) (n offset count : ℕ) → n ≤ offset → [] ≡ take count (drop offset (values_from f 0 n))
unfolding values_from
past_read f n offset count past =
    let none : min (n - offset) count ≡ 0 = omega (arith, past) in
    sym (read_is f n offset count ∙ ap (values_from f offset) none)

-- what is under a list that is put matters at each index alone
pub over_same : (f g : ℕ → ℕ) (offset : ℕ) (new : List ℕ) (k : ℕ) → f k ≡ g k → over f offset new k ≡ over g offset new k
over_same f g offset new k e = ap (λ (n : ℕ). cond (nat_le offset k && nat_lt k (offset + length new)) (get_or new (k - offset) 0) n) e
