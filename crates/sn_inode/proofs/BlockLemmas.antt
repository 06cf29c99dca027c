-- Records in a block, and blocks among dirty ones.
use Rattle.std.proofs.Common.{◌≡◌, ◌≢◌, ◌⊎◌, inl, inr, ℕ, zero, suc, ◌+◌, ◌-◌, ◌*◌, ◌/◌, ◌%◌, ◌<◌, ◌≤◌, ◌==◌, Bool, true, false, if◌then◌else◌, List, [], ◌∷◌, ◌++◌, length, take, drop, get_or, slice_index, refl, sym, ap, subst, ◌∙◌, arith}
use Rattle.std.specs.Prelude.{All}
use Rattle.std.specs.List.Sorted.{IsStrictlyIncreasing}
use Rattle.std.proofs.lemmas.Bool.{cases_lt, eq-eqb, ne_eqb, lt-ltb, le-ltb}
use Rattle.std.proofs.lemmas.Bool.Decides.{eqb_tells}
use Rattle.std.proofs.lemmas.List.{take-take, drop_at, drop-take, take-append-le, length-take}
use Rattle.std.proofs.lemmas.List.Elements.{All-nil, All-cons, All-head, All-tail}
use Rattle.sn_layout.specs.Bytes.{Puts, zeros}
use Rattle.sn_layout_node.specs.Inode.{record_bytes}
use Rattle.sn_tree.specs.Dirty.{IsFrom, block_wanted, block_after}
use Rattle.sn_tree.specs.declared.new_block.DirtyBlock.{DirtyBlock}
use Rattle.sn_inode.specs.Stored.{ArePatched, record_in, bytes_after}
use Rattle.sn_inode.specs.declared.changes.StoredRecord.{StoredRecord}

-- ---- a record in a block

module _ (old new bytes : List ℕ) (at next : ℕ) (puts : Puts old new at next bytes) (long : length bytes ≡ 128) (room : at + 128 ≤ length old) where
  front_long : length (take at old) ≡ at
  front_long = length-take at old ∙ omega (arith, room)

  ends : next ≡ at + 128
  ends = puts.moved ∙ ap (λ (n : ℕ). at + n) long

  put_there : take 128 (drop at new) ≡ bytes
  put_there =
      sym (drop-take at 128 new)
      ∙ ap (λ (n : ℕ). drop at (take n new)) (sym ends)
      ∙ ap (drop at) puts.front
      ∙ drop_at (take at old) bytes at front_long

  before_same : (m : ℕ) → m ≤ at → take m new ≡ take m old
  before_same m le =
      sym (take-take m next new (omega (arith, le, ends)))
      ∙ ap (take m) puts.front
      ∙ take-append-le m (take at old) bytes (omega (arith, le, front_long))
      ∙ take-take m at old le

module _ (old new bytes : List ℕ) (index at next : ℕ) (where_is : at ≡ 128 * index) (puts : Puts old new at next bytes) (long : length bytes ≡ 128) (room : at + 128 ≤ length old) where
  pub put_here : record_in index new ≡ bytes
  put_here = ap (λ (n : ℕ). take 128 (drop n new)) (sym where_is) ∙ put_there old new bytes at next puts long room

  pub put_others : (i : ℕ) → (i ≡ index → ⊥) → record_in i new ≡ record_in i old
  put_others i other = told (cases_lt i index)
    where
      told : (i < index) ⊎ (index ≤ i) → record_in i new ≡ record_in i old
      told (inl less) =
          sym (drop-take (128 * i) 128 new)
          ∙ ap (drop (128 * i)) (before_same old new bytes at next puts long room (128 * i + 128) (omega (arith, less, where_is)))
          ∙ drop-take (128 * i) 128 old
      told (inr more) =
          let past : index < i = omega (arith, more, other) in
          ap (take 128) (puts.back (128 * i) (omega (arith, past, where_is, ends old new bytes at next puts long room)))

-- ---- dirty blocks

last_from : (least : ℕ) (front : List DirtyBlock) (d : DirtyBlock) → IsFrom least (front ++ d ∷ []) → least ≤ d.index
last_from least [] d is = is.0
last_from least (x ∷ front) d is = let later = last_from (x.index + 1) front d is.1 in omega (arith, is.0, later)

pub from_front : (least : ℕ) (front : List DirtyBlock) (d : DirtyBlock) → IsFrom least (front ++ d ∷ []) → IsFrom least front
from_front least [] d is = tt
from_front least (x ∷ front) d is = (is.0, from_front (x.index + 1) front d is.1)

pub front_below : (least : ℕ) (front : List DirtyBlock) (d : DirtyBlock) → IsFrom least (front ++ d ∷ []) → All (λ (x : DirtyBlock). x.index < d.index) front
front_below least [] d is = All-nil (λ (x : DirtyBlock). x.index < d.index)
front_below least (x ∷ front) d is =
    let later = last_from (x.index + 1) front d is.1 in
    All-cons (λ (x : DirtyBlock). x.index < d.index) x front (omega (arith, later)) (front_below (x.index + 1) front d is.1)

pub from_push : (least index : ℕ) (front : List DirtyBlock) (d : DirtyBlock) → d.index ≡ index → least ≤ index → All (λ (x : DirtyBlock). x.index < index) front → IsFrom least front → IsFrom least (front ++ d ∷ [])
from_push least index [] d is le below from = (omega (arith, is, le), tt)
from_push least index (x ∷ front) d is le below from =
    let first = All-head (λ (x : DirtyBlock). x.index < index) x front below in
    (from.0, from_push (x.index + 1) index front d is (omega (arith, first)) (All-tail (λ (x : DirtyBlock). x.index < index) x front below) from.1)

-- where the last one is below, all are
pub all_below : (least index : ℕ) (ds : List DirtyBlock) (z : DirtyBlock) → IsFrom least ds → ((k : ℕ) → k + 1 ≡ length ds → (get_or ds k z).index < index) → All (λ (x : DirtyBlock). x.index < index) ds
all_below least index [] z from last = All-nil (λ (x : DirtyBlock). x.index < index)
all_below least index (x ∷ []) z from last = All-cons (λ (x : DirtyBlock). x.index < index) x [] (last 0 (omega arith)) (All-nil (λ (x : DirtyBlock). x.index < index))
all_below least index (x ∷ y ∷ ds) z from last =
    let rest = all_below (x.index + 1) index (y ∷ ds) z from.1 (λ k e. last (suc k) (omega (arith, e))) in
    let next = All-head (λ (x : DirtyBlock). x.index < index) y ds rest in
    All-cons (λ (x : DirtyBlock). x.index < index) x (y ∷ ds) (omega (arith, from.1.0, next)) rest

pub pushed_here : (keep index : ℕ) (front : List DirtyBlock) (d : DirtyBlock) (old : List ℕ) → d.index ≡ index → All (λ (x : DirtyBlock). x.index < index) front → block_after keep (front ++ d ∷ []) index old ≡ d.bytes.value
unfolding block_wanted
pushed_here keep index [] d old is below = ap (λ (b : Bool). if b then d.bytes.value else block_after keep [] index old) (eq-eqb d.index index is)
pushed_here keep index (x ∷ front) d old is below =
    let first = All-head (λ (x : DirtyBlock). x.index < index) x front below in
    ap (λ (b : Bool). if b then x.bytes.value else block_after keep (front ++ d ∷ []) index old) (ne_eqb x.index index (λ same. omega (arith, first, same)))
    ∙ pushed_here keep index front d old is (All-tail (λ (x : DirtyBlock). x.index < index) x front below)

pub pushed_other : (keep i : ℕ) (front : List DirtyBlock) (d : DirtyBlock) (old : List ℕ) → (i ≡ d.index → ⊥) → block_after keep (front ++ d ∷ []) i old ≡ block_after keep front i old
unfolding block_wanted
pushed_other keep i [] d old other = ap (λ (b : Bool). if b then d.bytes.value else block_after keep [] i old) (ne_eqb d.index i (λ same. other (sym same)))
pushed_other keep i (x ∷ front) d old other = ap (λ (b : List ℕ). if x.index == i then x.bytes.value else b) (pushed_other keep i front d old other)

-- a block before which all are
pub clean_here : (keep index : ℕ) (front : List DirtyBlock) (old : List ℕ) → All (λ (x : DirtyBlock). x.index < index) front → block_after keep front index old ≡ block_after keep [] index old
unfolding block_wanted
clean_here keep index [] old below = refl
clean_here keep index (x ∷ front) old below =
    let first = All-head (λ (x : DirtyBlock). x.index < index) x front below in
    ap (λ (b : Bool). if b then x.bytes.value else block_after keep front index old) (ne_eqb x.index index (λ same. omega (arith, first, same)))
    ∙ clean_here keep index front old (All-tail (λ (x : DirtyBlock). x.index < index) x front below)

-- no dirty block
pub kept_here : (keep index : ℕ) (old : List ℕ) → index < keep → block_after keep [] index old ≡ old
unfolding block_wanted
kept_here keep index old less = ap (λ (b : Bool). if b then old else zeros 4096) (lt-ltb index keep less)

pub none_here : (keep index : ℕ) (old : List ℕ) → keep ≤ index → block_after keep [] index old ≡ zeros 4096
unfolding block_wanted
none_here keep index old le = ap (λ (b : Bool). if b then old else zeros 4096) (le-ltb index keep le)

-- ---- records that were stored

pub stored_more : (xs : List StoredRecord) (x : StoredRecord) (number : ℕ) (old : List ℕ) → bytes_after (xs ++ x ∷ []) number old ≡ (if x.number == number then record_bytes x.record else bytes_after xs number old)
unfolding bytes_after
stored_more [] x number old = refl
stored_more (y ∷ xs) x number old = stored_more xs x number (if y.number == number then record_bytes y.record else old)

module _ (old : ℕ → List ℕ) (keep : ℕ) (xs : List StoredRecord) (x : StoredRecord) (ds front : List DirtyBlock) (d : DirtyBlock) (bytes : List ℕ)
    (is : d.index ≡ x.number / 32) (below : All (λ (y : DirtyBlock). y.index < x.number / 32) front)
    (opened : bytes ≡ block_after keep ds (x.number / 32) (old (x.number / 32)))
    (beside : (i : ℕ) (b : List ℕ) → (i ≡ x.number / 32 → ⊥) → block_after keep front i b ≡ block_after keep ds i b)
    (here : record_in (x.number % 32) d.bytes.value ≡ record_bytes x.record)
    (others : (i : ℕ) → (i ≡ x.number % 32 → ⊥) → record_in i d.bytes.value ≡ record_in i bytes)
    (patched : ArePatched old keep xs ds) where
  pub patched_more : ArePatched old keep (xs ++ x ∷ []) (front ++ d ∷ [])
  patched_more number = told (eqb_tells (number / 32) (x.number / 32)) (eqb_tells x.number number)
    where
      was : List ℕ
      was = record_in (number % 32) (block_after keep [] (number / 32) (old (number / 32)))

      told : (((number / 32) == (x.number / 32)) ≡ true) × ((number / 32) ≡ (x.number / 32)) ⊎ ((((number / 32) == (x.number / 32)) ≡ false) × ((number / 32) ≢ (x.number / 32)))
          → (((x.number == number) ≡ true) × (x.number ≡ number)) ⊎ (((x.number == number) ≡ false) × (x.number ≢ number))
          → record_in (number % 32) (block_after keep (front ++ d ∷ []) (number / 32) (old (number / 32))) ≡ bytes_after (xs ++ x ∷ []) number was
      told block (inl number_is) =
          let same = number_is.1 in
          ap (λ (n : ℕ). record_in (n % 32) (block_after keep (front ++ d ∷ []) (n / 32) (old (n / 32)))) (sym same)
          ∙ ap (record_in (x.number % 32)) (pushed_here keep (x.number / 32) front d (old (x.number / 32)) is below)
          ∙ here
          ∙ sym (stored_more xs x number was ∙ ap (λ (b : Bool). if b then record_bytes x.record else bytes_after xs number was) number_is.0)
      told (inl block) (inr not) =
          let within : (number % 32 ≡ x.number % 32 → ⊥) = (λ e. not.1 (omega (arith, e, block.1))) in
          ap (λ (n : ℕ). record_in (number % 32) (block_after keep (front ++ d ∷ []) n (old n))) block.1
          ∙ ap (record_in (number % 32)) (pushed_here keep (x.number / 32) front d (old (x.number / 32)) is below)
          ∙ others (number % 32) within
          ∙ ap (record_in (number % 32)) opened
          ∙ ap (λ (n : ℕ). record_in (number % 32) (block_after keep ds n (old n))) (sym block.1)
          ∙ patched number
          ∙ sym (stored_more xs x number was ∙ ap (λ (b : Bool). if b then record_bytes x.record else bytes_after xs number was) not.0)
      told (inr block) (inr not) =
          ap (record_in (number % 32)) (pushed_other keep (number / 32) front d (old (number / 32)) (λ e. block.1 (e ∙ is)) ∙ beside (number / 32) (old (number / 32)) block.1)
          ∙ patched number
          ∙ sym (stored_more xs x number was ∙ ap (λ (b : Bool). if b then record_bytes x.record else bytes_after xs number was) not.0)

pub patched_none : (old : ℕ → List ℕ) (keep : ℕ) → ArePatched old keep [] []
unfolding bytes_after
patched_none old keep number = refl

-- the same by other names of the block and of the index in it
pub patched_at : (old : ℕ → List ℕ) (keep : ℕ) (xs : List StoredRecord) (x : StoredRecord) (ds front news : List DirtyBlock) (d : DirtyBlock) (bytes : List ℕ) (index within : ℕ)
    → index ≡ x.number / 32 → within ≡ x.number % 32 → d.index ≡ index → news ≡ front ++ d ∷ []
    → All (λ (y : DirtyBlock). y.index < index) front
    → bytes ≡ block_after keep ds index (old index)
    → ((keep i : ℕ) (b : List ℕ) → (i ≡ index → ⊥) → block_after keep front i b ≡ block_after keep ds i b)
    → record_in within d.bytes.value ≡ record_bytes x.record
    → ((i : ℕ) → (i ≡ within → ⊥) → record_in i d.bytes.value ≡ record_in i bytes)
    → ArePatched old keep xs ds → ArePatched old keep (xs ++ x ∷ []) news
patched_at old keep xs x ds front news d bytes index within index_is within_is is made below opened beside here others patched =
    subst (λ (l : List DirtyBlock). ArePatched old keep (xs ++ x ∷ []) l) (sym made)
    (patched_more old keep xs x ds front d bytes (is ∙ index_is)
    (subst (λ (n : ℕ). All (λ (y : DirtyBlock). y.index < n) front) index_is below)
    (subst (λ (n : ℕ). bytes ≡ block_after keep ds n (old n)) index_is opened)
    (λ i b other. beside keep i b (λ e. other (e ∙ index_is)))
    (subst (λ (n : ℕ). record_in n d.bytes.value ≡ record_bytes x.record) within_is here)
    (λ i other. others i (λ e. other (e ∙ within_is)))
    patched)

-- one record more, in a store that is known to be the same
pub patched_next : (same_old old : ℕ → List ℕ) (keep : ℕ) (xs ys : List StoredRecord) (x : StoredRecord) (ds news : List DirtyBlock) → same_old ≡ old → ys ≡ xs ++ x ∷ []
    → ((zs : List StoredRecord) → ArePatched same_old keep zs ds → ArePatched same_old keep (zs ++ x ∷ []) news)
    → ArePatched old keep xs ds → ArePatched old keep ys news
patched_next same_old old keep xs ys x ds news same more step before =
    subst (λ (zs : List StoredRecord). ArePatched old keep zs news) (sym more)
    (subst (λ (f : ℕ → List ℕ). ArePatched f keep (xs ++ x ∷ []) news) same
    (step xs (subst (λ (f : ℕ → List ℕ). ArePatched f keep xs ds) (sym same) before)))

-- ---- rising numbers

-- one of strictly rising numbers isn't below an earlier one
pub rising : (ns : List ℕ) → IsStrictlyIncreasing ns → (i d : ℕ) → i + d < length ns → slice_index ns i ≤ slice_index ns (i + d)
rising ns inc i zero within = let same : i + 0 ≡ i = omega arith in subst (λ (k : ℕ). slice_index ns i ≤ slice_index ns k) (sym same) (omega arith)
rising ns inc i (suc d) within =
    let before = rising ns inc i d (omega (arith, within)) in
    let next = inc (i + d) (omega (arith, within)) in
    let at : i + d + 1 ≡ i + suc d = omega arith in
    let there : slice_index ns (i + d + 1) ≡ slice_index ns (i + suc d) = ap (slice_index ns) at in
    omega (arith, before, next, there)

pub rising_to : (ns : List ℕ) → IsStrictlyIncreasing ns → (i k : ℕ) → i ≤ k → k < length ns → slice_index ns i ≤ slice_index ns k
rising_to ns inc i k le within =
    let at : i + (k - i) ≡ k = omega (arith, le) in
    subst (λ (j : ℕ). slice_index ns i ≤ slice_index ns j) at (rising ns inc i (k - i) (omega (arith, at, within)))
