-- One bit of a word: what `with_bit` says bit by bit, and what the code computes.
use Rattle.std.proofs.Common.{◌≡◌, ◌≢◌, ℕ, ◌+◌, ◌-◌, ◌*◌, ◌/◌, ◌%◌, ◌^◌, ◌<◌, List, length, map, set, get_or, inl, inr, add-zero, bit_and, bit_or, sym, ap, ◌∙◌, arith, w32}
use Rattle.std.specs.Int.{bit_at, bit_not}
use Rattle.std.proofs.Math.Nat.{mod-eq_of_lt}
use Rattle.std.proofs.lemmas.Bool.{cases_eq, cases_lt}
use Rattle.std.proofs.lemmas.List.{length-map, length-set, get_or-map, get_or_past, get_or-set_same, get_or-set_other}
use Rattle.std.proofs.lemmas.Nat.{div-add-mod', mod_below, pow_pos, shl-shr, shl_whole}
use Rattle.std.proofs.lemmas.Nat.Bits.{bit_at-lt, bit_at_cat_low, bit_at_cat_high, bit_at_lowest, same_from_bits, bit_at_or, bit_at_and, bit_at_clear_same, bit_at_clear_other, bit_at_set_same, bit_at_set_other, bit_at_above, bit_at-zero, shr_and_one}
use Rattle.sn_map.specs.Bits.{with_bit, with_bit_copied, with_bit_cleared, CopiesBit, ClearsBit, PutsBit}

-- a number is its bits above k, its bit k, and its bits below
split_at_bit : (n k : ℕ) → (n / 2 ^ k / 2 * 2 ^ 1 + bit_at n k) * 2 ^ k + n % 2 ^ k ≡ n
split_at_bit n k = ap (λ m. m * 2 ^ k + n % 2 ^ k) (div-add-mod' (n / 2 ^ k) 2) ∙ div-add-mod' n (2 ^ k)

put_bit : (n q b bit p r : ℕ) → (q * 2 + b) * p + r ≡ n → n - b * p + bit * p ≡ (q * 2 + bit) * p + r
put_bit n q b bit p r e = omega arith

with_bit-split : (n k bit : ℕ) → with_bit n k bit ≡ (n / 2 ^ k / 2 * 2 ^ 1 + bit) * 2 ^ k + n % 2 ^ k
with_bit-split n k bit = put_bit n (n / 2 ^ k / 2) (bit_at n k) bit (2 ^ k) (n % 2 ^ k) (split_at_bit n k)

-- the bits of a number that is made of those above k, bit k and those below
same_bit : (q bit k r : ℕ) → bit < 2 → r < 2 ^ k → bit_at ((q * 2 ^ 1 + bit) * 2 ^ k + r) k ≡ bit
same_bit q bit k r lt low =
    let at : k - k ≡ 0 = omega arith in
    bit_at_cat_high (q * 2 ^ 1 + bit) k r k low (omega arith)
    ∙ ap (bit_at (q * 2 ^ 1 + bit)) at
    ∙ bit_at_cat_low q 1 bit 0 (omega arith)
    ∙ bit_at_lowest bit
    ∙ mod-eq_of_lt lt

low_bit : (q b k r i : ℕ) → i < k → bit_at ((q * 2 ^ 1 + b) * 2 ^ k + r) i ≡ bit_at r i
low_bit q b k r i below = bit_at_cat_low (q * 2 ^ 1 + b) k r i below

high_bit : (q b k r i : ℕ) → b < 2 → r < 2 ^ k → k < i → bit_at ((q * 2 ^ 1 + b) * 2 ^ k + r) i ≡ bit_at q (i - k - 1)
high_bit q b k r i lt low above =
    bit_at_cat_high (q * 2 ^ 1 + b) k r i low (omega arith) ∙ bit_at_cat_high q 1 b (i - k) lt (omega arith)

other_bit : (q b c k r i : ℕ) → b < 2 → c < 2 → r < 2 ^ k → i ≢ k → bit_at ((q * 2 ^ 1 + b) * 2 ^ k + r) i ≡ bit_at ((q * 2 ^ 1 + c) * 2 ^ k + r) i
other_bit q b c k r i lb lc low ne =
    elim (cases_lt i k) [
      | inl below ↦ low_bit q b k r i below ∙ sym (low_bit q c k r i below)
      | inr above ↦
          let past : k < i = omega arith in
          high_bit q b k r i lb low past ∙ sym (high_bit q c k r i lc low past)
    ]

pub bit_at-with_bit_same : (n k bit : ℕ) → bit < 2 → bit_at (with_bit n k bit) k ≡ bit
bit_at-with_bit_same n k bit lt =
    ap (λ m. bit_at m k) (with_bit-split n k bit) ∙ same_bit (n / 2 ^ k / 2) bit k (n % 2 ^ k) lt (mod_below n (2 ^ k) (pow_pos k))

pub bit_at-with_bit_other : (n k bit i : ℕ) → bit < 2 → i ≢ k → bit_at (with_bit n k bit) i ≡ bit_at n i
bit_at-with_bit_other n k bit i lt ne =
    ap (λ m. bit_at m i) (with_bit-split n k bit)
    ∙ other_bit (n / 2 ^ k / 2) bit (bit_at n k) k (n % 2 ^ k) i lt (bit_at-lt n k) (mod_below n (2 ^ k) (pow_pos k)) ne
    ∙ ap (λ m. bit_at m i) (split_at_bit n k)

-- a bit that is shifted by k
shifted_bit : (b k : ℕ) → b < 2 → bit_at (b * 2 ^ k) k ≡ b
shifted_bit b k lt = ap (λ m. m % 2) (shl-shr b k) ∙ mod-eq_of_lt lt

bit_elsewhere : (b k i : ℕ) → b < 2 → i ≢ k → bit_at (b * 2 ^ k) i ≡ 0
bit_elsewhere b k i lt ne =
    ap (λ m. bit_at m i) (sym (add-zero (b * 2 ^ k)))
    ∙ elim (cases_lt i k) [
      | inl below ↦ bit_at_cat_low b k 0 i below ∙ bit_at-zero i
      | inr above ↦
          let past : k < i = omega arith in
          bit_at_cat_high b k 0 i (pow_pos k) above ∙ bit_at_above b 1 (i - k) lt (omega arith)
    ]

-- what the code computes of a word, bit by bit
cleared_other : (word k i : ℕ) → word < 2 ^ 32 → k < 32 → i ≢ k → bit_at (bit_and word (bit_not w32 (1 * 2 ^ k % 2 ^ 32))) i ≡ bit_at word i
cleared_other word k i fits within ne =
    elim (cases_lt i 32) [
      | inl low ↦ bit_at_clear_other w32 word k within i low ne
      | inr high ↦
          let none = bit_at_above word 32 i fits high in
          let both = bit_at_and word (bit_not w32 (1 * 2 ^ k % 2 ^ 32)) i in
          omega arith
    ]

bit_put : (word k b : ℕ) → word < 2 ^ 32 → k < 32 → b < 2 → bit_or (bit_and word (bit_not w32 (1 * 2 ^ k % 2 ^ 32))) (b * 2 ^ k % 2 ^ 32) ≡ with_bit word k b
bit_put word k b fits within lt =
    let kept = bit_and word (bit_not w32 (1 * 2 ^ k % 2 ^ 32)) in
    let joined : bit_or kept (b * 2 ^ k % 2 ^ 32) ≡ bit_or kept (b * 2 ^ k) = ap (bit_or kept) (shl_whole b 1 k 32 lt (omega arith)) in
    joined
    ∙ same_from_bits (bit_or kept (b * 2 ^ k)) (with_bit word k b) (λ i. elim (cases_eq i k) [
      | inl e ↦
          let cleared = bit_at_clear_same w32 word k within in
          let placed = shifted_bit b k lt in
          let put = bit_at_or kept (b * 2 ^ k) k in
          let at_k : bit_at (bit_or kept (b * 2 ^ k)) k ≡ b = omega arith in
          ap (bit_at (bit_or kept (b * 2 ^ k))) e ∙ at_k ∙ sym (bit_at-with_bit_same word k b lt) ∙ ap (bit_at (with_bit word k b)) (sym e)
      | inr ne ↦
          let stays = cleared_other word k i fits within ne in
          let none = bit_elsewhere b k i lt ne in
          let put = bit_at_or kept (b * 2 ^ k) i in
          let other : bit_at (bit_or kept (b * 2 ^ k)) i ≡ bit_at word i = omega arith in
          other ∙ sym (bit_at-with_bit_other word k b i lt ne)
    ])

pub bit_removed : (word k : ℕ) → word < 2 ^ 32 → k < 32 → bit_and word (bit_not w32 (1 * 2 ^ k % 2 ^ 32)) ≡ with_bit_cleared k word
bit_removed word k fits within =
    let kept = bit_and word (bit_not w32 (1 * 2 ^ k % 2 ^ 32)) in
    same_from_bits kept (with_bit_cleared k word) (λ i. elim (cases_eq i k) [
      | inl e ↦ ap (bit_at kept) e ∙ bit_at_clear_same w32 word k within ∙ sym (bit_at-with_bit_same word k 0 (omega arith)) ∙ ap (bit_at (with_bit word k 0)) (sym e)
      | inr ne ↦ cleared_other word k i fits within ne ∙ sym (bit_at-with_bit_other word k 0 i (omega arith) ne)
    ])

pub bit_moved : (word from to : ℕ) → word < 2 ^ 32 → to < 32 → bit_or (bit_and word (bit_not w32 (1 * 2 ^ to % 2 ^ 32))) (bit_and (word / 2 ^ from) 1 * 2 ^ to % 2 ^ 32) ≡ with_bit_copied from to word
bit_moved word from to fits within =
    let kept = bit_and word (bit_not w32 (1 * 2 ^ to % 2 ^ 32)) in
    ap (λ b. bit_or kept (b * 2 ^ to % 2 ^ 32)) (shr_and_one word from) ∙ bit_put word to (bit_at word from) fits within (bit_at-lt word from)

pub bit_added : (word k : ℕ) → k < 32 → bit_or word (1 * 2 ^ k % 2 ^ 32) ≡ with_bit word k 1
bit_added word k within =
    let set = bit_or word (1 * 2 ^ k % 2 ^ 32) in
    same_from_bits set (with_bit word k 1) (λ i. elim (cases_eq i k) [
      | inl e ↦ ap (bit_at set) e ∙ bit_at_set_same w32 word k within ∙ sym (bit_at-with_bit_same word k 1 (omega arith)) ∙ ap (bit_at (with_bit word k 1)) (sym e)
      | inr ne ↦ bit_at_set_other w32 word k within i ne ∙ sym (bit_at-with_bit_other word k 1 i (omega arith) ne)
    ])

-- ---- one bit of one word

pub puts_bit : (old new : List ℕ) (block k bit value : ℕ) → block < length old → bit < 2 → new ≡ set old block value → value ≡ with_bit (get_or old block 0) k bit → PutsBit block k bit old new
puts_bit old new block k bit value within lt e is_put =
    let word = ap (λ words. get_or words block 0) e ∙ get_or-set_same old block value 0 within ∙ is_put in
    record {
      as_many = ap length e ∙ length-set old block value;
      put = ap (λ w. bit_at w k) word ∙ bit_at-with_bit_same (get_or old block 0) k bit lt;
      others = λ other ne. ap (λ w. bit_at w other) word ∙ bit_at-with_bit_other (get_or old block 0) k bit other lt ne;
      elsewhere = λ other ne. ap (λ words. get_or words other 0) e ∙ get_or-set_other old block other value 0 ne;
    }

-- ---- one bit of each word

word_of_map : (f : ℕ → ℕ) (old : List ℕ) (block : ℕ) → f 0 ≡ 0 → get_or (map f old) block 0 ≡ f (get_or old block 0)
word_of_map f old block none =
    elim (cases_lt block (length old)) [
      | inl within ↦ get_or-map f old block 0 0 within
      | inr past ↦
          let mapped_len = length-map old f in
          get_or_past (map f old) block 0 (omega arith) ∙ sym (ap f (get_or_past old block 0 past) ∙ none)
    ]

-- no bit of 0 is set, so none is set after a copy or without one
copied_of_zero : (from to : ℕ) → with_bit_copied from to 0 ≡ 0
copied_of_zero from to = ap (λ b. 0 - bit_at 0 to * 2 ^ to + b * 2 ^ to) (bit_at-zero from) ∙ omega arith

cleared_of_zero : (k : ℕ) → with_bit_cleared k 0 ≡ 0
cleared_of_zero k = omega arith

pub copies_bit : (from to : ℕ) (old new : List ℕ) → new ≡ map (with_bit_copied from to) old → CopiesBit from to old new
copies_bit from to old new e =
    let word : (block : ℕ) → get_or new block 0 ≡ with_bit_copied from to (get_or old block 0) =
    λ block. ap (λ ws. get_or ws block 0) e ∙ word_of_map (with_bit_copied from to) old block (copied_of_zero from to) in
    record {
      as_many = ap length e ∙ length-map old (with_bit_copied from to);
      copied = λ block. ap (λ w. bit_at w to) (word block) ∙ bit_at-with_bit_same (get_or old block 0) to (bit_at (get_or old block 0) from) (bit_at-lt (get_or old block 0) from);
      others = λ block k ne. ap (λ w. bit_at w k) (word block) ∙ bit_at-with_bit_other (get_or old block 0) to (bit_at (get_or old block 0) from) k (bit_at-lt (get_or old block 0) from) ne;
    }

pub clears_bit : (k : ℕ) (old new : List ℕ) → new ≡ map (with_bit_cleared k) old → ClearsBit k old new
clears_bit k old new e =
    let word : (block : ℕ) → get_or new block 0 ≡ with_bit_cleared k (get_or old block 0) =
    λ block. ap (λ ws. get_or ws block 0) e ∙ word_of_map (with_bit_cleared k) old block (cleared_of_zero k) in
    record {
      as_many = ap length e ∙ length-map old (with_bit_cleared k);
      cleared = λ block. ap (λ w. bit_at w k) (word block) ∙ bit_at-with_bit_same (get_or old block 0) k 0 (omega arith);
      others = λ block other ne. ap (λ w. bit_at w other) (word block) ∙ bit_at-with_bit_other (get_or old block 0) k 0 other (omega arith) ne;
    }
