-- Numbers, zeros and lists at the front of bytes.
use Rattle.std.proofs.Common.{◌≡◌, ℕ, zero, suc, ◌+◌, ◌-◌, ◌*◌, ◌^◌, ◌<◌, ◌≤◌, Bool, true, false, Option, Some, None, List, [], ◌∷◌, ◌++◌, length, take, drop, get_or, All, refl, sym, ap, ◌∙◌, append_assoc, length-append, arith}
use Rattle.std.specs.Int.{w16, w32, w64, from_le_bytes}
use Rattle.std.proofs.lemmas.Nat.{le_bytes_2, le_bytes_4, le_bytes_8}
use Rattle.std.proofs.lemmas.List.{take_at, drop_at, length-replicate, length-take-le, length-drop, drop-drop, drop-append-le, take-append-drop}
use Rattle.std.proofs.lemmas.List.Concat.{flat_map-cons}
use Rattle.byteorder.specs.Endian.{little_number}
use Rattle.byteorder.specs.Numbers.{length-bytes_low_first, little_number-reads_back}
use Rattle.sn_bytes.specs.Bytes.{AreNumbers, number_bytes, numbers_bytes, zeros, Puts}
use borrow.Rule.Slice.PartMut.{put_mid}

abbrev pub IsBytes : List ℕ → Type 0
IsBytes bytes = (i : ℕ) → get_or bytes i 0 < 256

-- ---- answers that exclude one another

pub true_false : {A : Type 0} (b : Bool) → b ≡ true → b ≡ false → A
true_false b is_true is_false = absurd cc

pub some_none : {A B : Type 0} (o : Option A) (x : A) → o ≡ Some x → o ≡ None → B
some_none o x is_some is_none = absurd cc

pub some_some : {A : Type 0} (o : Option A) (x y : A) → o ≡ Some x → o ≡ Some y → x ≡ y
some_some o x y a b = cc

-- ---- numbers

pub length-number_bytes : (n x : ℕ) → length (number_bytes n x) ≡ n
unfolding number_bytes
length-number_bytes n x = length-bytes_low_first 0 n x

-- the bytes of the number that bytes make are those bytes
pub number_bytes-2 : (bytes : List ℕ) (x : ℕ) → length bytes ≡ 2 → IsBytes bytes → x ≡ little_number 2 bytes → number_bytes 2 x ≡ bytes
unfolding number_bytes
number_bytes-2 bytes x len fits e =
    let same : little_number 2 bytes ≡ from_le_bytes w16 bytes = omega arith in
    le_bytes_2 bytes x len fits (e ∙ same)

pub number_bytes-4 : (bytes : List ℕ) (x : ℕ) → length bytes ≡ 4 → IsBytes bytes → x ≡ little_number 4 bytes → number_bytes 4 x ≡ bytes
unfolding number_bytes
number_bytes-4 bytes x len fits e =
    let same : little_number 4 bytes ≡ from_le_bytes w32 bytes = omega arith in
    le_bytes_4 bytes x len fits (e ∙ same)

pub number_bytes-8 : (bytes : List ℕ) (x : ℕ) → length bytes ≡ 8 → IsBytes bytes → x ≡ little_number 8 bytes → number_bytes 8 x ≡ bytes
unfolding number_bytes
number_bytes-8 bytes x len fits e =
    let same : little_number 8 bytes ≡ from_le_bytes w64 bytes = omega arith in
    le_bytes_8 bytes x len fits (e ∙ same)

-- ---- fronts of one length

pub same_cons : (a b : ℕ) (x y : List ℕ) → a ∷ x ≡ b ∷ y → (a ≡ b) × (x ≡ y)
same_cons a b x y e = (cc, cc)

pub same_fronts : (a b x y : List ℕ) → length a ≡ length b → a ++ x ≡ b ++ y → (a ≡ b) × (x ≡ y)
same_fronts a b x y len e = (
  sym (take_at a x (length a) refl) ∙ ap (take (length a)) e ∙ take_at b y (length a) (sym len),
  sym (drop_at a x (length a) refl) ∙ ap (drop (length a)) e ∙ drop_at b y (length a) (sym len),
)

pub same_numbers : (n a b : ℕ) (x y : List ℕ) → a < 256 ^ n → b < 256 ^ n → number_bytes n a ++ x ≡ number_bytes n b ++ y → (a ≡ b) × (x ≡ y)
unfolding number_bytes
same_numbers n a b x y fits-a fits-b e = (
  sym (little_number-reads_back n a x fits-a) ∙ ap (little_number n) e ∙ little_number-reads_back n b y fits-b,
  (same_fronts (number_bytes n a) (number_bytes n b) x y (length-number_bytes n a ∙ sym (length-number_bytes n b)) e).1,
)

-- what was read from the front as a number is the only number that is spelled there
pub number_only : (n x : ℕ) (old new : List ℕ) → x < 256 ^ n → old ≡ number_bytes n x ++ new → (number : ℕ) (rest : List ℕ) → number < 256 ^ n → old ≡ number_bytes n number ++ rest → (x ≡ number) × (new ≡ rest)
number_only n x old new fits e number rest fits-number h = same_numbers n x number new rest fits fits-number (sym e ∙ h)

-- bytes that are fewer than a number's don't begin with one
pub too_few : {A : Type 0} (n x : ℕ) (bytes rest : List ℕ) → length bytes < n → bytes ≡ number_bytes n x ++ rest → A
too_few n x bytes rest few e = absurd (omega (arith, ap length e, length-append (number_bytes n x) rest, length-number_bytes n x))

-- ---- zeros

pub length-zeros : (n : ℕ) → length (zeros n) ≡ n
unfolding zeros
length-zeros n = length-replicate n 0

pub zeros_all : (bytes : List ℕ) → All (λ x. x ≡ 0) bytes → bytes ≡ zeros (length bytes)
unfolding zeros
zeros_all [] h = refl
zeros_all (x ∷ xs) h =
    let first : x ≡ 0 = h 0 0 (omega arith) in
    let others = zeros_all xs (λ i d lt. h (suc i) d (omega arith)) in
    rw first (ap (λ (r : List ℕ). 0 ∷ r) others)

pub all_zeros : (n : ℕ) → All (λ x. x ≡ 0) (zeros n)
unfolding zeros
all_zeros zero i d lt = absurd (omega arith)
all_zeros (suc n) zero d lt = refl
all_zeros (suc n) (suc i) d lt = all_zeros n i d (omega arith)

-- ---- lists of numbers

pub length-numbers_bytes : (n : ℕ) (xs : List ℕ) → length (numbers_bytes n xs) ≡ n * length xs
length-numbers_bytes n [] = omega arith
length-numbers_bytes n (x ∷ xs) =
    let first = length-number_bytes n x in
    let others = length-numbers_bytes n xs in
    let whole = ap length (flat_map-cons (number_bytes n) x xs) ∙ length-append (number_bytes n x) (numbers_bytes n xs) in
    omega (arith, first, others, whole)

pub same_lists : (n : ℕ) (xs ys a b : List ℕ) → length xs ≡ length ys → AreNumbers n xs → AreNumbers n ys → numbers_bytes n xs ++ a ≡ numbers_bytes n ys ++ b → (xs ≡ ys) × (a ≡ b)
same_lists n [] [] a b len fits-x fits-y e = (refl, e)
same_lists n [] (y ∷ ys) a b len fits-x fits-y e = absurd (omega arith)
same_lists n (x ∷ xs) [] a b len fits-x fits-y e = absurd (omega arith)
same_lists n (x ∷ xs) (y ∷ ys) a b len fits-x fits-y e =
    let flat : number_bytes n x ++ (numbers_bytes n xs ++ a) ≡ number_bytes n y ++ (numbers_bytes n ys ++ b) = sym (append_assoc (number_bytes n x) (numbers_bytes n xs) a) ∙ e ∙ append_assoc (number_bytes n y) (numbers_bytes n ys) b in
    let first = same_numbers n x y (numbers_bytes n xs ++ a) (numbers_bytes n ys ++ b) fits-x.0 fits-y.0 flat in
    let others = same_lists n xs ys a b (omega arith) fits-x.1 fits-y.1 first.1 in
    (rw (first.0, others.0) refl, others.1)

pub AreNumbers-from : (n : ℕ) (xs : List ℕ) → ((i : ℕ) → i < length xs → get_or xs i 0 < 256 ^ n) → AreNumbers n xs
AreNumbers-from n [] h = tt
AreNumbers-from n (x ∷ xs) h = (h 0 (omega arith), AreNumbers-from n xs (λ i lt. h (suc i) (omega arith)))

-- ---- writing

-- where two lists agree from an offset on, they agree from each later one on
pub behind : (a b : List ℕ) (next n : ℕ) → next ≤ n → drop next a ≡ drop next b → drop n a ≡ drop n b
behind a b next n le e =
    let same : next + (n - next) ≡ n = omega arith in
    ap (λ (k : ℕ). drop k a) (sym same) ∙ sym (drop-drop (n - next) next a) ∙ ap (drop (n - next)) e ∙ drop-drop (n - next) next b ∙ ap (λ (k : ℕ). drop k b) same

-- what was put at the front of a part of a block that begins at an offset
pub puts_part : (block bytes buf : List ℕ) (at k m next : ℕ) → at + k ≤ length block → m ≤ k → length bytes ≡ m → next ≡ at + m → buf ≡ bytes ++ drop m (take k (drop at block)) → Puts block (put_mid at k block buf) at next bytes
puts_part block bytes buf at k m next within fits len moved e =
    let part = take k (drop at block) in
    let after = drop k (drop at block) in
    let more = drop m part in
    let flat : take at block ++ ((bytes ++ more) ++ after) ≡ (take at block ++ bytes) ++ (more ++ after) = ap (λ (r : List ℕ). take at block ++ r) (append_assoc bytes more after) ∙ sym (append_assoc (take at block) bytes (more ++ after)) in
    let long : length (take at block ++ bytes) ≡ next = omega (arith, length-append (take at block) bytes, length-take-le at block (omega arith)) in
    let count : length part ≡ k = length-take-le k (drop at block) (omega (arith, length-drop at block)) in
    let old : drop next block ≡ more ++ after =
    ap (λ (n : ℕ). drop n block) moved ∙ sym (drop-drop m at block) ∙ ap (drop m) (sym (take-append-drop k (drop at block))) ∙ drop-append-le m part after (omega (arith, count)) in
    let new : drop next (take at block ++ ((bytes ++ more) ++ after)) ≡ more ++ after = ap (drop next) flat ∙ drop_at (take at block ++ bytes) (more ++ after) next long in
    record {
      front = rw e (ap (take next) flat ∙ take_at (take at block ++ bytes) (more ++ after) next long);
      moved = omega arith;
      back = λ n le. rw e (behind (take at block ++ ((bytes ++ more) ++ after)) block next n le (new ∙ sym old));
    }

-- bytes that were put, and others after them
pub puts_then : (a b c xs ys : List ℕ) (at next end : ℕ) → Puts a b at next xs → Puts b c next end ys → Puts a c at end (xs ++ ys)
puts_then a b c xs ys at next end first second = record {
  front = second.front ∙ ap (λ (r : List ℕ). r ++ ys) first.front ∙ append_assoc (take at a) xs ys;
  moved = omega (arith, first.moved, second.moved, length-append xs ys);
  back = λ n le. second.back n le ∙ first.back n (omega (arith, second.moved));
}
