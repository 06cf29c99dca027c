-- Bytes that are tested sixteen at a time: from the mask of those that no name has to the test of each.
use Rattle.std.proofs.Common.{◌≡◌, ◌≢◌, ℕ, ◌+◌, ◌-◌, ◌%◌, ◌^◌, ◌<◌, ◌≤◌, leb, Bool, true, false, cond, not, ◌&&◌, List, [], ◌∷◌, map, length, take, drop, replicate, Fits, w8, refl, sym, ap, ap₂, ◌∙◌, arith, zero, suc, ◌*◌, true≢false, take-take}
use lib.Count.{count_trailing_zeros}
use Rattle.std.specs.List.{list_all, prefix_len}
use Rattle.std.specs.Simd.Lanes.{mask_l, zip2, top, Each1}
use Rattle.std.proofs.Math.Seq.{take-add}
use Rattle.std.proofs.lemmas.Bool.{agree_below, agree_below_at, leb-true, leb-false, le-leb, lt-leb}
use Rattle.std.proofs.lemmas.List.{length-map, length-take-le}
use Rattle.std.proofs.lemmas.List.Folds.{list_all-append}
use Rattle.std.proofs.lemmas.Simd.{mask_l-mod, leading_from_mask_l, trailing_mask_l}
use Rattle.sn_limits.specs.Names.{is_name_byte, is_other_byte}

-- ---- one mask

zip2-map : (h : ℕ → ℕ → ℕ) (f g : ℕ → ℕ) (xs : List ℕ) → zip2 h (map f xs) (map g xs) ≡ map (λ x. h (f x) (g x)) xs
zip2-map h f g [] = refl
zip2-map h f g (x ∷ xs) = ap (λ r. h (f x) (g x) ∷ r) (zip2-map h f g xs)

-- an operation on two vectors that are both functions of v, lane by lane
pub joined : (h : ℕ → ℕ → ℕ) (f g : ℕ → ℕ) (v : List ℕ) {a b : List ℕ} → a ≡ map f v → b ≡ map g v → zip2 h a b ≡ map (λ x. h (f x) (g x)) v
joined h f g v p q = ap₂ (zip2 h) p q ∙ zip2-map h f g v

pub same_everywhere : (v : List ℕ) (n y : ℕ) → length v ≡ n → replicate n y ≡ map (λ _. y) v
same_everywhere [] n y e = ap (λ k. replicate k y) (sym e)
same_everywhere (x ∷ xs) n y e = ap (λ k. replicate k y) (sym e) ∙ ap (λ r. y ∷ r) (same_everywhere xs (length xs) y refl)

tops : (f : ℕ → ℕ) → agree_below (λ x. top 7 (f x)) is_other_byte 256 ≡ true → (v : List ℕ) → Each1 (Fits w8) v → map (top 7) (map f v) ≡ map is_other_byte v
tops f all [] fits = refl
tops f all (x ∷ xs) fits = ap₂ (λ a b. a ∷ b) (agree_below_at (λ y. top 7 (f y)) is_other_byte 256 x all fits.0.fits) (tops f all xs fits.1)

-- the mask of lanes whose highest bit marks the other bytes
pub others_mask : (f : ℕ → ℕ) (v z : List ℕ) → length v ≤ 64 → Each1 (Fits w8) v → z ≡ map f v → agree_below (λ x. top 7 (f x)) is_other_byte 256 ≡ true
    → mask_l (map (top 7) z) % 2 ^ 64 ≡ mask_l (map is_other_byte v)
others_mask f v z short fits e all =
    ap (λ l. mask_l l % 2 ^ 64) (ap (map (top 7)) e ∙ tops f all v fits) ∙ mask_l-mod (map is_other_byte v) 64 (omega (arith, length-map v is_other_byte))

-- ---- from a mask to its bytes

abbrev pub run : List ℕ → ℕ
run xs = prefix_len (λ x. not (is_other_byte x)) xs

step : (b all : Bool) (n k : ℕ) → all ≡ leb n k → (b && all) ≡ leb (suc n) (cond (not (not b)) (1 + k) 0)
step true true n k e = sym (le-leb (suc n) (1 + k) (omega (arith, leb-true n k (sym e))))
step true false n k e = sym (lt-leb (suc n) (1 + k) (omega (arith, leb-false n k (sym e))))
step false all n k e = sym (lt-leb (suc n) 0 (omega arith))

-- so many bytes at the front are all bytes of a name where the run of such bytes is as long
pub all_in_run : (xs : List ℕ) (n : ℕ) → n ≤ length xs → list_all is_name_byte (take n xs) ≡ leb n (run xs)
all_in_run xs zero le = sym (le-leb 0 (run xs) (omega arith))
all_in_run [] (suc n) le = absurd (omega arith)
all_in_run (x ∷ xs) (suc n) le = step (is_name_byte x) (list_all is_name_byte (take n xs)) n (run xs) (all_in_run xs n (omega arith))

-- the first few of sixteen bytes, by the run among the sixteen
few_in_run : (bytes : List ℕ) (n : ℕ) → n ≤ 16 → 16 ≤ length bytes → list_all is_name_byte (take n bytes) ≡ leb n (run (take 16 bytes))
few_in_run bytes n few room =
    ap (list_all is_name_byte) (sym (take-take n 16 bytes few)) ∙ all_in_run (take 16 bytes) n (omega (arith, length-take-le 16 bytes room))

pub few_of_none : (bytes : List ℕ) (n mask : ℕ) → n ≤ 16 → 16 ≤ length bytes → mask ≡ mask_l (map is_other_byte (take 16 bytes)) → mask ≡ 0
    → list_all is_name_byte (take n bytes) ≡ true
few_of_none bytes n mask few room e none =
    few_in_run bytes n few room ∙ le-leb n (run (take 16 bytes)) (omega (arith, leading_from_mask_l is_other_byte (take 16 bytes) (sym e ∙ none), length-take-le 16 bytes room))

pub few_of_some : (bytes : List ℕ) (n mask : ℕ) → n ≤ 16 → 16 ≤ length bytes → mask ≡ mask_l (map is_other_byte (take 16 bytes)) → mask ≢ 0
    → list_all is_name_byte (take n bytes) ≡ leb n (count_trailing_zeros 64 mask)
few_of_some bytes n mask few room e some =
    few_in_run bytes n few room
    ∙ ap (leb n) (sym (ap (count_trailing_zeros 64) e ∙ trailing_mask_l is_other_byte 64 (take 16 bytes) (omega (arith, length-take-le 16 bytes room)) (omega (arith, e))))

clean_step : (b all : Bool) (mask : ℕ) → (b && all) ≡ true → (all ≡ true → mask ≡ 0) → cond (not b) 1 0 + 2 * mask ≡ 0
clean_step true all mask e more = omega (arith, more e)
clean_step false all mask e more = absurd (true≢false (sym e))

clean : (xs : List ℕ) → list_all is_name_byte xs ≡ true → mask_l (map is_other_byte xs) ≡ 0
clean [] e = refl
clean (x ∷ xs) e = clean_step (is_name_byte x) (list_all is_name_byte xs) (mask_l (map is_other_byte xs)) e (clean xs)

-- sixteen bytes with another among them
dirty : (b : Bool) → (b ≡ true → ⊥) → b ≡ false
dirty true h = absurd (h refl)
dirty false h = refl

-- ---- sixteen bytes further

split_16 : (rest : List ℕ) (left : ℕ) → 16 < left → list_all is_name_byte (take left rest) ≡ (list_all is_name_byte (take 16 rest) && list_all is_name_byte (take (left - 16) (drop 16 rest)))
split_16 rest left more =
    let whole : 16 + (left - 16) ≡ left = omega arith in
    ap (λ n. list_all is_name_byte (take n rest)) (sym whole)
    ∙ ap (list_all is_name_byte) (take-add 16 (left - 16) rest)
    ∙ list_all-append is_name_byte (take 16 rest) (take (left - 16) (drop 16 rest))

pub all_further : (rest : List ℕ) (left mask : ℕ) → 16 < left → left ≤ length rest → mask ≡ mask_l (map is_other_byte (take 16 rest)) → mask ≡ 0
    → list_all is_name_byte (take left rest) ≡ list_all is_name_byte (take (left - 16) (drop 16 rest))
all_further rest left mask more room e none =
    split_16 rest left more
    ∙ ap (λ b. b && list_all is_name_byte (take (left - 16) (drop 16 rest))) (few_of_none rest 16 mask (omega arith) (omega arith) e none)

pub not_all : (rest : List ℕ) (left mask : ℕ) → 16 < left → mask ≡ mask_l (map is_other_byte (take 16 rest)) → mask ≢ 0 → list_all is_name_byte (take left rest) ≡ false
not_all rest left mask more e some =
    split_16 rest left more
    ∙ ap (λ b. b && list_all is_name_byte (take (left - 16) (drop 16 rest))) (dirty (list_all is_name_byte (take 16 rest)) (λ all. some (e ∙ clean (take 16 rest) all)))
