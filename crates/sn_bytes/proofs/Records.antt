-- A record of numbers that was read is the one that is spelled.
use Rattle.std.proofs.Common.{◌≡◌, ℕ, zero, suc, ◌+◌, ◌*◌, ◌^◌, ◌<◌, List, [], ◌∷◌, ◌++◌, replicate, refl, ap, ◌∙◌, arith}
use Rattle.std.specs.Int.{bytes_low_first}
use Rattle.std.proofs.Math.Nat.{zero-div, mod-eq_of_lt}
use Rattle.std.proofs.lemmas.List.{replicate-append-replicate}
use Rattle.sn_bytes.specs.Bytes.{number_bytes, numbers_bytes, zeros}
use Rattle.sn_bytes.specs.Records.{numbers_then, AreOfWidths}
use Rattle.sn_bytes.proofs.Fields.{same_numbers}

-- Whatever was read by these widths, no other numbers of them are spelled there, and what is left follows them.
pub same_records : (widths numbers others left rest : List ℕ) → AreOfWidths widths numbers → AreOfWidths widths others
    → numbers_then widths numbers left ≡ numbers_then widths others rest → (numbers ≡ others) × (left ≡ rest)
same_records [] [] [] left rest fits fits-others e = (refl, e)
same_records [] [] (y ∷ ys) left rest fits fits-others e = absurd fits-others
same_records [] (x ∷ xs) others left rest fits fits-others e = absurd fits
same_records (width ∷ widths) [] others left rest fits fits-others e = absurd fits
same_records (width ∷ widths) (x ∷ xs) [] left rest fits fits-others e = absurd fits-others
same_records (width ∷ widths) (x ∷ xs) (y ∷ ys) left rest fits fits-others e =
    let first = same_numbers width x y (numbers_then widths xs left) (numbers_then widths ys rest) fits.0 fits-others.0 e in
    let others = same_records widths xs ys left rest fits.1 fits-others.1 first.1 in
    (rw (first.0, others.0) refl, others.1)

-- a number of one byte
pub byte_number : (x : ℕ) (rest : List ℕ) → x < 256 → number_bytes 1 x ++ rest ≡ x ∷ rest
unfolding number_bytes
byte_number x rest fits = ap (λ (b : ℕ). b ∷ rest) (mod-eq_of_lt fits)

zero_bytes : (i n : ℕ) → bytes_low_first i n 0 ≡ replicate n 0
zero_bytes i zero = refl
zero_bytes zero (suc n) = ap (λ (bytes : List ℕ). 0 ∷ bytes) (zero_bytes 1 n)
zero_bytes (suc i) (suc n) = rw (zero-div (256 ^ suc i), zero_bytes (suc (suc i)) n) refl

-- bytes that have to be 0 are a number that has to be
pub zero_number : (n : ℕ) → number_bytes n 0 ≡ zeros n
unfolding number_bytes zeros
zero_number n = zero_bytes 0 n

-- so are many of them
pub zero_numbers : (n m : ℕ) → numbers_bytes n (replicate m 0) ≡ zeros (n * m)
unfolding zeros
zero_numbers n zero = let none : 0 ≡ n * 0 = omega arith in ap zeros none
zero_numbers n (suc m) =
    let count : n + n * m ≡ n * suc m = omega arith in
    ap (λ (front : List ℕ). front ++ numbers_bytes n (replicate m 0)) (zero_number n) ∙ ap (λ (r : List ℕ). zeros n ++ r) (zero_numbers n m) ∙ replicate-append-replicate n (n * m) 0 ∙ ap zeros count
