-- Bytes of sectors that are the same, and numbers in bytes.
use Rattle.std.proofs.Common.{◌≡◌, ◌↔◌, ◌==◌, Bool, true, false, if◌then◌else◌, ℕ, zero, suc, ◌+◌, ◌*◌, ◌≤◌, ◌<◌, ◌≤◌, List, [], ◌∷◌, ◌++◌, length, drop, refl, ◌∙◌, ap, arith, sym, append_assoc, length-append}
use Rattle.std.proofs.lemmas.Bool.{eqb-true, eq-eqb}
use Rattle.std.proofs.lemmas.List.{drop_at}
use Rattle.byteorder.specs.Numbers.{length-bytes_low_first, little_number-reads_back}
use Rattle.sn_device.specs.Sectors.{Contents, AreSectors, sector_at}
use Rattle.sn_layout.specs.Bytes.{AreNumbers, number_bytes, numbers_bytes}
use Rattle.sn_layout.specs.Gate.{gate_of}
use Rattle.sn_layout.specs.declared.gate.Gate.TheVariants.{Open, Closed}
use Rattle.sn_ondisk.specs.Gates.{gate_at, IsOpen}
use Rattle.sn_ondisk.specs.Blocks.{bytes_at, numbers_in}

-- the two contents have the same sectors from one up to another
abbrev pub AreSame : Contents → Contents → ℕ → ℕ → Type 0
AreSame c d from to = (i : ℕ) → from ≤ i → i < to → sector_at d i ≡ sector_at c i

pub bytes_at-same : (c d : Contents) (at n : ℕ) → AreSame c d at (at + n) → bytes_at d at n ≡ bytes_at c at n
unfolding bytes_at
bytes_at-same c d at zero same = refl
bytes_at-same c d at (suc n) same =
    ap (λ s. s ++ bytes_at d (at + 1) n) (same at (omega arith) (omega arith))
    ∙ ap (λ rest. sector_at c at ++ rest) (bytes_at-same c d (at + 1) n (λ i from to. same i (omega (arith, from)) (omega (arith, to))))

-- the bytes of some sectors, and of those after them
pub bytes_at-more : (c : Contents) (at n m : ℕ) → bytes_at c at (n + m) ≡ bytes_at c at n ++ bytes_at c (at + n) m
unfolding bytes_at
bytes_at-more c at zero m = ap (λ k. bytes_at c at k) (omega arith) ∙ ap (λ k. bytes_at c k m) (omega arith)
bytes_at-more c at (suc n) m =
    let one_more : suc n + m ≡ suc (n + m) = omega arith in
    let behind : at + 1 + n ≡ at + suc n = omega arith in
    ap (λ k. bytes_at c at k) one_more
    ∙ ap (λ rest. sector_at c at ++ rest) (bytes_at-more c (at + 1) n m ∙ ap (λ k. bytes_at c (at + 1) n ++ bytes_at c k m) behind)
    ∙ sym (append_assoc (sector_at c at) (bytes_at c (at + 1) n) (bytes_at c (at + suc n) m))

pub length-bytes_at : (c : Contents) (at n : ℕ) → AreSectors c → at + n ≤ length c → length (bytes_at c at n) ≡ 512 * n
unfolding bytes_at
length-bytes_at c at zero whole within = omega arith
length-bytes_at c at (suc n) whole within =
    let rest : length (bytes_at c (at + 1) n) ≡ 512 * n = length-bytes_at c (at + 1) n whole (omega (arith, within)) in
    omega (arith, length-append (sector_at c at) (bytes_at c (at + 1) n), (whole at (omega (arith, within))).size, rest)

pub length-numbers_in : (n : ℕ) (bytes : List ℕ) → length (numbers_in n bytes) ≡ n
unfolding numbers_in
length-numbers_in zero bytes = refl
length-numbers_in (suc n) bytes = omega (arith, length-numbers_in n (drop 4 bytes))

-- numbers are read back from their spelling
pub numbers_in-numbers_bytes : (xs : List ℕ) → AreNumbers 4 xs → numbers_in (length xs) (numbers_bytes 4 xs) ≡ xs
unfolding numbers_in number_bytes
numbers_in-numbers_bytes [] fits = refl
numbers_in-numbers_bytes (x ∷ xs) fits =
    let rest = numbers_bytes 4 xs in
    ap (λ n. n ∷ numbers_in (length xs) (drop 4 (number_bytes 4 x ++ rest))) (little_number-reads_back 4 x rest fits.0)
    ∙ ap (λ bytes. x ∷ numbers_in (length xs) bytes) (drop_at (number_bytes 4 x) rest 4 (length-bytes_low_first 0 4 x))
    ∙ ap (λ ns. x ∷ ns) (numbers_in-numbers_bytes xs fits.1)

-- an open gate is read as one
pub gate_read : (c : Contents) (at : ℕ) → IsOpen c at ↔ (gate_of (sector_at c at) ≡ Open)
gate_read c at = (
  λ opened. ap (λ (b : Bool). if b then Open else Closed) (eq-eqb (gate_at c at) 1 opened),
  λ read. eqb-true (gate_at c at) 1 (is_true (gate_at c at == 1) read),
)
  where
    is_true : (b : Bool) → (if b then Open else Closed) ≡ Open → b ≡ true
    is_true true read = refl
    is_true false read = absurd cc
