-- Sectors as bytes.
use Rattle.std.proofs.Common.{◌≡◌, ◌≢◌, ℕ, zero, suc, ◌+◌, ◌*◌, ◌/◌, ◌<◌, ◌≤◌, List, [], ◌++◌, take, length, slice_set, refl, sym, ◌∙◌, ap, append-nil, append_assoc, arith}
use Rattle.std.proofs.lemmas.Slice.{take-put_mid}
use Rattle.std.proofs.lemmas.List.{get_or-set_other}
use borrow.Rule.Slice.PartMut.{put_mid}
use Rattle.sn_device.specs.Sectors.{Contents, sector_at}
use Rattle.sn_ondisk.specs.Blocks.{bytes_at, block_at}

bytes_at-suc : (c : Contents) (at n : ℕ) → bytes_at c at (suc n) ≡ bytes_at c at n ++ sector_at c (at + n)
unfolding bytes_at
bytes_at-suc c at zero = append-nil (sector_at c at) ∙ ap (λ i. sector_at c i) (omega arith)
bytes_at-suc c at (suc n) =
    ap (λ rest. sector_at c at ++ rest) (bytes_at-suc c (at + 1) n)
    ∙ sym (append_assoc (sector_at c at) (bytes_at c (at + 1) n) (sector_at c (at + 1 + n)))
    ∙ ap (λ i. (sector_at c at ++ bytes_at c (at + 1) n) ++ sector_at c i) (omega arith)

pub bytes_at-push : (c : Contents) (at n : ℕ) → bytes_at c at (n + 1) ≡ bytes_at c at n ++ sector_at c (at + n)
bytes_at-push c at n = ap (λ m. bytes_at c at m) (omega arith) ∙ bytes_at-suc c at n

pub bytes_at-none : (c : Contents) (at : ℕ) → [] ≡ bytes_at c at 0
unfolding bytes_at
bytes_at-none c at = refl

-- the bytes are those of the sectors in the stretch alone
pub bytes_at-same : (c d : Contents) (at n : ℕ) → ((i : ℕ) → at ≤ i → i < at + n → sector_at d i ≡ sector_at c i) → bytes_at d at n ≡ bytes_at c at n
unfolding bytes_at
bytes_at-same c d at zero same = refl
bytes_at-same c d at (suc n) same =
    ap (λ s. s ++ bytes_at d (at + 1) n) (same at (omega arith) (omega arith))
    ∙ ap (λ rest. sector_at c at ++ rest) (bytes_at-same c d (at + 1) n (λ i from to. same i (omega (arith, from)) (omega (arith, to))))

-- one sector more is in place
pub take-read : (c : Contents) (number i k : ℕ) (block sector : List ℕ) → 512 * i ≤ length block → length sector ≡ 512 → sector ≡ sector_at c (8 * number + i) → take (512 * i) block ≡ bytes_at c (8 * number) i
    → take (512 * (i + 1)) (put_mid (512 * i) k block sector) ≡ bytes_at c (8 * number) (i + 1)
take-read c number i k block sector fits size is before =
    take-put_mid (512 * i) k block sector (512 * (i + 1)) (omega arith) fits ∙ ap (λ bytes. bytes ++ sector) before ∙ ap (λ s. bytes_at c (8 * number) i ++ s) is ∙ sym (bytes_at-push c (8 * number) i)

-- a write outside a block leaves it
pub block_at-set_other : (c : Contents) (at number : ℕ) (bytes : List ℕ) → number ≢ at / 8 → block_at (slice_set c at bytes) number ≡ block_at c number
block_at-set_other c at number bytes other =
    bytes_at-same c (slice_set c at bytes) (8 * number) 8 (λ i from to. get_or-set_other c at i bytes [] (λ same. other (omega (arith, from, to, same))))
