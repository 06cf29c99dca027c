-- Sectors within blocks, and stretches of sectors that are read.
use Rattle.std.proofs.Common.{◌≡◌, ℕ, suc, ◌+◌, ◌-◌, ◌*◌, ◌/◌, ◌%◌, ◌<◌, ◌≤◌, List, ◌++◌, length, take, drop, sym, ◌∙◌, ap, arith}
use Rattle.std.proofs.lemmas.List.{take_at, drop_at}
use Rattle.std.proofs.lemmas.Slice.{take-put_mid}
use borrow.Rule.Slice.PartMut.{put_mid}
use Rattle.sn_device.specs.Sectors.{Contents, AreSectors, sector_at}
use Rattle.sn_ondisk.specs.Blocks.{bytes_at, block_at}
use Rattle.sn_ondisk.proofs.BlockLemmas.{bytes_at-more, length-bytes_at}
use Rattle.sn_block.proofs.BlockLemmas.{bytes_at-push}

-- the front of a stretch of sectors is its first
pub first-sector : (c : Contents) (at n : ℕ) → length (sector_at c at) ≡ 512 → take 512 (bytes_at c at (suc n)) ≡ sector_at c at
unfolding bytes_at
first-sector c at n long = take_at (sector_at c at) (bytes_at c (at + 1) n) 512 long

-- one sector of a stretch
pub one-sector : (c : Contents) (at n k : ℕ) → AreSectors c → at + n ≤ length c → k < n → take 512 (drop (512 * k) (bytes_at c at n)) ≡ sector_at c (at + k)
one-sector c at n k whole within before =
    let split : n ≡ k + suc (n - k - 1) = omega (arith, before) in
    ap (λ m. take 512 (drop (512 * k) (bytes_at c at m))) split
    ∙ ap (λ bytes. take 512 (drop (512 * k) bytes)) (bytes_at-more c at k (suc (n - k - 1)))
    ∙ ap (take 512) (drop_at (bytes_at c at k) (bytes_at c (at + k) (suc (n - k - 1))) (512 * k) (length-bytes_at c at k whole (omega (arith, within, before))))
    ∙ first-sector c (at + k) (n - k - 1) (whole (at + k) (omega (arith, within, before))).size

-- the sector at a place of a half, as a part of its block
pub part-of-block : (c : Contents) (start place n : ℕ) (block sector : List ℕ) → AreSectors c → 8 * start + 256 ≤ length c → place ≤ 255 → block ≡ block_at c (start + place / 8) → n ≡ 512
    → sector ≡ take n (drop (512 * (place % 8)) block) → sector ≡ sector_at c (8 * start + place)
part-of-block c start place n block sector whole within near is size part =
    part
    ∙ ap (λ m. take m (drop (512 * (place % 8)) block)) size
    ∙ ap (λ bytes. take 512 (drop (512 * (place % 8)) bytes)) is
    ∙ one-sector c (8 * (start + place / 8)) 8 (place % 8) whole (omega (arith, within, near)) (omega arith)
    ∙ ap (sector_at c) (omega arith)

-- one sector more is in place
pub take-read : (c : Contents) (at i k : ℕ) (room sector : List ℕ) → 512 * i ≤ length room → length sector ≡ 512 → sector ≡ sector_at c (at + i) → take (512 * i) room ≡ bytes_at c at i
    → take (512 * (i + 1)) (put_mid (512 * i) k room sector) ≡ bytes_at c at (i + 1)
take-read c at i k room sector fits size is before =
    take-put_mid (512 * i) k room sector (512 * (i + 1)) (omega arith) fits ∙ ap (λ bytes. bytes ++ sector) before ∙ ap (λ s. bytes_at c at i ++ s) is ∙ sym (bytes_at-push c at i)
