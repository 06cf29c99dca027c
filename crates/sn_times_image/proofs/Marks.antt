-- What a point or a record changes, as it is taken into a message.
use Rattle.std.proofs.Common.{◌≡◌, ℕ, ◌*◌, ◌/◌, ◌<◌, List, ◌++◌, ◌∙◌, ap, append_assoc, arith, length}
use Rattle.sn_device.specs.Sectors.{Contents, sector_at}
use Rattle.sn_layout.specs.Geometry.{IsDiskSize, start_of}
use Rattle.sn_layout.specs.declared.geometry.Area.TheVariants.{Log}
use Rattle.sn_layout.specs.declared.geometry.LogHalf.{LogHalf}
use Rattle.sn_layout.specs.declared.geometry.LogHalf.TheVariants.{Zero, One}
use Rattle.sn_ondisk.specs.Blocks.{bytes_at, block_at}
use Rattle.sn_ondisk.proofs.BlockLemmas.{bytes_at-more}
use Rattle.sn_times_image.specs.Identity.{marks_of}

-- the first gate of a half is on the disk
pub gate_within : (n sectors : ℕ) (half : LogHalf) → n ≡ sectors / 8 → IsDiskSize (sectors / 8) → 8 * start_of n (Log half) < sectors
gate_within n sectors Zero is size = let least = size.least in omega arith
gate_within n sectors One is size = let least = size.least in omega arith

-- the blocks of the roots and their gates follow one another
roots_follow : (c : Contents) → bytes_at c 8 24 ≡ block_at c 1 ++ block_at c 2 ++ block_at c 3
roots_follow c = bytes_at-more c 8 16 8 ∙ ap (λ (front : List ℕ). front ++ bytes_at c 24 8) (bytes_at-more c 8 8 8)

-- the same bytes, taken one after the other
rejoined : (message roots even odd : List ℕ) → ((message ++ roots) ++ even) ++ odd ≡ message ++ ((roots ++ even) ++ odd)
rejoined message roots even odd =
    ap (λ (front : List ℕ). front ++ odd) (append_assoc message roots even) ∙ append_assoc message (roots ++ even) odd

joined : (c : Contents) (n : ℕ) (message : List ℕ) → n ≡ length c / 8
    → ((message ++ bytes_at c 8 24) ++ sector_at c (8 * start_of n (Log Zero))) ++ sector_at c (8 * start_of n (Log One)) ≡ message ++ marks_of c
joined c n message size =
    rejoined message (bytes_at c 8 24) (sector_at c (8 * start_of n (Log Zero))) (sector_at c (8 * start_of n (Log One)))
    ∙ ap (λ (roots : List ℕ). message ++ ((roots ++ sector_at c (8 * start_of n (Log Zero))) ++ sector_at c (8 * start_of n (Log One)))) (roots_follow c)
    ∙ ap (λ (blocks : ℕ). message ++ (((block_at c 1 ++ block_at c 2 ++ block_at c 3) ++ sector_at c (8 * start_of blocks (Log Zero))) ++ sector_at c (8 * start_of blocks (Log One)))) size

-- the message after all sectors were taken, where no read changed the disk
pub marks_taken : (c d e : Contents) (n roots even odd : ℕ) (message : List ℕ) → n ≡ length c / 8
    → roots ≡ 8 → d ≡ c → even ≡ 8 * start_of n (Log Zero) → e ≡ c → odd ≡ 8 * start_of n (Log One)
    → ((message ++ bytes_at c roots 24) ++ sector_at d even) ++ sector_at e odd ≡ message ++ marks_of c
marks_taken c d e n roots even odd message size roots_is d_is even_is e_is odd_is =
    ap (λ (at : ℕ). ((message ++ bytes_at c at 24) ++ sector_at d even) ++ sector_at e odd) roots_is
    ∙ ap (λ (disk : Contents). ((message ++ bytes_at c 8 24) ++ sector_at disk even) ++ sector_at e odd) d_is
    ∙ ap (λ (at : ℕ). ((message ++ bytes_at c 8 24) ++ sector_at c at) ++ sector_at e odd) even_is
    ∙ ap (λ (disk : Contents). ((message ++ bytes_at c 8 24) ++ sector_at c (8 * start_of n (Log Zero))) ++ sector_at disk odd) e_is
    ∙ ap (λ (at : ℕ). ((message ++ bytes_at c 8 24) ++ sector_at c (8 * start_of n (Log Zero))) ++ sector_at c at) odd_is
    ∙ joined c n message size
