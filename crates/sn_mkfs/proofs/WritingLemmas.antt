-- What formatting leaves on the disk.
use Rattle.std.proofs.Common.{◌≡◌, ◌⊎◌, inl, inr, ⊎_elim, ℕ, zero, suc, ◌+◌, ◌-◌, ◌*◌, ◌/◌, ◌%◌, ◌<◌, ◌≤◌, List, ◌∷◌, ◌++◌, length, replicate, take, drop, sym, ap, ◌∙◌, arith, append_assoc, length-append}
use Rattle.std.specs.Prelude.{slice_index, slice_set}
use Rattle.std.proofs.lemmas.Grind.{flat_map-append}
use Rattle.std.proofs.lemmas.List.{append-nil, drop-replicate, drop_at, length-replicate, replicate-append-replicate, set_split, take-replicate, take_at}
use Rattle.sn_device.specs.Sectors.{Contents, AreSectors, AgreesOutside, Stretch, sector_at}
use Rattle.sn_layout.specs.Bytes.{AreNumbers, number_bytes, numbers_bytes, zeros}
use Rattle.sn_layout.specs.MapCopy.{map_block_bytes}
use Rattle.sn_layout.specs.Geometry.{IsDiskSize, half_of_epoch, map_blocks, start_of}
use Rattle.sn_layout.specs.Superblock.{superblock_bytes}
use Rattle.sn_layout.specs.declared.geometry.Area.TheVariants.{Data, Log}
use Rattle.sn_layout.specs.declared.geometry.LogHalf.{LogHalf}
use Rattle.sn_layout.specs.declared.geometry.LogHalf.TheVariants.{Zero, One}
use Rattle.sn_layout.specs.declared.geometry.Slot.TheVariants.{A}
use Rattle.sn_layout.proofs.Records.{zero_numbers}
use Rattle.sn_ondisk.specs.Blocks.{bytes_at}
use Rattle.sn_ondisk.specs.Gates.{IsClosed, gate_at}
use Rattle.sn_ondisk.specs.MapCopy.{HasMap}
use Rattle.sn_ondisk.proofs.BlockLemmas.{bytes_at-more, bytes_at-same, length-bytes_at}
use Rattle.sn_root.specs.Replacing.{InReplacing}
use Rattle.sn_mkfs.specs.Writing.{marked_block, marked_bytes}
use Rattle.sn_mkfs.specs.Fresh.{IsLaidOut, IsPrepared, fresh_words, inode_block}

-- ---- one word among zeros

abbrev marked : ℕ → ℕ → List ℕ
marked a b = replicate a 0 ++ 1 ∷ replicate b 0

marked_all : (a b : ℕ) → AreNumbers 4 (marked a b)
marked_all zero b = (omega arith, none b)
  where
    none : (k : ℕ) → AreNumbers 4 (replicate k 0)
    none zero = tt
    none (suc k) = (omega arith, none k)
marked_all (suc a) b = (omega arith, marked_all a b)

-- zeros after it, and zeros in front
marked_more : (a b k : ℕ) → marked a b ++ replicate k 0 ≡ marked a (b + k)
marked_more a b k = append_assoc (replicate a 0) (1 ∷ replicate b 0) (replicate k 0) ∙ ap (λ (zs : List ℕ). replicate a 0 ++ 1 ∷ zs) (replicate-append-replicate b k 0)

more_marked : (k a b : ℕ) → replicate k 0 ++ marked a b ≡ marked (k + a) b
more_marked k a b = sym (append_assoc (replicate k 0) (replicate a 0) (1 ∷ replicate b 0)) ∙ ap (λ (zs : List ℕ). zs ++ 1 ∷ replicate b 0) (replicate-append-replicate k a 0)

marked_set : (r : ℕ) → r < 1024 → slice_set (replicate 1024 0) r 1 ≡ marked r (1023 - r)
marked_set r low =
    let left : 1024 - suc r ≡ 1023 - r = omega (arith, low) in
    set_split (replicate 1024 0) r 1 (omega (arith, low, length-replicate {A = ℕ} 1024 0))
    ∙ ap (λ (front : List ℕ). front ++ 1 ∷ drop (suc r) (replicate 1024 0)) (take-replicate r 1024 0 (omega (arith, low)))
    ∙ ap (λ (back : List ℕ). replicate r 0 ++ 1 ∷ back) (drop-replicate (suc r) 1024 0 ∙ ap (λ (k : ℕ). replicate k 0) left)

length-marked : (a b : ℕ) → length (marked a b) ≡ a + 1 + b
length-marked a b = omega (arith, length-append {A = ℕ} (replicate a 0) (1 ∷ replicate b 0), length-replicate {A = ℕ} a 0, length-replicate {A = ℕ} b 0)

-- the spelling of a block with one word
marked_spelled : (r : ℕ) → r < 1024 → map_block_bytes (slice_set (replicate 1024 0) r 1) ≡ numbers_bytes 4 (marked r (1023 - r))
unfolding zeros
marked_spelled r low =
    let none : 4096 - 4 * length (marked r (1023 - r)) ≡ 0 = omega (arith, low, length-marked r (1023 - r)) in
    ap map_block_bytes (marked_set r low)
    ∙ ap (λ (k : ℕ). numbers_bytes 4 (marked r (1023 - r)) ++ zeros k) none
    ∙ append-nil (numbers_bytes 4 (marked r (1023 - r)))

zero_words : (k : ℕ) → replicate (512 * (8 * k)) 0 ≡ numbers_bytes 4 (replicate (1024 * k) 0)
unfolding zeros
zero_words k =
    let count : 512 * (8 * k) ≡ 4 * (1024 * k) = omega arith in
    ap (λ (m : ℕ). replicate m 0) count ∙ sym (zero_numbers 4 (1024 * k))

-- ---- zeros on a disk

module _ (c : Contents) (total : ℕ) (whole : AreSectors c) (long : total ≤ length c) (blank : bytes_at c 0 total ≡ replicate (512 * total) 0) where
  blank_part : (at k : ℕ) → at + k ≤ total → bytes_at c at k ≡ replicate (512 * k) 0
  blank_part at k within =
      let rest = total - (at + k) in
      let count : total ≡ at + (k + rest) = omega (arith, within) in
      let first : bytes_at c 0 total ≡ bytes_at c 0 at ++ bytes_at c at (k + rest) = ap (bytes_at c 0) count ∙ bytes_at-more c 0 at (k + rest) ∙ ap (λ (from : ℕ). bytes_at c 0 at ++ bytes_at c from (k + rest)) (omega arith) in
      let front : length (bytes_at c 0 at) ≡ 512 * at = length-bytes_at c 0 at whole (omega (arith, within, long)) in
      let here : length (bytes_at c at k) ≡ 512 * k = length-bytes_at c at k whole (omega (arith, within, long)) in
      let behind : bytes_at c at (k + rest) ≡ replicate (512 * total - 512 * at) 0 =
      sym (drop_at (bytes_at c 0 at) (bytes_at c at (k + rest)) (512 * at) front)
      ∙ ap (drop (512 * at)) (sym first ∙ blank)
      ∙ drop-replicate (512 * at) (512 * total) 0 in
      sym (take_at (bytes_at c at k) (bytes_at c (at + k) rest) (512 * k) here)
      ∙ ap (take (512 * k)) (sym (bytes_at-more c at k rest) ∙ behind)
      ∙ take-replicate (512 * k) (512 * total - 512 * at) 0 (omega (arith, within))

  blank_gate : (at : ℕ) → at < total → gate_at c at ≡ 0
  unfolding bytes_at
  blank_gate at low =
      ap (λ (s : List ℕ). slice_index s 0) (sym (append-nil (sector_at c at)) ∙ blank_part at 1 (omega (arith, low)))

-- ---- what is on the disk before the root

module _ (n total : ℕ) (size : IsDiskSize n) (covers : total ≡ 8 * start_of n Data)
    (c1 c2 c3 c4 : Contents) (whole : AreSectors c1) (long : 8 * n ≤ length c1)
    (blank : bytes_at c1 0 total ≡ replicate (512 * total) 0)
    (to2 : AgreesOutside (Stretch 0 8) c1 c2) (superblock : bytes_at c2 0 8 ≡ superblock_bytes (record { geometry = n }))
    (to3 : AgreesOutside (Stretch (8 * start_of n Data) 8) c2 c3) (inodes : bytes_at c3 (8 * start_of n Data) 8 ≡ inode_block)
    (to4 : AgreesOutside (Stretch (8 * marked_block n) 8) c3 c4) (map : bytes_at c4 (8 * marked_block n) 8 ≡ marked_bytes n) where
  all_there : total ≤ length c1
  all_there = omega (arith, covers, long, size.least)

  mark_within : marked_block n < 4 + map_blocks n
  mark_within = omega (arith, size.least)

  -- a sector outside the data area and outside the blocks that were written is as it was
  kept : (i : ℕ) → 8 ≤ i → i < total → (i < 8 * marked_block n) ⊎ (8 * marked_block n + 8 ≤ i) → sector_at c4 i ≡ sector_at c1 i
  kept i low high apart =
      to4.same i (λ is. ⊎_elim (λ before. absurd (omega (arith, before, is.0))) (λ behind. absurd (omega (arith, behind, is.1))) apart)
      ∙ to3.same i (λ is. absurd (omega (arith, is.0, high, covers)))
      ∙ to2.same i (λ is. absurd (omega (arith, is.1, low)))

  closed : (at : ℕ) → 8 ≤ at → at < total → (at < 8 * marked_block n) ⊎ (8 * marked_block n + 8 ≤ at) → IsClosed c4 at
  closed at low high apart is_open =
      absurd (omega (arith, is_open, ap (λ (s : List ℕ). slice_index s 0) (kept at low high apart), blank_gate c1 total whole all_there blank at high))

  blank_run : (at k : ℕ) → 8 ≤ at → at + k ≤ total → (at + k ≤ 8 * marked_block n) ⊎ (8 * marked_block n + 8 ≤ at) → bytes_at c4 at k ≡ replicate (512 * k) 0
  blank_run at k low high apart =
      bytes_at-same c1 c4 at k (λ i from to. kept i (omega (arith, low, from)) (omega (arith, to, high))
      (⊎_elim (λ before. inl (omega (arith, before, to))) (λ behind. inr (omega (arith, behind, from))) apart))
      ∙ blank_part c1 total whole all_there blank at k high

  slots_closed : (at : ℕ) → 24 ≤ at → at < 26 → IsClosed c4 at
  slots_closed at low high = closed at (omega (arith, low)) (omega (arith, covers, high)) (inl (omega (arith, high)))

  half_closed : (half : LogHalf) → IsClosed c4 (8 * start_of n (Log half))
  half_closed Zero = closed (8 * start_of n (Log Zero)) (omega arith) (omega (arith, covers)) (inr (omega (arith, mark_within)))
  half_closed One = closed (8 * start_of n (Log One)) (omega arith) (omega (arith, covers)) (inr (omega (arith, mark_within)))

  has_map : HasMap n c4 A (fresh_words n)
  unfolding fresh_words
  has_map =
      let first = start_of n Data in
      let k = first / 1024 in
      let r = first % 1024 in
      let m = map_blocks n - k - 1 in
      let low : r < 1024 = omega arith in
      let count : 8 * map_blocks n ≡ 8 * k + (8 + 8 * m) = omega (arith, mark_within) in
      let place : 8 * 4 + 8 * k ≡ 8 * marked_block n = omega arith in
      let behind : 8 * marked_block n + 8 + 8 * m ≤ total = omega (arith, mark_within, covers) in
      let in_front : 1024 * k + r ≡ first = omega arith in
      let after : 1023 - r + 1024 * m ≡ n - first - 1 + (1024 * map_blocks n - n) = omega (arith, mark_within, size.least, in_front) in
      let front : bytes_at c4 (8 * 4) (8 * k) ≡ numbers_bytes 4 (replicate (1024 * k) 0) = blank_run (8 * 4) (8 * k) (omega arith) (omega (arith, behind, place)) (inl (omega (arith, place))) ∙ zero_words k in
      let mid : bytes_at c4 (8 * 4 + 8 * k) 8 ≡ numbers_bytes 4 (marked r (1023 - r)) = ap (λ (at : ℕ). bytes_at c4 at 8) place ∙ map ∙ marked_spelled r low in
      let back : bytes_at c4 (8 * 4 + 8 * k + 8) (8 * m) ≡ numbers_bytes 4 (replicate (1024 * m) 0) =
      blank_run (8 * 4 + 8 * k + 8) (8 * m) (omega arith) (omega (arith, behind, place)) (inr (omega (arith, place))) ∙ zero_words m in
      record {
        count = length-marked first (n - first - 1) ∙ omega (arith, size.least);
        fits = marked_all first (n - first - 1);
        bytes =
            ap (bytes_at c4 (8 * 4)) count
            ∙ bytes_at-more c4 (8 * 4) (8 * k) (8 + 8 * m)
            ∙ ap (λ (bs : List ℕ). bytes_at c4 (8 * 4) (8 * k) ++ bs) (bytes_at-more c4 (8 * 4 + 8 * k) 8 (8 * m))
            ∙ ap (λ (bs : List ℕ). bs ++ (bytes_at c4 (8 * 4 + 8 * k) 8 ++ bytes_at c4 (8 * 4 + 8 * k + 8) (8 * m))) front
            ∙ ap (λ (bs : List ℕ). numbers_bytes 4 (replicate (1024 * k) 0) ++ (bs ++ bytes_at c4 (8 * 4 + 8 * k + 8) (8 * m))) mid
            ∙ ap (λ (bs : List ℕ). numbers_bytes 4 (replicate (1024 * k) 0) ++ (numbers_bytes 4 (marked r (1023 - r)) ++ bs)) back
            ∙ ap (λ (bs : List ℕ). numbers_bytes 4 (replicate (1024 * k) 0) ++ bs) (sym (flat_map-append (number_bytes 4) (marked r (1023 - r)) (replicate (1024 * m) 0)))
            ∙ sym (flat_map-append (number_bytes 4) (replicate (1024 * k) 0) (marked r (1023 - r) ++ replicate (1024 * m) 0))
            ∙ ap (numbers_bytes 4) (
            ap (λ (ws : List ℕ). replicate (1024 * k) 0 ++ ws) (marked_more r (1023 - r) (1024 * m))
            ∙ more_marked (1024 * k) r (1023 - r + 1024 * m)
            ∙ ap (λ (a : ℕ). marked a (1023 - r + 1024 * m)) in_front
            ∙ ap (marked first) after
            ∙ sym (marked_more first (n - first - 1) (1024 * map_blocks n - n)));
      }

  is_prepared : IsPrepared n c4
  is_prepared = record {
    superblock =
        bytes_at-same c2 c4 0 8 (λ i from to.
        to4.same i (λ is. absurd (omega (arith, is.0, to)))
        ∙ to3.same i (λ is. absurd (omega (arith, is.0, to))))
        ∙ superblock;
    other = slots_closed 25 (omega arith) (omega arith);
    inodes =
        bytes_at-same c3 c4 (8 * start_of n Data) 8 (λ i from to.
        to4.same i (λ is. absurd (omega (arith, is.1, from, mark_within))))
        ∙ inodes;
    map = has_map;
    log = λ epoch. half_closed (half_of_epoch epoch);
  }

  pub laid_out : IsLaidOut n c4
  laid_out = record { prepared = is_prepared; closed = slots_closed 24 (omega arith) (omega arith) }

-- ---- and after it

-- what is prepared is elsewhere than slot A
pub prepared_kept : (n : ℕ) (c d : Contents) → IsDiskSize n → AgreesOutside (InReplacing A) c d → IsPrepared n c → IsPrepared n d
prepared_kept n c d size agrees before = record {
  superblock = run 0 8 (inl (omega arith)) ∙ before.superblock;
  other = λ is_open. before.other (sym (ap (λ (s : List ℕ). slice_index s 0) (elsewhere 25 (λ same. absurd (omega (arith, same))) (λ within. omega arith))) ∙ is_open);
  inodes = run (8 * start_of n Data) 8 (inr (omega arith)) ∙ before.inodes;
  map = record { count = before.map.count; fits = before.map.fits; bytes = run (8 * 4) (8 * map_blocks n) (inr (omega arith)) ∙ before.map.bytes };
  log = λ epoch is_open. before.log epoch (sym (ap (λ (s : List ℕ). slice_index s 0) (half (half_of_epoch epoch))) ∙ is_open);
}
  where
    elsewhere : (i : ℕ) → (i ≡ 24 → ⊥) → (8 ≤ i → 16 ≤ i) → sector_at d i ≡ sector_at c i
    elsewhere i gate body = agrees.same i (λ is. ⊎_elim (λ (same : i ≡ 24). gate same) (λ (within : Stretch 8 8 i). absurd (omega (arith, within.0, within.1, body within.0))) is)

    run : (at k : ℕ) → (at + k ≤ 8) ⊎ (32 ≤ at) → bytes_at d at k ≡ bytes_at c at k
    run at k apart = bytes_at-same c d at k (λ i from to. ⊎_elim
        (λ (before : at + k ≤ 8). elsewhere i (λ same. absurd (omega (arith, before, to, same))) (λ low. absurd (omega (arith, before, to, low))))
        (λ (behind : 32 ≤ at). elsewhere i (λ same. absurd (omega (arith, behind, from, same))) (λ low. omega (arith, behind, from)))
        apart)

    half : (h : LogHalf) → sector_at d (8 * start_of n (Log h)) ≡ sector_at c (8 * start_of n (Log h))
    half Zero = elsewhere (8 * start_of n (Log Zero)) (λ same. absurd (omega (arith, same))) (λ low. omega arith)
    half One = elsewhere (8 * start_of n (Log One)) (λ same. absurd (omega (arith, same))) (λ low. omega arith)
