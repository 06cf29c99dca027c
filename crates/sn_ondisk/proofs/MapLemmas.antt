-- What the copies of the block map hold.
use Rattle.std.proofs.Common.{◌≡◌, ℕ, zero, suc, ◌+◌, ◌-◌, ◌*◌, ◌<◌, ◌≤◌, List, [], ◌∷◌, ◌++◌, length, replicate, take, slice_index, ⊎_elim, refl, sym, ◌∙◌, ap, arith, length-append}
use Rattle.std.proofs.lemmas.Bool.{cases_lt}
use Rattle.std.proofs.lemmas.List.{get_or_append_left, get_or-append_right, get_or_past, get_or-replicate, length-replicate, take_at}
use Rattle.sn_device.specs.Sectors.{Contents}
use Rattle.sn_layout.specs.declared.geometry.Slot.{Slot}
use Rattle.sn_layout.specs.declared.geometry.Area.TheVariants.{MapCopy}
use Rattle.sn_layout.specs.Bytes.{AreNumbers, numbers_bytes}
use Rattle.sn_layout.specs.Geometry.{start_of, map_blocks}
use Rattle.sn_ondisk.specs.Blocks.{numbers_in}
use Rattle.sn_ondisk.specs.MapCopy.{HasMap, map_bytes, map_words, map_word}
use Rattle.sn_ondisk.proofs.BlockLemmas.{AreSame, bytes_at-same, numbers_in-numbers_bytes}

AreNumbers-zeros : (xs : List ℕ) (n : ℕ) → AreNumbers 4 xs → AreNumbers 4 (xs ++ replicate n 0)
AreNumbers-zeros [] zero fits = tt
AreNumbers-zeros [] (suc n) fits = (omega arith, AreNumbers-zeros [] n tt)
AreNumbers-zeros (x ∷ xs) n fits = (fits.0, AreNumbers-zeros xs n fits.1)

-- zeros after a list are what is read past its end anyway
slice_index-zeros : (xs : List ℕ) (n i : ℕ) → slice_index (xs ++ replicate n 0) i ≡ slice_index xs i
slice_index-zeros xs n i = ⊎_elim
    (λ (within : i < length xs). get_or_append_left xs (replicate n 0) 0 i within)
    (λ (past : length xs ≤ i). get_or-append_right xs (replicate n 0) (length xs) i 0 refl past ∙ zeros_at (i - length xs) ∙ sym (get_or_past xs i 0 past))
    (cases_lt i (length xs))
  where
    zeros_at : (k : ℕ) → slice_index (replicate n 0) k ≡ 0
    zeros_at k = ⊎_elim
        (λ (within : k < n). get_or-replicate n k 0 0 within)
        (λ (past : n ≤ k). get_or_past (replicate n 0) k 0 (omega (arith, length-replicate {A = ℕ} n 0)))
        (cases_lt k n)

pub map_words-spelled : (n : ℕ) (c : Contents) (slot : Slot) (words : List ℕ) → HasMap n c slot words → map_words n c slot ≡ words ++ replicate (1024 * map_blocks n - n) 0
unfolding map_words
map_words-spelled n c slot words map =
    let all = words ++ replicate (1024 * map_blocks n - n) 0 in
    let room : n ≤ 1024 * map_blocks n = omega arith in
    let count : length all ≡ 1024 * map_blocks n = omega (arith, length-append words (replicate (1024 * map_blocks n - n) 0), length-replicate {A = ℕ} (1024 * map_blocks n - n) 0, map.count, room) in
    ap (numbers_in (1024 * map_blocks n)) map.bytes
    ∙ ap (λ k. numbers_in k (numbers_bytes 4 all)) (sym count)
    ∙ numbers_in-numbers_bytes all (AreNumbers-zeros words (1024 * map_blocks n - n) map.fits)

pub map_word-spelled : (n : ℕ) (c : Contents) (slot : Slot) (words : List ℕ) → HasMap n c slot words → (block : ℕ) → map_word n c slot block ≡ slice_index words block
map_word-spelled n c slot words map block =
    ap (λ ws. slice_index ws block) (map_words-spelled n c slot words map) ∙ slice_index-zeros words (1024 * map_blocks n - n) block

pub map_is_one : (n : ℕ) (c : Contents) (slot : Slot) (words others : List ℕ) → HasMap n c slot words → HasMap n c slot others → words ≡ others
map_is_one n c slot words others one two =
    let blank = replicate (1024 * map_blocks n - n) 0 in
    sym (take_at words blank n one.count)
    ∙ ap (take n) (sym (map_words-spelled n c slot words one) ∙ map_words-spelled n c slot others two)
    ∙ take_at others blank n two.count

pub map_bytes-same : (n : ℕ) (c d : Contents) (slot : Slot) → AreSame c d (8 * start_of n (MapCopy slot)) (8 * start_of n (MapCopy slot) + 8 * map_blocks n) → map_bytes n d slot ≡ map_bytes n c slot
map_bytes-same n c d slot same = bytes_at-same c d (8 * start_of n (MapCopy slot)) (8 * map_blocks n) same

pub HasMap-same : (n : ℕ) (c d : Contents) (slot : Slot) (words : List ℕ) → AreSame c d (8 * start_of n (MapCopy slot)) (8 * start_of n (MapCopy slot) + 8 * map_blocks n) → HasMap n c slot words → HasMap n d slot words
HasMap-same n c d slot words same map = record { count = map.count; fits = map.fits; bytes = map_bytes-same n c d slot same ∙ map.bytes }

pub map_word-same : (n : ℕ) (c d : Contents) (slot : Slot) (block : ℕ) → AreSame c d (8 * start_of n (MapCopy slot)) (8 * start_of n (MapCopy slot) + 8 * map_blocks n) → map_word n d slot block ≡ map_word n c slot block
unfolding map_words
map_word-same n c d slot block same = ap (λ bytes. slice_index (numbers_in (1024 * map_blocks n) bytes) block) (map_bytes-same n c d slot same)
