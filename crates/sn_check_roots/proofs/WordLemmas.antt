-- The words of a copy of the map, block by block.
use Rattle.std.proofs.Common.{◌≡◌, ⊎_elim, ℕ, zero, suc, ◌+◌, ◌-◌, ◌*◌, ◌<◌, ◌≤◌, List, [], ◌∷◌, ◌++◌, length, take, slice_index, refl, sym, ap, subst, ◌∙◌, arith}
use Rattle.std.proofs.lemmas.Bool.{cases_lt}
use Rattle.std.proofs.lemmas.List.{get_or_append_left, get_or-append_right, take_all}
use Rattle.byteorder.specs.Endian.{little_number}
use Rattle.sn_device.specs.Sectors.{Contents, AreSectors}
use Rattle.sn_layout.specs.declared.geometry.Slot.{Slot}
use Rattle.sn_layout.specs.declared.geometry.Area.TheVariants.{MapCopy}
use Rattle.sn_layout.specs.Bytes.{AreNumbers, numbers_bytes}
use Rattle.sn_layout.specs.declared.geometry.Slot.TheVariants.{A, B}
use Rattle.sn_layout.specs.Geometry.{end_of, start_of, map_blocks}
use Rattle.sn_model.specs.declared.fault.Damage.{Damage}
use Rattle.sn_ondisk.specs.Blocks.{block_at, bytes_at, numbers_in}
use Rattle.sn_ondisk.specs.MapCopy.{map_bytes, map_word, map_words}
use Rattle.sn_ondisk.proofs.BlockLemmas.{bytes_at-more, length-bytes_at, length-numbers_in, numbers_in-numbers_bytes}
use Rattle.sn_check_roots.specs.Words.{HasFirst, HasOtherWord, IsOther, in_block, other}

-- numbers of bytes that follow one another
numbers_behind : (a b : ℕ) (xs ys : List ℕ) → length xs ≡ 4 * a → numbers_in (a + b) (xs ++ ys) ≡ numbers_in a xs ++ numbers_in b ys
unfolding numbers_in
numbers_behind zero b [] ys size = let same : 0 + b ≡ b = omega arith in ap (λ (n : ℕ). numbers_in n ys) same
numbers_behind zero b (x ∷ xs) ys size = absurd (omega (arith, size))
numbers_behind (suc a) b (p ∷ q ∷ r ∷ t ∷ xs) ys size =
    let next : suc a + b ≡ suc (a + b) = omega arith in
    ap (λ (n : ℕ). numbers_in n (p ∷ q ∷ r ∷ t ∷ (xs ++ ys))) next
    ∙ ap (λ (ns : List ℕ). little_number 4 (p ∷ q ∷ r ∷ t ∷ xs) ∷ ns) (numbers_behind a b xs ys (omega (arith, size)))
numbers_behind (suc a) b (p ∷ q ∷ r ∷ []) ys size = absurd (omega (arith, size))
numbers_behind (suc a) b (p ∷ q ∷ []) ys size = absurd (omega (arith, size))
numbers_behind (suc a) b (p ∷ []) ys size = absurd (omega (arith, size))
numbers_behind (suc a) b [] ys size = absurd (omega (arith, size))

-- what was read of a block
pub words_read : (c : Contents) (number : ℕ) (old words bytes : List ℕ) → AreSectors c → 8 * number + 8 ≤ length c → length old ≡ 1024 → length words ≡ length old → AreNumbers 4 words
    → bytes ≡ block_at c number → numbers_bytes 4 words ≡ take (4 * length old) bytes → words ≡ numbers_in 1024 (block_at c number)
words_read c number old words bytes whole room count same fits is read =
    let size : 4 * length old ≡ 4096 = omega (arith, count) in
    let long : length words ≡ 1024 = omega (arith, count, same) in
    sym (numbers_in-numbers_bytes words fits)
    ∙ ap (λ (n : ℕ). numbers_in n (numbers_bytes 4 words)) long
    ∙ ap (numbers_in 1024) (read ∙ ap (λ (n : ℕ). take n bytes) size ∙ ap (take 4096) is ∙ take_all 4096 (block_at c number) (omega (arith, length-bytes_at c (8 * number) 8 whole room)))

-- the same words, by equal numbers
pub words_moved : (c d : Contents) (wanted : List ℕ) (number place from to : ℕ) → d ≡ c → number ≡ place → from ≡ to
    → ((k : ℕ) → k < 1024 → slice_index (numbers_in 1024 (block_at d number)) k ≡ slice_index wanted (from + k))
    → (k : ℕ) → k < 1024 → slice_index (numbers_in 1024 (block_at c place)) k ≡ slice_index wanted (to + k)
words_moved c d wanted number place from to disk block first are k small =
    ap (λ (x : Contents). slice_index (numbers_in 1024 (block_at x place)) k) (sym disk)
    ∙ ap (λ (m : ℕ). slice_index (numbers_in 1024 (block_at d m)) k) (sym block)
    ∙ are k small
    ∙ ap (λ (m : ℕ). slice_index wanted (m + k)) first

-- the copy ends where its blocks do
pub copy_end : (n : ℕ) (slot : Slot) → end_of n (MapCopy slot) ≡ start_of n (MapCopy slot) + map_blocks n
copy_end n A = refl
copy_end n B = omega arith

pub first_none : (n : ℕ) (c : Contents) (slot : Slot) (wanted : List ℕ) → HasFirst n c slot wanted 0
first_none n c slot wanted block under = absurd (omega (arith, under))

module _ (n : ℕ) (c : Contents) (slot : Slot) (whole : AreSectors c) (room : 8 * (start_of n (MapCopy slot) + map_blocks n) ≤ length c) where
  -- a word of the copy is in its block
  pub word_in : (i k : ℕ) → i < map_blocks n → k < 1024 → map_word n c slot (1024 * i + k) ≡ slice_index (numbers_in 1024 (block_at c (start_of n (MapCopy slot) + i))) k
  unfolding map_words
  word_in i k within small = ap (λ (xs : List ℕ). slice_index xs (1024 * i + k)) split ∙ behind ∙ front
    where
      start : ℕ
      start = start_of n (MapCopy slot)

      rest : ℕ
      rest = map_blocks n - (i + 1)

      first : List ℕ
      first = bytes_at c (8 * start) (8 * i)

      here : List ℕ
      here = block_at c (start + i)

      last : List ℕ
      last = bytes_at c (8 * (start + i) + 8) (8 * rest)

      bytes : map_bytes n c slot ≡ first ++ (here ++ last)
      bytes =
          let count : 8 * map_blocks n ≡ 8 * i + (8 + 8 * rest) = omega (arith, within) in
          let at : 8 * start + 8 * i ≡ 8 * (start + i) = omega arith in
          ap (λ (m : ℕ). bytes_at c (8 * start) m) count
          ∙ bytes_at-more c (8 * start) (8 * i) (8 + 8 * rest)
          ∙ ap (λ (m : ℕ). first ++ bytes_at c m (8 + 8 * rest)) at
          ∙ ap (λ (xs : List ℕ). first ++ xs) (bytes_at-more c (8 * (start + i)) 8 (8 * rest))

      first_size : length first ≡ 4 * (1024 * i)
      first_size = omega (arith, length-bytes_at c (8 * start) (8 * i) whole (omega (arith, room, within)))

      here_size : length here ≡ 4 * 1024
      here_size = omega (arith, length-bytes_at c (8 * (start + i)) 8 whole (omega (arith, room, within)))

      split : numbers_in (1024 * map_blocks n) (map_bytes n c slot) ≡ numbers_in (1024 * i) first ++ (numbers_in 1024 here ++ numbers_in (1024 * rest) last)
      split =
          let count : 1024 * map_blocks n ≡ 1024 * i + (1024 + 1024 * rest) = omega (arith, within) in
          ap (λ (m : ℕ). numbers_in m (map_bytes n c slot)) count
          ∙ ap (numbers_in (1024 * i + (1024 + 1024 * rest))) bytes
          ∙ numbers_behind (1024 * i) (1024 + 1024 * rest) first (here ++ last) first_size
          ∙ ap (λ (xs : List ℕ). numbers_in (1024 * i) first ++ xs) (numbers_behind 1024 (1024 * rest) here last here_size)

      behind : slice_index (numbers_in (1024 * i) first ++ (numbers_in 1024 here ++ numbers_in (1024 * rest) last)) (1024 * i + k) ≡ slice_index (numbers_in 1024 here ++ numbers_in (1024 * rest) last) k
      behind =
          let past : 1024 * i + k - 1024 * i ≡ k = omega arith in
          get_or-append_right (numbers_in (1024 * i) first) (numbers_in 1024 here ++ numbers_in (1024 * rest) last) (1024 * i) (1024 * i + k) 0 (length-numbers_in (1024 * i) first) (omega arith)
          ∙ ap (λ (j : ℕ). slice_index (numbers_in 1024 here ++ numbers_in (1024 * rest) last) j) past

      front : slice_index (numbers_in 1024 here ++ numbers_in (1024 * rest) last) k ≡ slice_index (numbers_in 1024 here) k
      front = get_or_append_left (numbers_in 1024 here) (numbers_in (1024 * rest) last) 0 k (omega (arith, small, length-numbers_in 1024 here))

  pub first_more : (wanted : List ℕ) (i : ℕ) → i < map_blocks n → HasFirst n c slot wanted i
      → ((k : ℕ) → k < 1024 → slice_index (numbers_in 1024 (block_at c (start_of n (MapCopy slot) + i))) k ≡ slice_index wanted (1024 * i + k))
      → HasFirst n c slot wanted (i + 1)
  first_more wanted i within before here block under = ⊎_elim
      (λ (old : block < 1024 * i). before block old)
      (λ (new : 1024 * i ≤ block).
      let k : ℕ = block - 1024 * i in
      let small : k < 1024 = omega (arith, under, new) in
      let is : 1024 * i + k ≡ block = omega (arith, new) in
      subst (λ (b : ℕ). map_word n c slot b ≡ slice_index wanted b) is (word_in i k within small ∙ here k small))
      (cases_lt block (1024 * i))

  pub other_here : (wanted : List ℕ) (i from : ℕ) (damage : Damage) (block : ℕ) → i < map_blocks n → from ≡ 1024 * i → IsOther (numbers_in 1024 (block_at c (start_of n (MapCopy slot) + i))) wanted from damage block
      → HasOtherWord n c slot wanted damage block
  other_here wanted i from _ _ within is (in_block block has) =
      let small : has.k < 1024 = omega (arith, has.within, length-numbers_in 1024 (block_at c (start_of n (MapCopy slot) + i))) in
      let at : block ≡ 1024 * i + has.k = omega (arith, has.here, is) in
      other block (omega (arith, at, within, small)) (λ same. has.apart (sym (word_in i has.k within small) ∙ ap (λ (b : ℕ). map_word n c slot b) (sym at) ∙ same))
