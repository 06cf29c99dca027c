-- The blocks of a map copy and its words.
use Rattle.std.proofs.Common.{◌≡◌, ℕ, zero, suc, ◌+◌, ◌-◌, ◌*◌, ◌<◌, ◌≤◌, List, [], ◌++◌, length, replicate, take, drop, ⊎_elim, refl, sym, ◌∙◌, ap, arith, length-append, append_assoc}
use Rattle.std.proofs.lemmas.Bool.{cases_lt}
use Rattle.std.proofs.lemmas.Grind.{flat_map-append}
use Rattle.std.proofs.lemmas.List.{append-nil, nil_from_length, take_all, drop_all, drop-drop, length-drop, length-take-le, take-append-drop, replicate-append-replicate}
use Rattle.sn_device.specs.Sectors.{Contents, AreSectors}
use Rattle.sn_layout.specs.declared.geometry.Slot.{Slot}
use Rattle.sn_layout.specs.declared.geometry.Slot.TheVariants.{A, B}
use Rattle.sn_layout.specs.declared.geometry.Area.TheVariants.{MapCopy}
use Rattle.sn_layout.specs.Bytes.{AreNumbers, number_bytes, numbers_bytes, zeros}
use Rattle.sn_layout.specs.MapCopy.{map_block_bytes}
use Rattle.sn_layout.specs.Geometry.{start_of, end_of, map_blocks}
use Rattle.sn_layout.proofs.Fields.{length-numbers_bytes, length-zeros, same_fronts}
use Rattle.sn_layout.proofs.Records.{zero_numbers}
use Rattle.sn_ondisk.specs.Blocks.{bytes_at, block_at}
use Rattle.sn_ondisk.specs.MapCopy.{HasMap}
use Rattle.sn_ondisk.specs.MapLaws.{words_of_block}
use Rattle.sn_ondisk.proofs.BlockLemmas.{bytes_at-more, length-bytes_at}

-- words, and zeros up to the end of their last block
abbrev filled : ℕ → List ℕ → List ℕ
filled k words = words ++ replicate (1024 * k - length words) 0

-- the first block's words, and those of the others
split : (k : ℕ) (words : List ℕ) → length words ≤ 1024 * suc k → filled 1 (take 1024 words) ++ filled k (drop 1024 words) ≡ filled (suc k) words
split k words room = ⊎_elim
    (λ (few : length words < 1024).
    let front : take 1024 words ≡ words = take_all 1024 words (omega arith) in
    let back : drop 1024 words ≡ [] = drop_all 1024 words (omega arith) in
    let count : 1024 * 1 - length words + (1024 * k - 0) ≡ 1024 * suc k - length words = omega arith in
    ap (λ (ws : List ℕ). filled 1 ws ++ filled k (drop 1024 words)) front
    ∙ ap (λ (ws : List ℕ). filled 1 words ++ filled k ws) back
    ∙ append_assoc words (replicate (1024 * 1 - length words) 0) (replicate (1024 * k - 0) 0)
    ∙ ap (λ (r : List ℕ). words ++ r) (replicate-append-replicate (1024 * 1 - length words) (1024 * k - 0) 0)
    ∙ ap (λ (m : ℕ). words ++ replicate m 0) count)
    (λ (many : 1024 ≤ length words).
    let front : 1024 * 1 - length (take 1024 words) ≡ 0 = omega (arith, length-take-le 1024 words many) in
    let back : 1024 * k - length (drop 1024 words) ≡ 1024 * suc k - length words = omega (arith, length-drop 1024 words) in
    ap (λ (m : ℕ). (take 1024 words ++ replicate m 0) ++ filled k (drop 1024 words)) front
    ∙ ap (λ (ws : List ℕ). ws ++ filled k (drop 1024 words)) (append-nil (take 1024 words))
    ∙ sym (append_assoc (take 1024 words) (drop 1024 words) (replicate (1024 * k - length (drop 1024 words)) 0))
    ∙ ap (λ (ws : List ℕ). ws ++ replicate (1024 * k - length (drop 1024 words)) 0) (take-append-drop 1024 words)
    ∙ ap (λ (m : ℕ). words ++ replicate m 0) back)
    (cases_lt (length words) 1024)

-- a block's spelling is that of its words with zeros after them
block_filled : (words : List ℕ) → length words ≤ 1024 → map_block_bytes words ≡ numbers_bytes 4 (filled 1 words)
block_filled words room =
    let blank = 1024 * 1 - length words in
    let count : 4096 - 4 * length words ≡ 4 * blank = omega arith in
    ap (λ (m : ℕ). numbers_bytes 4 words ++ zeros m) count
    ∙ ap (λ (r : List ℕ). numbers_bytes 4 words ++ r) (sym (zero_numbers 4 blank))
    ∙ sym (flat_map-append (number_bytes 4) words (replicate blank 0))

few_words : (words : List ℕ) → length (take 1024 words) ≤ 1024
few_words words = ⊎_elim
    (λ (few : length words < 1024). omega (arith, ap length (take_all 1024 words (omega arith))))
    (λ (many : 1024 ≤ length words). omega (arith, length-take-le 1024 words many))
    (cases_lt (length words) 1024)

-- the spelling of many blocks is that of the first, and then that of the others
spelled_more : (k : ℕ) (words : List ℕ) → length words ≤ 1024 * suc k → numbers_bytes 4 (filled (suc k) words) ≡ map_block_bytes (take 1024 words) ++ numbers_bytes 4 (filled k (drop 1024 words))
spelled_more k words room =
    ap (numbers_bytes 4) (sym (split k words room))
    ∙ flat_map-append (number_bytes 4) (filled 1 (take 1024 words)) (filled k (drop 1024 words))
    ∙ ap (λ (r : List ℕ). r ++ numbers_bytes 4 (filled k (drop 1024 words))) (sym (block_filled (take 1024 words) (few_words words)))

-- so are its bytes
bytes_more : (c : Contents) (at k : ℕ) → bytes_at c (8 * at) (8 * suc k) ≡ block_at c at ++ bytes_at c (8 * (at + 1)) (8 * k)
bytes_more c at k =
    let count : 8 * suc k ≡ 8 + 8 * k = omega arith in
    let behind : 8 * at + 8 ≡ 8 * (at + 1) = omega arith in
    ap (λ (m : ℕ). bytes_at c (8 * at) m) count ∙ bytes_at-more c (8 * at) 8 (8 * k) ∙ ap (λ (m : ℕ). block_at c at ++ bytes_at c m (8 * k)) behind

later_words : (k : ℕ) (words : List ℕ) → words_of_block k (drop 1024 words) ≡ words_of_block (suc k) words
later_words k words =
    let count : 1024 + 1024 * k ≡ 1024 * suc k = omega arith in
    ap (take 1024) (drop-drop (1024 * k) 1024 words ∙ ap (λ (m : ℕ). drop m words) count)

blocks_spell : (c : Contents) (at k : ℕ) (words : List ℕ) → length words ≤ 1024 * k
    → ((i : ℕ) → i < k → block_at c (at + i) ≡ map_block_bytes (words_of_block i words)) → bytes_at c (8 * at) (8 * k) ≡ numbers_bytes 4 (filled k words)
unfolding bytes_at
blocks_spell c at zero words room each = ap (λ (ws : List ℕ). numbers_bytes 4 (filled 0 ws)) (sym (nil_from_length words (omega arith)))
blocks_spell c at (suc k) words room each =
    let here : at ≡ at + 0 = omega arith in
    let behind : (i : ℕ) → at + 1 + i ≡ at + suc i = λ i. omega arith in
    let first : block_at c at ≡ map_block_bytes (take 1024 words) = ap (block_at c) here ∙ each 0 (omega arith) in
    let others = blocks_spell c (at + 1) k (drop 1024 words) (omega (arith, length-drop 1024 words))
    (λ i lt. ap (block_at c) (behind i) ∙ each (suc i) (omega arith) ∙ ap map_block_bytes (sym (later_words i words))) in
    bytes_more c at k
    ∙ ap (λ (r : List ℕ). r ++ bytes_at c (8 * (at + 1)) (8 * k)) first
    ∙ ap (λ (r : List ℕ). map_block_bytes (take 1024 words) ++ r) others
    ∙ sym (spelled_more k words room)

pub blocks_make : (n : ℕ) (c : Contents) (slot : Slot) (words : List ℕ) → length words ≡ n → AreNumbers 4 words
    → ((k : ℕ) → k < map_blocks n → block_at c (start_of n (MapCopy slot) + k) ≡ map_block_bytes (words_of_block k words)) → HasMap n c slot words
blocks_make n c slot words count fits each =
    let blank : 1024 * map_blocks n - length words ≡ 1024 * map_blocks n - n = omega (arith, count) in
    record {
      count = count;
      fits = fits;
      bytes = blocks_spell c (start_of n (MapCopy slot)) (map_blocks n) words (omega (arith, count)) each ∙ ap (λ (m : ℕ). numbers_bytes 4 (words ++ replicate m 0)) blank;
    }

-- ---- and back

length-block : (words : List ℕ) → length words ≤ 1024 → length (map_block_bytes words) ≡ 4096
length-block words room = omega (arith, length-append (numbers_bytes 4 words) (zeros (4096 - 4 * length words)), length-numbers_bytes 4 words, length-zeros (4096 - 4 * length words))

first_block : (c : Contents) (at k : ℕ) (words : List ℕ) → AreSectors c → 8 * (at + suc k) ≤ length c → length words ≤ 1024 * suc k → bytes_at c (8 * at) (8 * suc k) ≡ numbers_bytes 4 (filled (suc k) words)
    → (block_at c at ≡ map_block_bytes (take 1024 words)) × (bytes_at c (8 * (at + 1)) (8 * k) ≡ numbers_bytes 4 (filled k (drop 1024 words)))
first_block c at k words whole within room e =
    let long : length (block_at c at) ≡ 512 * 8 = length-bytes_at c (8 * at) 8 whole (omega (arith, within)) in
    let same : length (block_at c at) ≡ length (map_block_bytes (take 1024 words)) = omega (arith, long, length-block (take 1024 words) (few_words words)) in
    same_fronts (block_at c at) (map_block_bytes (take 1024 words)) (bytes_at c (8 * (at + 1)) (8 * k)) (numbers_bytes 4 (filled k (drop 1024 words))) same (sym (bytes_more c at k) ∙ e ∙ spelled_more k words room)

spelled_blocks : (c : Contents) (at k : ℕ) (words : List ℕ) → AreSectors c → 8 * (at + k) ≤ length c → length words ≤ 1024 * k → bytes_at c (8 * at) (8 * k) ≡ numbers_bytes 4 (filled k words)
    → (i : ℕ) → i < k → block_at c (at + i) ≡ map_block_bytes (words_of_block i words)
spelled_blocks c at zero words whole within room e i lt = absurd (omega arith)
spelled_blocks c at (suc k) words whole within room e zero lt =
    let here : at + 0 ≡ at = omega arith in
    ap (block_at c) here ∙ (first_block c at k words whole within room e).0
spelled_blocks c at (suc k) words whole within room e (suc i) lt =
    let behind : at + suc i ≡ at + 1 + i = omega arith in
    let others = (first_block c at k words whole within room e).1 in
    ap (block_at c) behind
    ∙ spelled_blocks c (at + 1) k (drop 1024 words) whole (omega (arith, within)) (omega (arith, room, length-drop 1024 words)) others i (omega arith)
    ∙ ap map_block_bytes (later_words i words)

last_block : (n : ℕ) (slot : Slot) → end_of n (MapCopy slot) ≡ start_of n (MapCopy slot) + map_blocks n
last_block n A = refl
last_block n B = omega arith

pub map_blocks_spelled : (n : ℕ) (c : Contents) (slot : Slot) (words : List ℕ) → AreSectors c → 8 * end_of n (MapCopy slot) ≤ length c → HasMap n c slot words
    → (k : ℕ) → k < map_blocks n → block_at c (start_of n (MapCopy slot) + k) ≡ map_block_bytes (words_of_block k words)
map_blocks_spelled n c slot words whole within map =
    let blank : 1024 * map_blocks n - n ≡ 1024 * map_blocks n - length words = omega (arith, map.count) in
    spelled_blocks c (start_of n (MapCopy slot)) (map_blocks n) words whole (omega (arith, within, last_block n slot)) (omega (arith, map.count)) (map.bytes ∙ ap (λ (m : ℕ). numbers_bytes 4 (words ++ replicate m 0)) blank)
