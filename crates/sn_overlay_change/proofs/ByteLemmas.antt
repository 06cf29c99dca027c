-- The bytes of a file that was cut off, made longer or written to, at each place and in each block.
use Rattle.std.proofs.Common.{◌≡◌, ℕ, ◌+◌, ◌-◌, ◌*◌, ◌<◌, ◌≤◌, List, ◌++◌, length, get_or, take, drop, replicate, refl, sym, ap, ◌∙◌, ◌⊎◌, inl, inr, arith, length-append, length-drop}
use Rattle.std.proofs.lemmas.Bool.{cases_lt}
use Rattle.std.proofs.lemmas.List.{length-take, length-replicate, get_or-replicate, get_or-take, get_or-drop, get_or_append_left, get_or-append_right, get_or_past, ext_get_or}
use Rattle.sn_model.specs.Changes.{resized, overwritten}
use Rattle.sn_overlay.specs.Pieces.{zeros, piece}
use Rattle.sn_overlay_change.specs.Blocks.{zeroed, spliced}
use Rattle.sn_overlay.proofs.PieceLemmas.{length-zeros, get_or-zeros, length-piece, get_or-piece}

same_file_block : (index from at : ℕ) → from ≤ at → index * 4096 + at - (index * 4096 + from) ≡ at - from
same_file_block index from at h = omega arith

pub past_file_block : (from n at : ℕ) → from + n ≤ at → from + n + (at - from - n) ≡ at
past_file_block from n at h = omega arith

-- zeros after some bytes read as the end does
padded : (bytes : List ℕ) (n at : ℕ) → get_or (bytes ++ replicate n 0) at 0 ≡ get_or bytes at 0
padded bytes n at = told (cases_lt at (length bytes)) (cases_lt (at - length bytes) n)
  where
    told : (at < length bytes) ⊎ (length bytes ≤ at) → (at - length bytes < n) ⊎ (n ≤ at - length bytes) → get_or (bytes ++ replicate n 0) at 0 ≡ get_or bytes at 0
    told (inl h) _ = get_or_append_left bytes (replicate n 0) 0 at h
    told (inr h) (inl k) = get_or-append_right bytes (replicate n 0) (length bytes) at 0 refl h ∙ get_or-replicate {A = ℕ} n (at - length bytes) 0 0 k ∙ sym (get_or_past bytes at 0 h)
    told (inr h) (inr k) = get_or-append_right bytes (replicate n 0) (length bytes) at 0 refl h ∙ get_or_past (replicate n 0) (at - length bytes) 0 (omega (arith, length-replicate {A = ℕ} n 0)) ∙ sym (get_or_past bytes at 0 h)

pub length-resized : (bytes : List ℕ) (size : ℕ) → length (resized bytes size) ≡ size
length-resized bytes size = omega (arith, length-take size (bytes ++ replicate (size - length bytes) 0), length-append bytes (replicate (size - length bytes) 0), length-replicate {A = ℕ} (size - length bytes) 0)

-- below the new size a file that was cut off or made longer has its bytes, and zeros after them
pub get_or-resized : (bytes : List ℕ) (size at : ℕ) → at < size → get_or (resized bytes size) at 0 ≡ get_or bytes at 0
get_or-resized bytes size at h = get_or-take size (bytes ++ replicate (size - length bytes) 0) at 0 h ∙ padded bytes (size - length bytes) at

pub length-overwritten : (bytes : List ℕ) (offset : ℕ) (new : List ℕ) → length (overwritten bytes offset new) ≡ (offset + length new) + (length bytes - (offset + length new))
length-overwritten bytes offset new = omega (arith, length-append (resized bytes offset) (new ++ drop (offset + length new) bytes), length-resized bytes offset, length-append new (drop (offset + length new) bytes), length-drop (offset + length new) bytes)

-- what was written is at its place
pub get_or-overwritten_in : (bytes : List ℕ) (offset : ℕ) (new : List ℕ) (at : ℕ) → offset ≤ at → at < offset + length new → get_or (overwritten bytes offset new) at 0 ≡ get_or new (at - offset) 0
get_or-overwritten_in bytes offset new at h k =
    get_or-append_right (resized bytes offset) (new ++ drop (offset + length new) bytes) offset at 0 (length-resized bytes offset) h
    ∙ get_or_append_left new (drop (offset + length new) bytes) 0 (at - offset) (omega arith)

-- and every other place reads as before
pub get_or-overwritten_out : (bytes : List ℕ) (offset : ℕ) (new : List ℕ) (at : ℕ) → (at < offset) ⊎ (offset + length new ≤ at) → get_or (overwritten bytes offset new) at 0 ≡ get_or bytes at 0
get_or-overwritten_out bytes offset new at (inl h) =
    get_or_append_left (resized bytes offset) (new ++ drop (offset + length new) bytes) 0 at (omega (arith, length-resized bytes offset))
    ∙ get_or-resized bytes offset at h
get_or-overwritten_out bytes offset new at (inr h) =
    get_or-append_right (resized bytes offset) (new ++ drop (offset + length new) bytes) offset at 0 (length-resized bytes offset) (omega arith)
    ∙ get_or-append_right new (drop (offset + length new) bytes) (length new) (at - offset) 0 refl (omega arith)
    ∙ get_or-drop (offset + length new) bytes (at - offset - length new) 0
    ∙ ap (λ i. get_or bytes i 0) (past_file_block offset (length new) at h)

-- pieces are alike where their bytes are
pub same_piece : (width : ℕ) (a b : List ℕ) (index : ℕ) → ((at : ℕ) → at < width → get_or a (index * width + at) 0 ≡ get_or b (index * width + at) 0) → piece width a index ≡ piece width b index
same_piece width a b index h = ext_get_or 0 _ _ (length-piece width a index ∙ sym (length-piece width b index)) (λ at k.
    let short : at < width = omega (arith, length-piece width a index) in
    get_or-piece width a index at short ∙ h at short ∙ sym (get_or-piece width b index at short))

-- a block in which nothing was written is as before
pub piece-overwritten : (bytes : List ℕ) (offset : ℕ) (new : List ℕ) (index : ℕ) → ((index + 1) * 4096 ≤ offset) ⊎ (offset + length new ≤ index * 4096) → piece 4096 (overwritten bytes offset new) index ≡ piece 4096 bytes index
piece-overwritten bytes offset new index (inl h) = same_piece 4096 _ _ index (λ at k. get_or-overwritten_out bytes offset new (index * 4096 + at) (inl (omega arith)))
piece-overwritten bytes offset new index (inr h) = same_piece 4096 _ _ index (λ at k. get_or-overwritten_out bytes offset new (index * 4096 + at) (inr (omega arith)))

-- a block below the new size is as before
pub piece-resized : (bytes : List ℕ) (size index : ℕ) → ((index + 1) * 4096 ≤ size) ⊎ (length bytes ≤ size) → piece 4096 (resized bytes size) index ≡ piece 4096 bytes index
piece-resized bytes size index (inl h) = same_piece 4096 _ _ index (λ at k. get_or-resized bytes size (index * 4096 + at) (omega arith))
piece-resized bytes size index (inr h) = same_piece 4096 _ _ index (λ at k. told at (cases_lt (index * 4096 + at) size))
  where
    told : (at : ℕ) → (index * 4096 + at < size) ⊎ (size ≤ index * 4096 + at) → get_or (resized bytes size) (index * 4096 + at) 0 ≡ get_or bytes (index * 4096 + at) 0
    told at (inl k) = get_or-resized bytes size (index * 4096 + at) k
    told at (inr k) = get_or_past (resized bytes size) (index * 4096 + at) 0 (omega (arith, length-resized bytes size)) ∙ sym (get_or_past bytes (index * 4096 + at) 0 (omega arith))

pub length-zeroed : (from : ℕ) (block : List ℕ) → length block ≡ 4096 → from ≤ 4096 → length (zeroed from block) ≡ 4096
length-zeroed from block long h = omega (arith, length-append (take from block) (zeros (4096 - from)), length-take from block, length-zeros (4096 - from))

-- the block in which a file is cut off has zeros from there on
pub piece-cut : (bytes : List ℕ) (index from : ℕ) → from ≤ 4096 → piece 4096 (resized bytes (index * 4096 + from)) index ≡ zeroed from (piece 4096 bytes index)
piece-cut bytes index from h = ext_get_or 0 _ _ (length-piece 4096 (resized bytes (index * 4096 + from)) index ∙ sym long) (λ at k.
    let short : at < 4096 = omega (arith, length-piece 4096 (resized bytes (index * 4096 + from)) index) in
    get_or-piece 4096 (resized bytes (index * 4096 + from)) index at short ∙ told at short (cases_lt at from))
  where
    front : length (take from (piece 4096 bytes index)) ≡ from
    front = omega (arith, length-take from (piece 4096 bytes index), length-piece 4096 bytes index)

    long : length (zeroed from (piece 4096 bytes index)) ≡ 4096
    long = length-zeroed from (piece 4096 bytes index) (length-piece 4096 bytes index) h

    told : (at : ℕ) → at < 4096 → (at < from) ⊎ (from ≤ at) → get_or (resized bytes (index * 4096 + from)) (index * 4096 + at) 0 ≡ get_or (zeroed from (piece 4096 bytes index)) at 0
    told at b (inl k) = get_or-resized bytes (index * 4096 + from) (index * 4096 + at) (omega arith)
        ∙ sym (get_or_append_left (take from (piece 4096 bytes index)) (zeros (4096 - from)) 0 at (omega (arith, front)) ∙ get_or-take from (piece 4096 bytes index) at 0 k ∙ get_or-piece 4096 bytes index at b)
    told at b (inr k) = get_or_past (resized bytes (index * 4096 + from)) (index * 4096 + at) 0 (omega (arith, length-resized bytes (index * 4096 + from)))
        ∙ sym (get_or-append_right (take from (piece 4096 bytes index)) (zeros (4096 - from)) from at 0 front k ∙ get_or-zeros (4096 - from) (at - from))

-- a block in which bytes are written is the old one with them in place
module _ (bytes : List ℕ) (index from : ℕ) (new : List ℕ) (fits : from + length new ≤ 4096) where
  abbrev whole : List ℕ
  whole = overwritten bytes (index * 4096 + from) new

  abbrev old : List ℕ
  old = piece 4096 bytes index

  front : length (take from old) ≡ from
  front = omega (arith, length-take from old, length-piece 4096 bytes index)

  long : length (spliced from new old) ≡ 4096
  long = omega (arith, length-append (take from old) (new ++ drop (from + length new) old), front, length-append new (drop (from + length new) old), length-drop (from + length new) old, length-piece 4096 bytes index)

  spliced_at : (at : ℕ) → at < 4096 → (at < from) ⊎ (from ≤ at) → (at < from + length new) ⊎ (from + length new ≤ at) → get_or whole (index * 4096 + at) 0 ≡ get_or (spliced from new old) at 0
  spliced_at at b (inl k) _ = get_or-overwritten_out bytes (index * 4096 + from) new (index * 4096 + at) (inl (omega arith))
      ∙ sym (get_or_append_left (take from old) (new ++ drop (from + length new) old) 0 at (omega (arith, front)) ∙ get_or-take from old at 0 k ∙ get_or-piece 4096 bytes index at b)
  spliced_at at b (inr k) (inl l) = get_or-overwritten_in bytes (index * 4096 + from) new (index * 4096 + at) (omega arith) (omega arith)
      ∙ ap (λ i. get_or new i 0) (same_file_block index from at k)
      ∙ sym (get_or-append_right (take from old) (new ++ drop (from + length new) old) from at 0 front k ∙ get_or_append_left new (drop (from + length new) old) 0 (at - from) (omega arith))
  spliced_at at b (inr k) (inr l) = get_or-overwritten_out bytes (index * 4096 + from) new (index * 4096 + at) (inr (omega arith))
      ∙ sym (get_or-append_right (take from old) (new ++ drop (from + length new) old) from at 0 front k
      ∙ get_or-append_right new (drop (from + length new) old) (length new) (at - from) 0 refl (omega arith)
      ∙ get_or-drop (from + length new) old (at - from - length new) 0
      ∙ ap (λ i. get_or old i 0) (past_file_block from (length new) at l)
      ∙ get_or-piece 4096 bytes index at b)

  pub piece-spliced : piece 4096 (overwritten bytes (index * 4096 + from) new) index ≡ spliced from new (piece 4096 bytes index)
  piece-spliced = ext_get_or 0 _ _ (length-piece 4096 whole index ∙ sym long) (λ at k.
      let short : at < 4096 = omega (arith, length-piece 4096 whole index) in
      get_or-piece 4096 whole index at short ∙ spliced_at at short (cases_lt at from) (cases_lt at (from + length new)))
