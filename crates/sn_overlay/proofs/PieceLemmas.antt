-- Pieces of bytes, and bytes from pieces.
use Rattle.std.proofs.Common.{◌≡◌, ℕ, ◌+◌, ◌*◌, ◌/◌, ◌%◌, ◌<◌, ◌≤◌, List, ◌++◌, length, get_or, drop, replicate, refl, sym, ap, ◌∙◌, ◌⊎◌, inl, inr, arith, length-append, length-drop}
use Rattle.std.proofs.lemmas.List.{length-take, length-replicate, get_or-replicate, get_or-take, get_or-drop, get_or_append_left, get_or-append_right, get_or_past, ext_get_or}
use Rattle.std.proofs.lemmas.List.FromFn.{length-map-range_with_len, get_or-map-range_with_len}
use Rattle.std.proofs.lemmas.Nat.{div-mul-add, mod-mul-add, mod_below, div-add-mod'}
use Rattle.std.proofs.lemmas.Bool.{cases_lt}
use Rattle.sn_overlay.specs.Pieces.{zeros, piece, joined}

pub length-zeros : (n : ℕ) → length (zeros n) ≡ n
unfolding zeros
length-zeros n = length-replicate n 0

pub get_or-zeros : (n at : ℕ) → get_or (zeros n) at 0 ≡ 0
unfolding zeros
get_or-zeros n at = told (cases_lt at n)
  where
    told : (at < n) ⊎ (n ≤ at) → get_or {A = ℕ} (replicate n 0) at 0 ≡ 0
    told (inl h) = get_or-replicate {A = ℕ} n at 0 0 h
    told (inr h) = get_or_past (replicate n 0) at 0 (rw (length-replicate {A = ℕ} n 0) h)

pub length-piece : (width : ℕ) (bytes : List ℕ) (index : ℕ) → length (piece width bytes index) ≡ width
unfolding piece
length-piece width bytes index = omega (arith, length-take width (drop (index * width) bytes ++ zeros width), length-append (drop (index * width) bytes) (zeros width), length-zeros width)

pub get_or-piece : (width : ℕ) (bytes : List ℕ) (index at : ℕ) → at < width → get_or (piece width bytes index) at 0 ≡ get_or bytes (index * width + at) 0
unfolding piece
get_or-piece width bytes index at h = get_or-take width _ at 0 h ∙ told (cases_lt at (length (drop (index * width) bytes)))
  where
    told : (at < length (drop (index * width) bytes)) ⊎ (length (drop (index * width) bytes) ≤ at) → get_or (drop (index * width) bytes ++ zeros width) at 0 ≡ get_or bytes (index * width + at) 0
    told (inl k) = get_or_append_left (drop (index * width) bytes) (zeros width) 0 at k ∙ get_or-drop (index * width) bytes at 0
    told (inr k) = get_or-append_right (drop (index * width) bytes) (zeros width) _ at 0 refl k ∙ get_or-zeros width _
        ∙ sym (get_or_past bytes (index * width + at) 0 (omega (arith, length-drop (index * width) bytes)))

-- a piece past the end is zeros
pub piece_past : (width : ℕ) (bytes : List ℕ) (index : ℕ) → length bytes ≤ index * width → piece width bytes index ≡ zeros width
piece_past width bytes index h = ext_get_or 0 _ _ (length-piece width bytes index ∙ sym (length-zeros width)) (λ at b.
    let short : at < width = omega (arith, length-piece width bytes index) in
    get_or-piece width bytes index at short ∙ get_or_past bytes (index * width + at) 0 (omega arith) ∙ sym (get_or-zeros width at))

pub length-joined : (width size : ℕ) (pieces : ℕ → List ℕ) → length (joined width size pieces) ≡ size
unfolding joined
length-joined width size pieces = length-map-range_with_len _ 0 size

pub get_or-joined : (width size : ℕ) (pieces : ℕ → List ℕ) (file_block : ℕ) → file_block < size → get_or (joined width size pieces) file_block 0 ≡ get_or (pieces (file_block / width)) (file_block % width) 0
unfolding joined
get_or-joined width size pieces file_block h = get_or-map-range_with_len (λ p. get_or (pieces (p / width)) (p % width) 0) 0 size file_block file_block 0 h (omega arith)

-- the same, where the piece and the offset in it are known
pub get_or-joined_at : (width size : ℕ) (pieces : ℕ → List ℕ) (index at : ℕ) → at < width → index * width + at < size → get_or (joined width size pieces) (index * width + at) 0 ≡ get_or (pieces index) at 0
get_or-joined_at width size pieces index at h k =
    get_or-joined width size pieces (index * width + at) k
    ∙ ap (λ q. get_or (pieces q) ((index * width + at) % width) 0) (div-mul-add index width at h)
    ∙ ap (λ r. get_or (pieces index) r 0) (mod-mul-add index width at h)

-- pieces that are alike are joined alike
pub joined_alike : (width size : ℕ) (f g : ℕ → List ℕ) → ((index : ℕ) → f index ≡ g index) → joined width size f ≡ joined width size g
joined_alike width size f g h = λ i. joined width size (λ index. h index i)

-- a piece of what was joined is that piece, where it is zeros past the end
pub piece-joined : (width size : ℕ) (pieces : ℕ → List ℕ) (index : ℕ) → length (pieces index) ≡ width → ((at : ℕ) → at < width → size ≤ index * width + at → get_or (pieces index) at 0 ≡ 0) → piece width (joined width size pieces) index ≡ pieces index
piece-joined width size pieces index long past = ext_get_or 0 _ _ (length-piece width _ index ∙ sym long) (λ at h.
    let short : at < width = rw (← length-piece width (joined width size pieces) index) h in
    get_or-piece width _ index at short ∙ told at short (cases_lt (index * width + at) size))
  where
    told : (at : ℕ) → at < width → (index * width + at < size) ⊎ (size ≤ index * width + at) → get_or (joined width size pieces) (index * width + at) 0 ≡ get_or (pieces index) at 0
    told at h (inl k) = get_or-joined_at width size pieces index at h k
    told at h (inr k) = get_or_past (joined width size pieces) (index * width + at) 0 (rw (length-joined width size pieces) k) ∙ sym (past at h k)

-- bytes are joined from their pieces
pub joined-piece : (width : ℕ) (bytes : List ℕ) → 0 < width → joined width (length bytes) (piece width bytes) ≡ bytes
joined-piece width bytes some = ext_get_or 0 _ _ (length-joined width _ _) (λ file_block h.
    let short : file_block < length bytes = rw (← length-joined width (length bytes) (piece width bytes)) h in
    get_or-joined width (length bytes) (piece width bytes) file_block short
    ∙ get_or-piece width bytes (file_block / width) (file_block % width) (mod_below file_block width some)
    ∙ ap (λ p. get_or bytes p 0) (div-add-mod' file_block width))
