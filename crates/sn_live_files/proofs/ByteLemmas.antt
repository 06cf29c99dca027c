-- The bytes of a file, block by block.
use Rattle.std.proofs.Common.{◌≡◌, ℕ, ◌+◌, ◌*◌, ◌/◌, ◌%◌, ◌<◌, ◌≤◌, List, ◌++◌, length, get_or, take, drop, sym, ap, ◌∙◌, arith, length-drop}
use Rattle.std.proofs.Math.Seq.{take-add}
use Rattle.std.proofs.lemmas.List.{length-take, get_or-take, get_or-drop, ext_get_or}
use Rattle.sn_overlay.specs.Pieces.{piece}
use Rattle.sn_overlay.proofs.PieceLemmas.{length-piece, get_or-piece}

module _ (bytes : List ℕ) (offset so_far count : ℕ) (room : (offset + so_far) % 4096 + count ≤ 4096) (within : offset + so_far + count ≤ length bytes) where
  abbrev at : ℕ
  at = offset + so_far

  abbrev part : List ℕ
  part = take count (drop (at % 4096) (piece 4096 bytes (at / 4096)))

  abbrev rest : List ℕ
  rest = take count (drop so_far (drop offset bytes))

  length-part : length part ≡ count
  length-part = omega (arith, length-take count (drop (at % 4096) (piece 4096 bytes (at / 4096))), length-drop (at % 4096) (piece 4096 bytes (at / 4096)), length-piece 4096 bytes (at / 4096), room)

  length-rest : length rest ≡ count
  length-rest = omega (arith, length-take count (drop so_far (drop offset bytes)), length-drop so_far (drop offset bytes), length-drop offset bytes, within)

  same_byte : (i : ℕ) → i < count → get_or part i 0 ≡ get_or rest i 0
  same_byte i h =
      let short : at % 4096 + i < 4096 = omega (arith, room, h) in
      let here : at / 4096 * 4096 + (at % 4096 + i) ≡ offset + (so_far + i) = omega arith in
      get_or-take count (drop (at % 4096) (piece 4096 bytes (at / 4096))) i 0 h
      ∙ get_or-drop (at % 4096) (piece 4096 bytes (at / 4096)) i 0
      ∙ get_or-piece 4096 bytes (at / 4096) (at % 4096 + i) short
      ∙ ap (λ n. get_or bytes n 0) here
      ∙ sym (get_or-drop offset bytes (so_far + i) 0)
      ∙ sym (get_or-drop so_far (drop offset bytes) i 0)
      ∙ sym (get_or-take count (drop so_far (drop offset bytes)) i 0 h)

  -- a part of a block is that part of the file, where it ends before the file does
  part-is : part ≡ rest
  part-is = ext_get_or 0 part rest (length-part ∙ sym length-rest) (λ i h. same_byte i (omega (arith, h, length-part)))

  -- bytes of one block more
  pub read_more : take so_far (drop offset bytes) ++ part ≡ take (so_far + count) (drop offset bytes)
  read_more = ap (λ b. take so_far (drop offset bytes) ++ b) part-is ∙ sym (take-add so_far count (drop offset bytes))
