-- Bytes that are written over several blocks, block by block.
use Rattle.std.proofs.Common.{◌≡◌, ℕ, ◌+◌, ◌-◌, ◌*◌, ◌<◌, ◌≤◌, List, ◌++◌, length, get_or, take, drop, min, refl, sym, ap, ◌∙◌, ◌⊎◌, inl, inr, arith, length-append, length-drop}
use Rattle.std.proofs.lemmas.Bool.{cases_lt}
use Rattle.std.proofs.lemmas.List.{drop_all, take_all, length-take, get_or-take, get_or-drop, get_or_append_left, get_or-append_right, ext_get_or}
use Rattle.sn_model.specs.Changes.{overwritten}
use Rattle.sn_overlay.specs.Pieces.{piece}
use Rattle.sn_overlay_change.specs.Blocks.{spliced, part_in}
use Rattle.sn_overlay.proofs.PieceLemmas.{length-piece, get_or-piece}
use Rattle.sn_overlay_change.proofs.ByteLemmas.{get_or-overwritten_in, get_or-overwritten_out, past_file_block}

module _ (bytes : List ℕ) (offset : ℕ) (new : List ℕ) (index : ℕ) (high : offset < (index + 1) * 4096) (low : index * 4096 < offset + length new) where
  abbrev from : ℕ
  from = offset - index * 4096

  abbrev part : List ℕ
  part = part_in offset new index

  abbrev old : List ℕ
  old = piece 4096 bytes index

  front : length (take from old) ≡ from
  front = omega (arith, length-take from old, length-piece 4096 bytes index)

  count : length part ≡ 4096 - from - (4096 - from - (length new - (index * 4096 - offset)))
  count = omega (arith, length-take (4096 - from) (drop (index * 4096 - offset) new), length-drop (index * 4096 - offset) new)

  fits : from + length part ≤ 4096
  fits = omega (arith, count)

  long : length (spliced from part old) ≡ 4096
  long = omega (arith, length-append (take from old) (part ++ drop (from + length part) old), front, length-append part (drop (from + length part) old), length-drop (from + length part) old, length-piece 4096 bytes index, fits)

  same_at : (at : ℕ) → from ≤ at → index * 4096 + at - offset ≡ (index * 4096 - offset) + (at - from)
  same_at at h = omega arith

  get_or-part : (at : ℕ) → from ≤ at → at < from + length part → get_or part (at - from) 0 ≡ get_or new (index * 4096 + at - offset) 0
  get_or-part at h k = get_or-take (4096 - from) (drop (index * 4096 - offset) new) (at - from) 0 (omega (arith, fits))
      ∙ get_or-drop (index * 4096 - offset) new (at - from) 0
      ∙ ap (λ i. get_or new i 0) (sym (same_at at h))

  spliced_at : (at : ℕ) → at < 4096 → (at < from) ⊎ (from ≤ at) → (at < from + length part) ⊎ (from + length part ≤ at) → get_or (overwritten bytes offset new) (index * 4096 + at) 0 ≡ get_or (spliced from part old) at 0
  spliced_at at b (inl k) _ = get_or-overwritten_out bytes offset new (index * 4096 + at) (inl (omega arith))
      ∙ sym (get_or_append_left (take from old) (part ++ drop (from + length part) old) 0 at (omega (arith, front)) ∙ get_or-take from old at 0 k ∙ get_or-piece 4096 bytes index at b)
  spliced_at at b (inr k) (inl l) = get_or-overwritten_in bytes offset new (index * 4096 + at) (omega arith) (omega (arith, count))
      ∙ sym (get_or-append_right (take from old) (part ++ drop (from + length part) old) from at 0 front k
      ∙ get_or_append_left part (drop (from + length part) old) 0 (at - from) (omega arith)
      ∙ get_or-part at k l)
  spliced_at at b (inr k) (inr l) = get_or-overwritten_out bytes offset new (index * 4096 + at) (inr (omega (arith, count)))
      ∙ sym (get_or-append_right (take from old) (part ++ drop (from + length part) old) from at 0 front k
      ∙ get_or-append_right part (drop (from + length part) old) (length part) (at - from) 0 refl (omega arith)
      ∙ get_or-drop (from + length part) old (at - from - length part) 0
      ∙ ap (λ i. get_or old i 0) (past_file_block from (length part) at l)
      ∙ get_or-piece 4096 bytes index at b)

  pub writes_span : piece 4096 (overwritten bytes offset new) index ≡ spliced (offset - index * 4096) (part_in offset new index) (piece 4096 bytes index)
  writes_span = ext_get_or 0 _ _ (length-piece 4096 (overwritten bytes offset new) index ∙ sym long) (λ at k.
      let short : at < 4096 = omega (arith, length-piece 4096 (overwritten bytes offset new) index) in
      get_or-piece 4096 (overwritten bytes offset new) index at short ∙ spliced_at at short (cases_lt at from) (cases_lt at (from + length part)))

-- bytes that fill a block leave nothing of it
spliced_whole : (from : ℕ) (part a b : List ℕ) → from ≡ 0 → length part ≡ 4096 → length a ≡ 4096 → length b ≡ 4096 → spliced from part a ≡ spliced from part b
spliced_whole from part a b zero whole long other =
    ap (λ front. front ++ (part ++ drop (from + length part) a)) (ap (λ n. take n a) zero ∙ sym (ap (λ n. take n b) zero))
    ∙ ap (λ rest. take from b ++ (part ++ rest)) (drop_all (from + length part) a (omega arith) ∙ sym (drop_all (from + length part) b (omega arith)))

-- a block gets the bytes that are in it, where it was read, or they fill it
pub block_written : (bytes : List ℕ) (offset : ℕ) (new : List ℕ) (index : ℕ) (block : List ℕ) (from skip count : ℕ) → offset < (index + 1) * 4096 → index * 4096 < offset + length new → length block ≡ 4096
    → from ≡ offset - index * 4096 → skip ≡ index * 4096 - offset → count ≡ min (length new - skip) (4096 - from) → (count < 4096 → block ≡ piece 4096 bytes index)
    → spliced from (take (skip + count - skip) (drop skip new)) block ≡ piece 4096 (overwritten bytes offset new) index
block_written bytes offset new index block from skip count high low long is_from is_skip is read =
    ap (λ n. spliced from (take n (drop skip new)) block) (omega arith)
    ∙ ap (λ p. spliced from p block) (same_part (cases_lt count (4096 - from)))
    ∙ told (cases_lt count 4096)
    ∙ ap (λ n. spliced n (part_in offset new index) (piece 4096 bytes index)) is_from
    ∙ sym (writes_span bytes offset new index high low)
  where
    left : length (drop skip new) ≡ length new - skip
    left = length-drop skip new

    part_is : part_in offset new index ≡ take (4096 - from) (drop skip new)
    part_is = ap (λ n. take (4096 - n) (drop (index * 4096 - offset) new)) (sym is_from) ∙ ap (λ n. take (4096 - from) (drop n new)) (sym is_skip)

    same_part : (count < 4096 - from) ⊎ (4096 - from ≤ count) → take count (drop skip new) ≡ part_in offset new index
    same_part (inl h) = take_all count (drop skip new) (omega (arith, left)) ∙ sym (part_is ∙ take_all (4096 - from) (drop skip new) (omega (arith, left)))
    same_part (inr h) = ap (λ n. take n (drop skip new)) (omega arith) ∙ sym part_is

    told : (count < 4096) ⊎ (4096 ≤ count) → spliced from (part_in offset new index) block ≡ spliced from (part_in offset new index) (piece 4096 bytes index)
    told (inl h) = ap (spliced from (part_in offset new index)) (read h)
    told (inr h) = spliced_whole from (part_in offset new index) block (piece 4096 bytes index) (omega arith)
        (ap length part_is ∙ omega (arith, length-take (4096 - from) (drop skip new), left)) long (length-piece 4096 bytes index)
