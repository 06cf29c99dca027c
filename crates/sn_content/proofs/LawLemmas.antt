-- When what is wanted of a content ends at its size, and what bytes a content has.
use Rattle.std.proofs.Common.{◌≡◌, ℕ, zero, suc, ◌+◌, ◌-◌, ◌*◌, ◌/◌, ◌%◌, ◌<◌, ◌≤◌, ◌==◌, Bool, true, false, List, [], ◌∷◌, ◌++◌, length, get_or, slice_index, replicate, refl, sym, ap, ◌∙◌, arith, if◌then◌else◌}
use Rattle.std.specs.Prelude.{◌≢◌, ◌^◌, nat_lt, All}
use Rattle.std.specs.List.{AllByRecursion}
use Rattle.std.proofs.lemmas.Bool.{eqb-false, eqb-true, ltb-true, ne_eqb}
use Rattle.std.proofs.lemmas.List.Elements.{All-cons, All-nil}
use Rattle.std.proofs.lemmas.List.{get_or-replicate, get_or-append_right, get_or-take}
use Rattle.sn_layout.specs.Bytes.{zeros}
use Rattle.sn_layout.specs.Pointers.{levels_of}
use Rattle.sn_layout_node.specs.Inode.{size_of}
use Rattle.sn_layout_node.specs.declared.content.Content.{Content}
use Rattle.sn_layout_node.specs.declared.content.Content.TheVariants.{Inline, Tree}
use Rattle.sn_ondisk.specs.Trees.{Store}
use Rattle.sn_ondisk.proofs.TreeLemmas.{levels_room}
use Rattle.sn_image.specs.Contents.{byte_of}
use Rattle.sn_image.specs.Sound.{ContentEnds}
use Rattle.sn_tree.specs.Dirty.{block_wanted, block_after}
use Rattle.sn_tree.specs.Laws.{EndsBy}
use Rattle.sn_tree.specs.Orders.{KeepsWithin}
use Rattle.sn_tree.specs.Replanned.{EndsAt}
use Rattle.sn_tree.specs.declared.new_block.DirtyBlock.{DirtyBlock}
use Rattle.sn_tree.proofs.LawLemmas.{past_zero, begin, grown_end}
use Rattle.sn_content.specs.Contents.{inline_block, content_block, HasDataBlocks, HasItsForm}

inline_past : (bytes : List ℕ) (size : ℕ) → length bytes ≤ size → (i k : ℕ) → k < 4096 → size ≤ 4096 * i + k → get_or (inline_block bytes i) k 0 ≡ 0
unfolding zeros
inline_past bytes size few zero k within far =
    let past : length bytes ≤ k = omega (arith, few, far) in
    get_or-append_right bytes (replicate (4096 - length bytes) 0) (length bytes) k 0 refl past ∙ get_or-replicate (4096 - length bytes) (k - length bytes) 0 0 (omega (arith, within, past))
inline_past bytes size few (suc i) k within far =
    ap (λ (b : Bool). get_or (if b then bytes ++ zeros (4096 - length bytes) else zeros 4096) k 0) (ne_eqb (suc i) 0 (λ is. absurd (omega (arith, is)))) ∙ get_or-replicate 4096 k 0 0 within

pub grown_content_end : (s : Store) (old : Content) (size keep : ℕ) (dirty : List DirtyBlock) → ContentEnds s old → size_of old ≤ size → KeepsWithin size keep → AllByRecursion (EndsBy size) dirty → EndsAt (content_block s old) size keep dirty
grown_content_end s (Inline bytes) size keep dirty ends larger stays all = record {
  stays = stays;
  begins = begin size dirty all;
  past = past_zero (inline_block bytes) size keep (λ i k low within far. inline_past bytes size larger i k within far) dirty all;
}
grown_content_end s (Tree tree) size keep dirty ends larger stays all = grown_end s tree size keep dirty ends larger stays all

pub cut_content_end : (s : Store) (old : Content) (size keep : ℕ) (dirty : List DirtyBlock) → 4096 * keep ≤ size → AllByRecursion (EndsBy size) dirty → EndsAt (content_block s old) size keep dirty
cut_content_end s old size keep dirty whole all = record {
  stays = omega (arith, whole);
  begins = begin size dirty all;
  past = past_zero (content_block s old) size keep (λ i k low within far. absurd (omega (arith, low, within, far, whole))) dirty all;
}

module _ (old : List ℕ) (size keep i k : ℕ) (within : k < 4096) (far : size ≤ 4096 * i + k) where
  past_kept : (ds : List DirtyBlock) → AllByRecursion (EndsBy size) ds → (i < keep → All (λ (d : DirtyBlock). d.index ≢ i) ds → get_or old k 0 ≡ 0) → get_or (block_after keep ds i old) k 0 ≡ 0
  unfolding block_wanted zeros
  past_kept [] all stay = either (nat_lt i keep) refl
    where
      either : (b : Bool) → nat_lt i keep ≡ b → get_or (if b then old else zeros 4096) k 0 ≡ 0
      either true low = stay (ltb-true i keep low) (All-nil (λ (d : DirtyBlock). d.index ≢ i))
      either false _ = get_or-replicate 4096 k 0 0 within
  past_kept (d ∷ ds) all stay = either (λ (other : d.index ≢ i). past_kept ds all.1 (λ low clean. stay low (All-cons (λ (e : DirtyBlock). e.index ≢ i) d ds other clean))) (d.index == i) refl
    where
      either : (d.index ≢ i → get_or (block_after keep ds i old) k 0 ≡ 0) → (b : Bool) → (d.index == i) ≡ b → get_or (if b then d.bytes.value else block_after keep ds i old) k 0 ≡ 0
      either later true is = let here : d.index ≡ i = eqb-true d.index i is in all.0.past k within (omega (arith, far, here))
      either later false is = later (eqb-false d.index i is)

pub kept_content_end : (s : Store) (old : Content) (size keep : ℕ) (dirty : List DirtyBlock) → KeepsWithin size keep → AllByRecursion (EndsBy size) dirty
    → ((i k : ℕ) → i < keep → All (λ (d : DirtyBlock). d.index ≢ i) dirty → k < 4096 → size ≤ 4096 * i + k → slice_index (content_block s old i) k ≡ 0) → EndsAt (content_block s old) size keep dirty
kept_content_end s old size keep dirty stays all zero_past = record {
  stays = stays;
  begins = begin size dirty all;
  past = λ i k within far. past_kept (content_block s old i) size keep i k within far dirty all (λ low clean. zero_past i k low clean within far);
}

pub content_byte : (s : Store) (content : Content) (wanted : ℕ → List ℕ) → HasItsForm content → size_of content ≤ 70368744177664 → HasDataBlocks s content wanted → (k : ℕ) → k < size_of content
    → byte_of s content k ≡ slice_index (wanted (k / 4096)) (k % 4096)
content_byte s (Inline bytes) wanted form small has k within =
    let first : k / 4096 ≡ 0 = omega (arith, form, within) in
    let low : k % 4096 ≡ k = omega (arith, form, within) in
    ap (λ (b : List ℕ). slice_index b k) has ∙ get_or-take (length bytes) (wanted 0) k 0 within
    ∙ ap (λ (i : ℕ). slice_index (wanted i) k) (sym first) ∙ ap (slice_index (wanted (k / 4096))) (sym low)
content_byte s (Tree tree) wanted form small has k within =
    let room : tree.size ≤ 65536 * 1024 ^ levels_of tree.size = levels_room tree.size small in
    ap (λ (b : List ℕ). slice_index b (k % 4096)) (has (k / 4096) (omega (arith, room, within)))
