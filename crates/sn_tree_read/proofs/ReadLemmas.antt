-- The bytes of a tree, read block by block.
use Rattle.std.proofs.Common.{◌≡◌, ◌⊎◌, inl, inr, ℕ, ◌+◌, ◌-◌, ◌/◌, ◌%◌, ◌<◌, ◌≤◌, true, List, ◌++◌, length, take, drop, replicate, slice_index, sym, ap, subst, ◌∙◌, arith, length-append}
use Rattle.std.proofs.lemmas.Bool.{cases_lt}
use Rattle.std.proofs.lemmas.List.{get_or_append_left, get_or-append-add, get_or-take, get_or-drop, take_all, drop-replicate, take-replicate}
use Rattle.sn_layout.specs.Bytes.{zeros}
use Rattle.sn_layout.specs.declared.tree.BlockTree.{BlockTree}
use Rattle.sn_layout_node.specs.declared.content.Content.TheVariants.{Tree}
use Rattle.sn_image.specs.Contents.{byte_of}
use Rattle.sn_ondisk.specs.Trees.{Store, data_block}
use Rattle.sn_tree_read.specs.Paths.{block_lies_on}

-- these are the bytes from an offset on, each of a block that is on the device
pub record IsReadTo (sectors : ℕ) (s : Store) (tree : BlockTree) (offset : ℕ) (bytes : List ℕ) : Type 0 where
  pub each : (k : ℕ) → k < length bytes → slice_index bytes k ≡ byte_of s (Tree tree) (offset + k)
  pub lies : (k : ℕ) → k < length bytes → block_lies_on sectors s tree ((offset + k) / 4096) ≡ true

-- a part of zeros
pub zero_part : (bytes block : List ℕ) (from count long len : ℕ) → len ≡ length bytes → long ≡ len + count → from + count ≤ 4096 → block ≡ zeros 4096
    → take long bytes ++ replicate (long - len) 0 ≡ bytes ++ take count (drop from block)
unfolding zeros
zero_part bytes block from count long len is_len is_long room are =
    let more : long - len ≡ count = omega (arith, is_long) in
    let part : take count (drop from block) ≡ replicate count 0 =
    ap (λ (b : List ℕ). take count (drop from b)) are ∙ ap (take count) (drop-replicate from 4096 0) ∙ take-replicate count (4096 - from) 0 (omega (arith, room)) in
    ap (λ (b : List ℕ). b ++ replicate (long - len) 0) (take_all long bytes (omega (arith, is_len, is_long)))
    ∙ ap (λ (n : ℕ). bytes ++ replicate n 0) more
    ∙ ap (λ (b : List ℕ). bytes ++ b) (sym part)

-- bytes of one block more
module _ (sectors : ℕ) (s : Store) (tree : BlockTree) (offset at count : ℕ) (bytes block : List ℕ) (so_far : at ≡ offset + length bytes) (room : at % 4096 + count ≤ 4096) (part-long : length (take count (drop (at % 4096) block)) ≡ count) where
  same_block : (j : ℕ) → j < count → (at + j) / 4096 ≡ at / 4096
  same_block j under = omega (arith, room, under)

  same_place : (j : ℕ) → j < count → (at + j) % 4096 ≡ at % 4096 + j
  same_place j under = omega (arith, room, under)

  module _ (is : block ≡ data_block s tree (at / 4096)) (before : IsReadTo sectors s tree offset bytes) (lies : block_lies_on sectors s tree (at / 4096) ≡ true) where
    abbrev longer : List ℕ
    longer = bytes ++ take count (drop (at % 4096) block)

    new_byte : (j : ℕ) → j < count → slice_index longer (length bytes + j) ≡ byte_of s (Tree tree) (offset + (length bytes + j))
    new_byte j under =
        let here : offset + (length bytes + j) ≡ at + j = omega (arith, so_far) in
        get_or-append-add bytes (take count (drop (at % 4096) block)) j 0
        ∙ get_or-take count (drop (at % 4096) block) j 0 under
        ∙ get_or-drop (at % 4096) block j 0
        ∙ ap (λ (b : List ℕ). slice_index b (at % 4096 + j)) is
        ∙ ap (slice_index (data_block s tree (at / 4096))) (sym (same_place j under))
        ∙ ap (λ (n : ℕ). slice_index (data_block s tree n) ((at + j) % 4096)) (sym (same_block j under))
        ∙ ap (λ (n : ℕ). slice_index (data_block s tree (n / 4096)) (n % 4096)) (sym here)

    each_byte : (k : ℕ) → k < length longer → slice_index longer k ≡ byte_of s (Tree tree) (offset + k)
    each_byte k within = told (cases_lt k (length bytes))
      where
        told : (k < length bytes) ⊎ (length bytes ≤ k) → slice_index longer k ≡ byte_of s (Tree tree) (offset + k)
        told (inl old) = get_or_append_left bytes (take count (drop (at % 4096) block)) 0 k old ∙ before.each k old
        told (inr new) =
            let split : length bytes + (k - length bytes) ≡ k = omega (arith, new) in
            let under : k - length bytes < count = omega (arith, within, new, part-long, length-append bytes (take count (drop (at % 4096) block))) in
            subst (λ (n : ℕ). slice_index longer n ≡ byte_of s (Tree tree) (offset + n)) split (new_byte (k - length bytes) under)

    each_block : (k : ℕ) → k < length longer → block_lies_on sectors s tree ((offset + k) / 4096) ≡ true
    each_block k within = told (cases_lt k (length bytes))
      where
        told : (k < length bytes) ⊎ (length bytes ≤ k) → block_lies_on sectors s tree ((offset + k) / 4096) ≡ true
        told (inl old) = before.lies k old
        told (inr new) =
            let under : k - length bytes < count = omega (arith, within, new, part-long, length-append bytes (take count (drop (at % 4096) block))) in
            let here : (offset + k) / 4096 ≡ at / 4096 = ap (λ n. n / 4096) (let sum : offset + k ≡ at + (k - length bytes) = omega (arith, so_far, new) in sum) ∙ same_block (k - length bytes) under in
            ap (λ (n : ℕ). block_lies_on sectors s tree n) here ∙ lies

    pub read_more : IsReadTo sectors s tree offset longer
    read_more = record { each = each_byte; lies = each_block }
