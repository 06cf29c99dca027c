-- What is seen through the layer of a setting of a size.
use Rattle.std.proofs.Common.{◌≡◌, ℕ, ◌+◌, ◌*◌, ◌/◌, ◌%◌, ◌<◌, ◌≤◌, Bool, true, false, cond, not, ◌&&◌, eqb, ltb, leb, List, length, Some, None, min, refl, sym, ap, ◌∙◌, ◌⊎◌, inl, inr, arith}
use Rattle.std.specs.Option.{unwrap_or}
use Rattle.std.specs.Ordering.{nat_cmp, eq_by_cmp}
use Rattle.std.specs.Cmp.{nat_cmp_total, eq_by_cmp_equiv}
use Rattle.std.specs.FinMap as map
use Rattle.std.proofs.lemmas.Bool.{true≢false, cases_lt, leb-true, leb-false, ltb-false, eqb-true}
use Rattle.std.proofs.lemmas.Nat.{div-add-mod', mod_below}
use Rattle.std.proofs.lemmas.Map.Views.{tells_apart}
use Rattle.std.proofs.lemmas.Map.Lookups.{exact_unsigned}
use Rattle.sn_limits.specs.declared.limits.Limits.{Limits}
use Rattle.sn_model.specs.declared.link.Link.{Link}
use Rattle.sn_model.specs.Tree.{Node, Tree, link_cmp}
use Rattle.sn_model.specs.Changes.{node_with, ownership_of, put_node, with_bytes, resized, cut}
use Rattle.sn_model.proofs.PartLemmas.{cut_is, file_is}
use Rattle.sn_overlay.specs.declared.file_block.FileBlock.{FileBlock}
use Rattle.sn_overlay.specs.declared.node.NodeChange.TheVariants.{Changed}
use Rattle.sn_overlay.specs.declared.node.NodeState.{NodeState}
use Rattle.sn_overlay.specs.Pieces.{zeros, piece, joined}
use Rattle.sn_overlay_change.specs.Blocks.{zeroed}
use Rattle.sn_overlay.specs.Keys.{file_block_cmp, file_block_at}
use Rattle.sn_overlay.specs.Layers.{Layer, through, hides_names, block_seen, node_seen, name_seen}
use Rattle.sn_overlay.specs.Overlays.{no_changes, with_node}
use Rattle.sn_overlay_change.specs.ChangeLayers.{state_of, size_state, cuts_block, with_tail, cut_layer, size_layer}
use Rattle.sn_overlay.proofs.OverlaidLemmas.{exact_file_blocks, file_blocks_total}
use Rattle.sn_overlay.proofs.PieceLemmas.{joined_alike, joined-piece, piece_past}
use Rattle.sn_overlay_change.proofs.ByteLemmas.{length-resized, piece-resized, piece-cut}
use Rattle.sn_overlay_change.proofs.ChangeLemmas.{through_is}

-- a block that isn't kept in the layer: before the cut as before, after it zeros
unkept : (bytes : List ℕ) (size index : ℕ) → ((index + 1) * 4096 ≤ size) ⊎ (length bytes ≤ size) ⊎ (size ≤ index * 4096)
    → (b : Bool) → leb (min size (length bytes)) (index * 4096) ≡ b → cond b (zeros 4096) (piece 4096 bytes index) ≡ piece 4096 (resized bytes size) index
unkept bytes size index where_is true e = told where_is (leb-true (min size (length bytes)) (index * 4096) e)
  where
    told : ((index + 1) * 4096 ≤ size) ⊎ (length bytes ≤ size) ⊎ (size ≤ index * 4096) → min size (length bytes) ≤ index * 4096 → zeros 4096 ≡ piece 4096 (resized bytes size) index
    told (inl h) low = sym (piece-resized bytes size index (inl h) ∙ piece_past 4096 bytes index (omega arith))
    told (inr (inl h)) low = sym (piece-resized bytes size index (inr h) ∙ piece_past 4096 bytes index (omega arith))
    told (inr (inr h)) low = sym (piece_past 4096 (resized bytes size) index (omega (arith, length-resized bytes size)))
unkept bytes size index where_is false e = told where_is (leb-false (min size (length bytes)) (index * 4096) e)
  where
    told : ((index + 1) * 4096 ≤ size) ⊎ (length bytes ≤ size) ⊎ (size ≤ index * 4096) → index * 4096 < min size (length bytes) → piece 4096 bytes index ≡ piece 4096 (resized bytes size) index
    told (inl h) high = sym (piece-resized bytes size index (inl h))
    told (inr (inl h)) high = sym (piece-resized bytes size index (inr h))
    told (inr (inr h)) high = absurd (omega arith)

module _ (tree : Tree) (number size : ℕ) (node : Node) where
  abbrev state : NodeState
  state = size_state size (state_of tree number node)

  abbrev bare : Layer
  bare = with_node no_changes number (Changed state)

  -- without a tail, nothing is kept
  bare_block : (index : ℕ) → (length node.bytes ≤ size) ⊎ (size % 4096 ≡ 0) → block_seen bare number state node.bytes index ≡ piece 4096 (resized node.bytes size) index
  bare_block index whole =
      ap (λ found. unwrap_or found (cond (leb (min size (length node.bytes)) (index * 4096)) (zeros 4096) (piece 4096 node.bytes index))) (map.get-empty file_block_cmp (file_block_at number index))
      ∙ unkept node.bytes size index (told whole (cases_lt (index * 4096) size)) (leb (min size (length node.bytes)) (index * 4096)) refl
    where
      told : (length node.bytes ≤ size) ⊎ (size % 4096 ≡ 0) → (index * 4096 < size) ⊎ (size ≤ index * 4096) → ((index + 1) * 4096 ≤ size) ⊎ (length node.bytes ≤ size) ⊎ (size ≤ index * 4096)
      told (inl h) k = inr (inl h)
      told (inr h) (inl k) = inl (omega (arith, div-add-mod' size 4096))
      told (inr h) (inr k) = inr (inr k)

  -- with one, it is the block through which the cut goes
  tail_block : (index : ℕ) → block_seen (with_tail true bare number size node.bytes) number state node.bytes index ≡ piece 4096 (resized node.bytes size) index
  tail_block index =
      ap (λ found. unwrap_or found (cond (leb (min size (length node.bytes)) (index * 4096)) (zeros 4096) (piece 4096 node.bytes index))) (map.get-insert file_blocks_total map.empty (file_block_at number (size / 4096)) (zeroed (size % 4096) (piece 4096 node.bytes (size / 4096))) (file_block_at number index)
      ∙ ap (cond (eq_by_cmp file_block_cmp (file_block_at number index) (file_block_at number (size / 4096))) (Some (zeroed (size % 4096) (piece 4096 node.bytes (size / 4096))))) (map.get-empty file_block_cmp (file_block_at number index)))
      ∙ told (eq_by_cmp file_block_cmp (file_block_at number index) (file_block_at number (size / 4096))) refl
    where
      other : (index ≡ size / 4096 → ⊥) → (index * 4096 < size) ⊎ (size ≤ index * 4096) → ((index + 1) * 4096 ≤ size) ⊎ (length node.bytes ≤ size) ⊎ (size ≤ index * 4096)
      other apart (inl k) = inl (below (cases_lt index (size / 4096)))
        where
          below : (index < size / 4096) ⊎ (size / 4096 ≤ index) → (index + 1) * 4096 ≤ size
          below (inl h) = omega (arith, div-add-mod' size 4096)
          below (inr h) = absurd (apart (omega (arith, div-add-mod' size 4096)))
      other apart (inr k) = inr (inr k)

      told : (b : Bool) → eq_by_cmp file_block_cmp (file_block_at number index) (file_block_at number (size / 4096)) ≡ b → unwrap_or (cond b (Some (zeroed (size % 4096) (piece 4096 node.bytes (size / 4096)))) None) (cond (leb (min size (length node.bytes)) (index * 4096)) (zeros 4096) (piece 4096 node.bytes index)) ≡ piece 4096 (resized node.bytes size) index
      told true e =
          let same : index ≡ size / 4096 = ap (λ (p : FileBlock). p.index) (tells_apart exact_file_blocks (file_block_at number index) (file_block_at number (size / 4096)) e) in
          sym (ap (λ i. piece 4096 (resized node.bytes size) i) same
          ∙ ap (λ n. piece 4096 (resized node.bytes n) (size / 4096)) (sym (div-add-mod' size 4096))
          ∙ piece-cut node.bytes (size / 4096) (size % 4096) (omega (arith, mod_below size 4096 (omega arith))))
      told false e = unkept node.bytes size index (other apart (cases_lt (index * 4096) size)) (leb (min size (length node.bytes)) (index * 4096)) refl
        where
          apart : index ≡ size / 4096 → ⊥
          apart same = true≢false (sym ((eq_by_cmp_equiv file_blocks_total).refl (file_block_at number index)) ∙ ap (λ i. eq_by_cmp file_block_cmp (file_block_at number index) (file_block_at number i)) same ∙ e)

  -- each block is one of the file that was cut off
  pub cut_block : (b : Bool) → cuts_block node.bytes size ≡ b → (index : ℕ) → block_seen (with_tail b bare number size node.bytes) number state node.bytes index ≡ piece 4096 (resized node.bytes size) index
  cut_block true e index = tail_block index
  cut_block false e index = bare_block index (whole (ltb size (length node.bytes)) (eqb (size % 4096) 0) refl refl e)
    where
      whole : (l m : Bool) → ltb size (length node.bytes) ≡ l → eqb (size % 4096) 0 ≡ m → (l && not m) ≡ false → (length node.bytes ≤ size) ⊎ (size % 4096 ≡ 0)
      whole false m f g h = inl (ltb-false size (length node.bytes) f)
      whole true true f g h = inr (eqb-true (size % 4096) 0 g)
      whole true false f g h = absurd (true≢false h)

  seen_cut : (b : Bool) → cuts_block node.bytes size ≡ b → node_seen (with_tail b bare number size node.bytes) number (Some (Changed state)) (Some node) ≡ Some (node_with node.kind (ownership_of node) (resized node.bytes size))
  seen_cut b e = ap (λ bytes. Some (node_with node.kind (ownership_of node) bytes))
      (joined_alike 4096 size _ _ (cut_block b e)
      ∙ ap (λ n. joined 4096 n (piece 4096 (resized node.bytes size))) (sym (length-resized node.bytes size))
      ∙ joined-piece 4096 (resized node.bytes size) (omega arith))

-- a layer of one node that stays
pub one_node_shows : (layer : Layer) (tree : Tree) (number : ℕ) (s : NodeState) (node seen : Node) → layer.nodes ≡ map.insert map.empty number (Changed s) → layer.names ≡ map.empty → s.fresh ≡ false → map.get tree.nodes number ≡ Some node
    → node_seen layer number (Some (Changed s)) (Some node) ≡ Some seen → through layer tree ≡ put_node tree number seen
one_node_shows layer tree number s node seen nodes names old there is = through_is layer tree (put_node tree number seen)
    (λ q. ap (λ c. node_seen layer q c (map.get tree.nodes q)) (has q) ∙ shown q (eq_by_cmp nat_cmp q number) refl ∙ sym (map.get-insert nat_cmp_total tree.nodes number seen q))
    (λ q. ap (λ m. name_seen layer q (map.get m q) (map.get tree.links q)) names ∙ ap (λ found. name_seen layer q found (map.get tree.links q)) (map.get-empty link_cmp q)
    ∙ ap (λ c. cond (hides_names c) None (map.get tree.links q)) (has q.directory) ∙ unhidden q (eq_by_cmp nat_cmp q.directory number))
  where
    has : (q : ℕ) → map.get layer.nodes q ≡ cond (eq_by_cmp nat_cmp q number) (Some (Changed s)) None
    has q = ap (λ m. map.get m q) nodes ∙ map.get-insert nat_cmp_total map.empty number (Changed s) q ∙ ap (cond (eq_by_cmp nat_cmp q number) (Some (Changed s))) (map.get-empty nat_cmp q)

    shown : (q : ℕ) (b : Bool) → eq_by_cmp nat_cmp q number ≡ b → node_seen layer q (cond b (Some (Changed s)) None) (map.get tree.nodes q) ≡ cond b (Some seen) (map.get tree.nodes q)
    shown q true e = ap (λ n. node_seen layer n (Some (Changed s)) (map.get tree.nodes n)) (tells_apart exact_unsigned q number e) ∙ ap (node_seen layer number (Some (Changed s))) there ∙ is
    shown q false e = refl

    unhidden : (q : Link) (b : Bool) → cond (hides_names (cond b (Some (Changed s)) None)) None (map.get tree.links q) ≡ map.get tree.links q
    unhidden q true = ap (λ b. cond b None (map.get tree.links q)) old
    unhidden q false = refl

-- set size
pub sizes_show : (limits : Limits) (tree after : Tree) (number size : ℕ) → cut limits tree number size ≡ Some after → through (size_layer tree number size) tree ≡ after
sizes_show limits tree after number size e =
    let p = cut_is limits tree number size after e in
    let there = (file_is tree number p.node p.file).0 in
    ap (λ found. through (cut_layer tree number size found) tree) there
    ∙ told p.node there (cuts_block p.node.bytes size) refl
    ∙ p.gives
  where
    told : (node : Node) → map.get tree.nodes number ≡ Some node → (b : Bool) → cuts_block node.bytes size ≡ b
        → through (with_tail b (with_node no_changes number (Changed (size_state size (state_of tree number node)))) number size node.bytes) tree ≡ with_bytes tree number node (resized node.bytes size)
    told node there true f = one_node_shows _ tree number (size_state size (state_of tree number node)) node (node_with node.kind (ownership_of node) (resized node.bytes size)) refl refl refl there (seen_cut tree number size node true f)
    told node there false f = one_node_shows _ tree number (size_state size (state_of tree number node)) node (node_with node.kind (ownership_of node) (resized node.bytes size)) refl refl refl there (seen_cut tree number size node false f)
