-- What is seen through the layer of a write.
use Rattle.std.proofs.Common.{◌≡◌, ℕ, zero, suc, ◌+◌, ◌-◌, ◌*◌, ◌/◌, ◌<◌, ◌≤◌, Bool, true, false, cond, leb, nat_lt, nat_le, List, length, Some, refl, sym, ap, ◌∙◌, ◌⊎◌, inl, inr, arith}
use Rattle.std.specs.List.{list_all}
use Rattle.std.specs.Option.{unwrap_or}
use Rattle.std.specs.Ordering.{eq_by_cmp}
use Rattle.std.specs.Cmp.{eq_by_cmp_equiv}
use Rattle.std.specs.FinMap as map
use Rattle.std.proofs.lemmas.Bool.{true≢false, cases_lt, leb-true, ltb-true}
use Rattle.std.proofs.lemmas.Nat.{div-add-mod', mod_below}
use Rattle.std.proofs.lemmas.Map.Views.{tells_apart}
use Rattle.sn_limits.specs.declared.limits.Limits.{Limits}
use Rattle.sn_model.specs.Tree.{Node, Tree}
use Rattle.sn_model.specs.Changes.{node_with, ownership_of, overwritten, with_bytes, written}
use Rattle.sn_model.proofs.ChainLemmas.{and_left}
use Rattle.sn_model.proofs.PartLemmas.{Written, written_is, file_is}
use Rattle.sn_overlay.specs.declared.file_block.FileBlock.{FileBlock}
use Rattle.sn_overlay.specs.declared.node.NodeChange.TheVariants.{Changed}
use Rattle.sn_overlay.specs.declared.node.NodeState.{NodeState}
use Rattle.sn_overlay.specs.Pieces.{zeros, piece, joined}
use Rattle.sn_overlay.specs.Keys.{file_block_cmp, file_block_at}
use Rattle.sn_overlay.specs.Layers.{Layer, through, block_seen, node_seen}
use Rattle.sn_overlay.specs.Overlays.{no_changes, with_node, with_block}
use Rattle.sn_model.specs.FileCalls.{blocks_spanned}
use Rattle.sn_overlay_change.specs.ChangeLayers.{state_of, with_blocks, written_state, writing, write_layer}
use Rattle.sn_overlay.proofs.OverlaidLemmas.{exact_file_blocks, file_blocks_total}
use Rattle.sn_overlay.proofs.PieceLemmas.{joined_alike, joined-piece, piece_past}
use Rattle.sn_overlay_change.proofs.ByteLemmas.{length-overwritten, piece-overwritten}
use Rattle.sn_overlay_change.proofs.SizeLemmas.{one_node_shows}

-- no blocks, and one more
pub blocks_none : (layer : Layer) (number : ℕ) (block : ℕ → List ℕ) (first : ℕ) → with_blocks layer number block first 0 ≡ layer
unfolding with_blocks
blocks_none layer number block first = refl

pub blocks_next : (layer : Layer) (number : ℕ) (block : ℕ → List ℕ) (first n : ℕ) → with_blocks layer number block first (n + 1) ≡ with_block (with_blocks layer number block first n) (file_block_at number (first + n)) (block (first + n))
unfolding with_blocks
blocks_next layer number block first n = let next : n + 1 ≡ suc n = omega arith in ap (with_blocks layer number block first) next

-- so many blocks that are written: nodes and names stay
pub nodes-with_blocks : (layer : Layer) (number : ℕ) (block : ℕ → List ℕ) (first n : ℕ) → (with_blocks layer number block first n).nodes ≡ layer.nodes
unfolding with_blocks
nodes-with_blocks layer number block first zero = refl
nodes-with_blocks layer number block first (suc n) = nodes-with_blocks layer number block first n

pub names-with_blocks : (layer : Layer) (number : ℕ) (block : ℕ → List ℕ) (first n : ℕ) → (with_blocks layer number block first n).names ≡ layer.names
unfolding with_blocks
names-with_blocks layer number block first zero = refl
names-with_blocks layer number block first (suc n) = names-with_blocks layer number block first n

-- a block among them is as the function gives it
pub get-blocks_in : (layer : Layer) (number : ℕ) (block : ℕ → List ℕ) (first n index : ℕ) → first ≤ index → index < first + n → map.get (with_blocks layer number block first n).blocks (file_block_at number index) ≡ Some (block index)
unfolding with_blocks
get-blocks_in layer number block first zero index h k = absurd (omega arith)
get-blocks_in layer number block first (suc n) index h k =
    map.get-insert file_blocks_total (with_blocks layer number block first n).blocks (file_block_at number (first + n)) (block (first + n)) (file_block_at number index)
    ∙ told (eq_by_cmp file_block_cmp (file_block_at number index) (file_block_at number (first + n))) refl (λ l. get-blocks_in layer number block first n index h l)
  where
    told : (b : Bool) → eq_by_cmp file_block_cmp (file_block_at number index) (file_block_at number (first + n)) ≡ b → (index < first + n → map.get (with_blocks layer number block first n).blocks (file_block_at number index) ≡ Some (block index))
        → cond b (Some (block (first + n))) (map.get (with_blocks layer number block first n).blocks (file_block_at number index)) ≡ Some (block index)
    told true e before = ap (λ i. Some (block i)) (sym (ap (λ (p : FileBlock). p.index) (tells_apart exact_file_blocks (file_block_at number index) (file_block_at number (first + n)) e)))
    told false e before = before (below (cases_lt index (first + n)))
      where
        below : (index < first + n) ⊎ (first + n ≤ index) → index < first + n
        below (inl l) = l
        below (inr l) =
            let same : index ≡ first + n = omega arith in
            absurd (true≢false (sym ((eq_by_cmp_equiv file_blocks_total).refl (file_block_at number index)) ∙ ap (λ i. eq_by_cmp file_block_cmp (file_block_at number index) (file_block_at number i)) same ∙ e))

-- another place
abbrev pub IsOutside : ℕ → ℕ → ℕ → FileBlock → Type 0
IsOutside number first n file_block = (file_block.file ≡ number → ⊥) ⊎ (file_block.index < first) ⊎ (first + n ≤ file_block.index)

-- and every other place is as before
pub get-blocks_out : (layer : Layer) (number : ℕ) (block : ℕ → List ℕ) (first n : ℕ) (file_block : FileBlock) → IsOutside number first n file_block → map.get (with_blocks layer number block first n).blocks file_block ≡ map.get layer.blocks file_block
unfolding with_blocks
get-blocks_out layer number block first zero file_block h = refl
get-blocks_out layer number block first (suc n) file_block h =
    map.get-insert file_blocks_total (with_blocks layer number block first n).blocks (file_block_at number (first + n)) (block (first + n)) file_block
    ∙ told (eq_by_cmp file_block_cmp file_block (file_block_at number (first + n))) refl (λ l. get-blocks_out layer number block first n file_block l)
  where
    fewer : IsOutside number first (suc n) file_block → IsOutside number first n file_block
    fewer (inl a) = inl a
    fewer (inr (inl a)) = inr (inl a)
    fewer (inr (inr a)) = inr (inr (omega arith))

    never : file_block ≡ file_block_at number (first + n) → IsOutside number first (suc n) file_block → ⊥
    never same (inl a) = a (ap (λ (p : FileBlock). p.file) same)
    never same (inr (inl a)) = let index : file_block.index ≡ first + n = ap (λ (p : FileBlock). p.index) same in omega arith
    never same (inr (inr a)) = let index : file_block.index ≡ first + n = ap (λ (p : FileBlock). p.index) same in omega arith

    told : (b : Bool) → eq_by_cmp file_block_cmp file_block (file_block_at number (first + n)) ≡ b → (IsOutside number first n file_block → map.get (with_blocks layer number block first n).blocks file_block ≡ map.get layer.blocks file_block)
        → cond b (Some (block (first + n))) (map.get (with_blocks layer number block first n).blocks file_block) ≡ map.get layer.blocks file_block
    told true e before = absurd (never (tells_apart exact_file_blocks file_block (file_block_at number (first + n)) e) h)
    told false e before = before (fewer h)

module _ (tree : Tree) (number offset : ℕ) (bytes : List ℕ) (node : Node) (some : 0 < length bytes) where
  abbrev state : NodeState
  state = written_state (offset + length bytes) (state_of tree number node)

  abbrev new : List ℕ
  new = overwritten node.bytes offset bytes

  abbrev first : ℕ
  first = offset / 4096

  abbrev many : ℕ
  many = blocks_spanned offset (length bytes)

  abbrev bare : Layer
  bare = with_node no_changes number (Changed state)

  abbrev layer : Layer
  layer = with_blocks bare number (piece 4096 new) first many

  -- a block outside of those that are written is as before
  outside : (index : ℕ) → ((index < first) ⊎ (first + many ≤ index)) → ((index + 1) * 4096 ≤ offset) ⊎ (offset + length bytes ≤ index * 4096)
  outside index (inl h) = inl (omega (arith, div-add-mod' offset 4096))
  outside index (inr h) = inr (omega (arith, div-add-mod' (offset + length bytes - 1) 4096, mod_below (offset + length bytes - 1) 4096 (omega arith)))

  unwritten : (index : ℕ) → ((index < first) ⊎ (first + many ≤ index)) → (b : Bool) → leb (length node.bytes) (index * 4096) ≡ b → cond b (zeros 4096) (piece 4096 node.bytes index) ≡ piece 4096 new index
  unwritten index h true e = sym (piece_past 4096 node.bytes index (leb-true (length node.bytes) (index * 4096) e)) ∙ sym (piece-overwritten node.bytes offset bytes index (outside index h))
  unwritten index h false e = sym (piece-overwritten node.bytes offset bytes index (outside index h))

  pub written_block : (index : ℕ) → block_seen layer number state node.bytes index ≡ piece 4096 new index
  written_block index = told (cases_lt index first) (cases_lt index (first + many))
    where
      out : ((index < first) ⊎ (first + many ≤ index)) → block_seen layer number state node.bytes index ≡ piece 4096 new index
      out h = ap (λ found. unwrap_or found (cond (leb (length node.bytes) (index * 4096)) (zeros 4096) (piece 4096 node.bytes index)))
          (get-blocks_out bare number (piece 4096 new) first many (file_block_at number index) (inr h) ∙ map.get-empty file_block_cmp (file_block_at number index))
          ∙ unwritten index h (leb (length node.bytes) (index * 4096)) refl

      told : (index < first) ⊎ (first ≤ index) → (index < first + many) ⊎ (first + many ≤ index) → block_seen layer number state node.bytes index ≡ piece 4096 new index
      told (inl h) k = out (inl h)
      told (inr h) (inr k) = out (inr k)
      told (inr h) (inl k) = ap (λ found. unwrap_or found (cond (leb (length node.bytes) (index * 4096)) (zeros 4096) (piece 4096 node.bytes index)))
          (get-blocks_in bare number (piece 4096 new) first many index h k)

  pub length-new : length new ≡ state.size
  length-new = omega (arith, length-overwritten node.bytes offset bytes)

  seen_written : node_seen layer number (Some (Changed state)) (Some node) ≡ Some (node_with node.kind (ownership_of node) new)
  seen_written = ap (λ b. Some (node_with node.kind (ownership_of node) b))
      (joined_alike 4096 state.size _ _ written_block
      ∙ ap (λ n. joined 4096 n (piece 4096 new)) (sym length-new)
      ∙ joined-piece 4096 new (omega arith))

  write_shows : map.get tree.nodes number ≡ Some node → through layer tree ≡ with_bytes tree number node new
  write_shows there = one_node_shows layer tree number state node (node_with node.kind (ownership_of node) new)
      (nodes-with_blocks bare number (piece 4096 new) first many)
      (names-with_blocks bare number (piece 4096 new) first many)
      refl there seen_written

-- a write that can be applied has bytes
pub writes_some : (limits : Limits) (tree after : Tree) (number offset : ℕ) (bytes : List ℕ) → Written limits tree number offset bytes after → 0 < length bytes
writes_some limits tree after number offset bytes p = ltb-true 0 (length bytes) (and_left _ (nat_le (offset + length bytes) limits.largest_file) (and_left _ (list_all (λ b. nat_lt b 256) bytes) p.fits))

pub writes_show : (limits : Limits) (tree after : Tree) (number offset : ℕ) (bytes : List ℕ) → written limits tree number offset bytes ≡ Some after → through (write_layer tree number offset bytes) tree ≡ after
writes_show limits tree after number offset bytes e =
    let p = written_is limits tree number offset bytes after e in
    let there = (file_is tree number p.node p.file).0 in
    ap (λ found. through (writing tree number offset bytes found) tree) there
    ∙ write_shows tree number offset bytes p.node (writes_some limits tree after number offset bytes p) there
    ∙ p.gives
