-- What is read of a tree through a layer.
use Rattle.std.proofs.Common.{◌≡◌, ℕ, Bool, true, false, cond, List, [], length, Option, Some, None, refl, sym, ap, ◌∙◌, arith}
use Rattle.std.specs.Option.{option_map, unwrap_or}
use Rattle.std.specs.FinMap as map
use Rattle.sn_model.specs.Tree.{Node, Tree, link_count}
use Rattle.sn_model.specs.Changes.{ownership_of, node_with}
use Rattle.sn_overlay.specs.declared.file_block.FileBlock.{FileBlock}
use Rattle.sn_overlay.specs.declared.node.NodeChange.{NodeChange}
use Rattle.sn_overlay.specs.declared.node.NodeChange.TheVariants.{Gone, Changed}
use Rattle.sn_overlay.specs.declared.node.SeenNode.{SeenNode}
use Rattle.sn_overlay.specs.Pieces.{zeros, piece, joined}
use Rattle.sn_overlay.specs.Layers.{Layer, through, hides_block, block_seen, bytes_of, node_seen}
use Rattle.sn_overlay.specs.Seen.{seen_of, seen_node, seen_block, CountsNames, LiesOver, shown_state, node_shown, block_shown}
use Rattle.sn_overlay.proofs.PieceLemmas.{length-zeros, length-piece, length-joined, piece-joined, piece_past}
use Rattle.sn_overlay.proofs.LayerLemmas.{get-through_nodes}

seen_with : ℕ → Node → SeenNode
seen_with names node = record { kind = node.kind; ownership = ownership_of node; links = link_count node.kind names; size = length node.bytes }

pub seen_node-through : (layer : Layer) (tree : Tree) (number : ℕ) → CountsNames layer tree (through layer tree) → seen_node (through layer tree) number ≡ node_shown (map.get layer.nodes number) (seen_node tree number)
unfolding seen_with
seen_node-through layer tree number h = ap (option_map (seen_of (through layer tree) number)) (get-through_nodes layer tree number) ∙ told (map.get layer.nodes number) refl
  where
    told : (c : Option NodeChange) → map.get layer.nodes number ≡ c → option_map (seen_of (through layer tree) number) (node_seen layer number c (map.get tree.nodes number)) ≡ node_shown c (seen_node tree number)
    told None e = ap (λ (names : ℕ). option_map (seen_with names) (map.get tree.nodes number)) (h.others number e)
    told (Some (Gone by_close)) e = refl
    told (Some (Changed s)) e =
        let size = length-joined 4096 s.size (block_seen layer number s (bytes_of (map.get tree.nodes number))) in
        let links = sym (h.changed number s e) in
        let both : seen_of (through layer tree) number (node_with s.kind s.ownership (joined 4096 s.size (block_seen layer number s (bytes_of (map.get tree.nodes number))))) ≡ shown_state s = λ i. record { kind = s.kind; ownership = s.ownership; links = links i; size = size i } in
        ap (λ (n : SeenNode). Some n) both

pub seen_block-through : (layer : Layer) (tree : Tree) (file_block : FileBlock) → LiesOver layer tree → seen_block (through layer tree) file_block ≡ block_shown (map.get layer.nodes file_block.file) (map.get layer.blocks file_block) file_block.index (seen_block tree file_block)
seen_block-through layer tree file_block h = ap (λ (n : Option Node). piece 4096 (bytes_of n) file_block.index) (get-through_nodes layer tree file_block.file) ∙ told (map.get layer.nodes file_block.file) refl
  where
    long : (found : Option (List ℕ)) (b : Bool) → map.get layer.blocks file_block ≡ found → length (unwrap_or found (cond b (zeros 4096) (seen_block tree file_block))) ≡ 4096
    long (Some bytes) b e = h.whole.lengths file_block bytes e
    long None true e = length-zeros 4096
    long None false e = length-piece 4096 (bytes_of (map.get tree.nodes file_block.file)) file_block.index

    told : (c : Option NodeChange) → map.get layer.nodes file_block.file ≡ c → piece 4096 (bytes_of (node_seen layer file_block.file c (map.get tree.nodes file_block.file))) file_block.index ≡ block_shown c (map.get layer.blocks file_block) file_block.index (seen_block tree file_block)
    told None e = refl
    told (Some (Gone by_close)) e = piece_past 4096 [] file_block.index (omega arith)
    told (Some (Changed s)) e = piece-joined 4096 s.size (block_seen layer file_block.file s (bytes_of (map.get tree.nodes file_block.file))) file_block.index
        (long (map.get layer.blocks file_block) (hides_block (Some (Changed s)) file_block.index) refl)
        (λ at b k. h.fits.zeros file_block.file s file_block.index at e b k)
