-- What a point needs where files without names were dropped, and nothing else changed.
use Rattle.std.proofs.Common.{◌≡◌, ℕ, ◌+◌, ◌*◌, ◌≤◌, Bool, true, false, cond, eqb, not, List, [], ◌∷◌, Option, Some, length, map, arith}
use Rattle.std.specs.Cmp.{nat_cmp_total}
use Rattle.std.specs.FinMap as fin
use Rattle.std.specs.Ordering.{nat_cmp}
use Rattle.std.proofs.lemmas.Bool.Decides.{nat_tests}
use Rattle.std.proofs.lemmas.List.{length-map}
use Rattle.sn_limits.specs.Versions.{limits_written}
use Rattle.sn_model.specs.declared.link.Link.{Link}
use Rattle.sn_model.specs.Tree.{link_cmp}
use Rattle.sn_model.proofs.LinkLemmas.{exact_links, links_total}
use Rattle.sn_overlay.specs.declared.file_block.FileBlock.{FileBlock}
use Rattle.sn_overlay.specs.declared.node.NodeChange.{NodeChange}
use Rattle.sn_overlay.specs.declared.node.NodeChange.TheVariants.{Gone}
use Rattle.sn_overlay.specs.Keys.{file_block_cmp}
use Rattle.sn_overlay.specs.Layers.{Layer, hides_block, hides_names}
use Rattle.sn_overlay.specs.Merges.{change_over, merge}
use Rattle.sn_overlay.specs.Needs.{need}
use Rattle.sn_overlay.specs.Overlays.{gone, no_changes}
use Rattle.sn_overlay.proofs.NeedLemmas.{len-kept, len-overlaid}
use Rattle.sn_overlay.proofs.OverlaidLemmas.{exact_file_blocks, file_blocks_total}
use Rattle.sn_changed.specs.declared.dropped.DroppedFile.{DroppedFile}
use Rattle.sn_changed.specs.Dropped.{with_drops}

-- ---- a file that is dropped adds a node, and neither name nor block

abbrev none : fin.FinMap nat_cmp NodeChange
none = fin.empty

len_gone : (number : ℕ) (by_close : Bool) → fin.len (gone number by_close).nodes ≤ 1
len_gone number by_close = told (fin.contains_key none number) (fin.len-insert nat_cmp_total none number (Gone by_close))
  where
    told : (b : Bool) → fin.len (fin.insert none number (Gone by_close)) ≡ cond b (fin.len none) (fin.len none + 1) → fin.len (fin.insert none number (Gone by_close)) ≤ 1
    told true e = omega (arith, e, fin.len-empty nat_cmp NodeChange)
    told false e = omega (arith, e, fin.len-empty nat_cmp NodeChange)

module _ (older : Layer) (number : ℕ) (by_close : Bool) where
  abbrev newer : Layer
  newer = gone number by_close

  more_nodes : fin.len (merge older newer).nodes ≤ fin.len older.nodes + 1
  unfolding merge
  more_nodes =
      let laid : ℕ × NodeChange → ℕ × Option NodeChange = λ e. (e.0, Some (change_over (fin.get older.nodes e.0) e.1)) in
      omega (arith, len-overlaid nat_cmp_total (map laid (fin.entries newer.nodes)) older.nodes, length-map {B = ℕ × Option NodeChange} (fin.entries newer.nodes) laid, fin.len-entries newer.nodes, len_gone number by_close)

  no_names : fin.len (merge older newer).names ≤ fin.len older.names
  unfolding merge
  no_names =
      let laid : Link × Option ℕ → Link × Option (Option ℕ) = λ e. (e.0, Some e.1) in
      let kept = λ (link : Link). not (hides_names (fin.get newer.nodes link.directory)) in
      omega (arith, len-overlaid links_total (map laid (fin.entries newer.names)) (fin.retain_keys older.names kept), length-map {B = Link × Option (Option ℕ)} (fin.entries newer.names) laid, fin.len-entries newer.names, fin.len-empty link_cmp (Option ℕ), len-kept links_total exact_links older.names kept)

  no_blocks : fin.len (merge older newer).blocks ≤ fin.len older.blocks
  unfolding merge
  no_blocks =
      let laid : FileBlock × List ℕ → FileBlock × Option (List ℕ) = λ e. (e.0, Some e.1) in
      let kept = λ (file_block : FileBlock). not (hides_block (fin.get newer.nodes file_block.file) file_block.index) in
      omega (arith, len-overlaid file_blocks_total (map laid (fin.entries newer.blocks)) (fin.retain_keys older.blocks kept), length-map {B = FileBlock × Option (List ℕ)} (fin.entries newer.blocks) laid, fin.len-entries newer.blocks, fin.len-empty file_block_cmp (List ℕ), len-kept file_blocks_total exact_file_blocks older.blocks kept)

-- ---- so do all of them

drops_nodes : (files : List DroppedFile) (layer : Layer) → fin.len (with_drops layer files).nodes ≤ fin.len layer.nodes + length files
drops_nodes [] layer = omega arith
drops_nodes (file ∷ files) layer = omega (arith, drops_nodes files (merge layer (gone file.number file.by_close)), more_nodes layer file.number file.by_close)

drops_names : (files : List DroppedFile) (layer : Layer) → fin.len (with_drops layer files).names ≤ fin.len layer.names
drops_names [] layer = omega arith
drops_names (file ∷ files) layer = omega (arith, drops_names files (merge layer (gone file.number file.by_close)), no_names layer file.number file.by_close)

drops_blocks : (files : List DroppedFile) (layer : Layer) → fin.len (with_drops layer files).blocks ≤ fin.len layer.blocks
drops_blocks [] layer = omega arith
drops_blocks (file ∷ files) layer = omega (arith, drops_blocks files (merge layer (gone file.number file.by_close)), no_blocks layer file.number file.by_close)

at_most : (n m k : ℕ) → n ≤ k → m ≤ 0 → 6 * n + 3 * m + cond (eqb n 0) 0 2 ≤ cond (eqb k 0) 0 (6 * k + 2)
at_most n m k h e = grind (arith, nat_tests)

pub drops_need : (files : List DroppedFile) → need limits_written (with_drops no_changes files) ≤ cond (eqb (length files) 0) 0 (6 * length files + 2)
drops_need files =
    let left = with_drops no_changes files in
    at_most (fin.len left.nodes) (fin.len left.names + fin.len left.blocks) (length files)
    (omega (arith, drops_nodes files no_changes, fin.len-empty nat_cmp NodeChange))
    (omega (arith, drops_names files no_changes, drops_blocks files no_changes, fin.len-empty link_cmp (Option ℕ), fin.len-empty file_block_cmp (List ℕ)))
