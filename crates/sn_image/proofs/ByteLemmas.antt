-- The bytes of contents, and those of blocks on a disk.
use Rattle.std.proofs.Common.{◌≡◌, ◌≢◌, ℕ, zero, suc, ◌+◌, ◌*◌, ◌/◌, ◌%◌, ◌^◌, ◌<◌, ◌≤◌, ◌==◌, Bool, true, false, if◌then◌else◌, List, [], ◌∷◌, flat_map, length, replicate, Contains, slice_index, refl, sym, ap, ◌∙◌, arith, length-append}
use Rattle.std.specs.List.{AllByRecursion}
use Rattle.std.proofs.Math.Nat.{min-eq_left}
use Rattle.std.proofs.lemmas.Bool.{eqb-false}
use Rattle.std.proofs.lemmas.List.{length-take, length-replicate}
use Rattle.sn_device.specs.Sectors.{Contents, AreSectors, sector_at}
use Rattle.sn_device.proofs.SectorLemmas.{Contains-first, Contains-more}
use Rattle.sn_layout.specs.Bytes.{zeros}
use Rattle.sn_layout.specs.Geometry.{IsIn}
use Rattle.sn_layout.specs.Pointers.{levels_of}
use Rattle.sn_layout.specs.declared.geometry.Area.TheVariants.{Data}
use Rattle.sn_layout.specs.declared.tree.BlockTree.{BlockTree}
use Rattle.sn_layout_node.specs.Inode.{size_of}
use Rattle.sn_layout_node.specs.declared.content.Content.{Content}
use Rattle.sn_layout_node.specs.declared.content.Content.TheVariants.{Inline, Tree}
use Rattle.sn_ondisk.specs.Blocks.{bytes_at}
use Rattle.sn_ondisk.specs.Trees.{Store, store_of, named_by, pointers_at, tree_bytes, tree_reach}
use Rattle.sn_ondisk.proofs.BlockLemmas.{length-bytes_at}
use Rattle.sn_ondisk.proofs.CountLemmas.{length-pointers_at}
use Rattle.sn_ondisk.proofs.TreeLemmas.{bytes_of_block, reach_has, levels_room}
use Rattle.sn_image.specs.Contents.{bytes_of, byte_of, content_reach}
use Rattle.sn_image.specs.Sound.{IsBlock}
use Rattle.sn_image.proofs.PieceLemmas.{all_append}

-- ---- a byte in its own block

pub byte_found : (s : Store) (content : Content) → ((block : ℕ) → Contains (content_reach s content) block → length (s block) ≡ 4096) → (k : ℕ) → k < size_of content → slice_index (bytes_of s content) k ≡ byte_of s content k
byte_found s (Inline bytes) long k within = refl
byte_found s (Tree tree) long k within =
    let parts : 4096 * (k / 4096) + k % 4096 ≡ k = omega arith in
    let inside : 4096 * (k / 4096) + k % 4096 < tree.size = omega (arith, parts, within) in
    sym (ap (λ (n : ℕ). slice_index (tree_bytes s tree) n) parts) ∙ bytes_of_block s tree long (k / 4096) (k % 4096) (omega arith) inside

-- ---- how many bytes a tree has

rows : (f : ℕ → List ℕ) (width : ℕ) (ps : List ℕ) → ((p : ℕ) → Contains ps p → length (f p) ≡ width) → length (flat_map f ps) ≡ width * length ps
rows f width [] each = omega arith
rows f width (p ∷ ps) each =
    omega (arith, length-append (f p) (flat_map f ps), each p (Contains-first p ps), rows f width ps (λ q among. each q (Contains-more p ps q among)))

module _ (s : Store) where
  named_long : (p : ℕ) → (p ≢ 0 → length (s p) ≡ 4096) → length (named_by s p) ≡ 4096
  unfolding named_by zeros
  named_long p long = told (p == 0) refl
    where
      told : (b : Bool) → (p == 0) ≡ b → length (if b then replicate 4096 0 else s p) ≡ 4096
      told true e = length-replicate {A = ℕ} 4096 0
      told false e = long (λ none. eqb-false p 0 e none)

  pub tree_long : (tree : BlockTree) → length tree.pointers ≡ 16 → tree.size ≤ 70368744177664 → ((block : ℕ) → Contains (tree_reach s tree) block → length (s block) ≡ 4096) → length (tree_bytes s tree) ≡ tree.size
  unfolding tree_bytes
  tree_long tree count most long =
      let depth = levels_of tree.size in
      let level = pointers_at s depth tree.pointers in
      let all : length (flat_map (named_by s) level) ≡ 4096 * length level = rows (named_by s) 4096 level (λ p among. named_long p (λ some. long p (reach_has s tree depth p (omega arith) some among))) in
      let wide : length level ≡ 16 * 1024 ^ depth = length-pointers_at s depth tree.pointers ∙ ap (λ (m : ℕ). m * 1024 ^ depth) count in
      let enough : tree.size ≤ length (flat_map (named_by s) level) = omega (arith, all, wide, levels_room tree.size most) in
      length-take tree.size (flat_map (named_by s) level) ∙ min-eq_left enough

-- ---- blocks on a disk

bytes_each : (bytes : List ℕ) → ((k : ℕ) → slice_index bytes k < 256) → AllByRecursion (λ b. b < 256) bytes
bytes_each [] each = tt
bytes_each (b ∷ bytes) each = (each 0, bytes_each bytes (λ k. each (suc k)))

sectors_fit : (c : Contents) (at n : ℕ) → AreSectors c → at + n ≤ length c → AllByRecursion (λ b. b < 256) (bytes_at c at n)
unfolding bytes_at
sectors_fit c at zero are within = tt
sectors_fit c at (suc n) are within =
    all_append (λ b. b < 256) (sector_at c at) (bytes_at c (at + 1) n) (bytes_each (sector_at c at) (are at (omega (arith, within))).bytes_fit) (sectors_fit c (at + 1) n are (omega (arith, within)))

pub data_whole : (c : Contents) (n block : ℕ) → AreSectors c → 8 * n ≤ length c → IsIn n Data block → IsBlock (store_of c block)
data_whole c n block are on_disk is_in =
    let within : 8 * block + 8 ≤ length c = omega (arith, is_in.below, on_disk) in
    record { size = length-bytes_at c (8 * block) 8 are within; each = sectors_fit c (8 * block) 8 are within }
