-- What follows from the answers of a reader.
use Rattle.std.proofs.Common.{◌≡◌, ◌≢◌, ℕ, zero, suc, ◌+◌, ◌-◌, ◌*◌, ◌/◌, ◌<◌, ◌≤◌, ◌==◌, ◌||◌, Bool, true, false, List, [], ◌∷◌, Option, length, take, drop, min, Contains, slice_index, refl, sym, ap, subst, ◌∙◌, arith}
use Rattle.std.specs.Prelude.{nat_le}
use Rattle.std.proofs.Math.Nat.{min-le_left, min-le_right}
use Rattle.std.proofs.lemmas.Bool.{eqb-false, le-leb}
use Rattle.std.proofs.lemmas.Grind.{same_number_lists}
use Rattle.std.proofs.lemmas.List.{length-take, length-drop, get_or-take, get_or-drop}
use Rattle.sn_layout.specs.Pointers.{levels_of}
use Rattle.sn_layout.specs.declared.tree.BlockTree.{BlockTree}
use Rattle.sn_layout_node.specs.Inode.{size_of}
use Rattle.sn_layout_node.specs.declared.content.Content.{Content}
use Rattle.sn_layout_node.specs.declared.content.Content.TheVariants.{Inline, Tree}
use Rattle.sn_image.specs.Contents.{bytes_of, content_reach}
use Rattle.sn_image.proofs.ByteLemmas.{byte_found}
use Rattle.sn_ondisk.specs.Trees.{Store, entry, pointers_at, tree_reach}
use Rattle.sn_ondisk.proofs.TreeLemmas.{entry-level, reach_has}
use Rattle.sn_tree_read.specs.Paths.{lies_on, path_lies_on, block_lies_on}
use Rattle.sn_tree_read.specs.Reads.{IsPart, IsOutside, IsOutsideAt}
use Rattle.sn_tree_read.proofs.PointerLemmas.{both_lie}

-- ---- parts

pub cut_out : (s : Store) (content : Content) (offset n : ℕ) (bytes : List ℕ)
    → ((block : ℕ) → Contains (content_reach s content) block → length (s block) ≡ 4096)
    → length (bytes_of s content) ≡ size_of content
    → IsPart s content offset n bytes → bytes ≡ take n (drop offset (bytes_of s content))
cut_out s content offset n bytes long whole part =
    let all = bytes_of s content in
    let same : length bytes ≡ length (take n (drop offset all)) =
    part.count ∙ ap (λ (m : ℕ). min n (m - offset)) (sym whole) ∙ sym (length-take n (drop offset all) ∙ ap (min n) (length-drop offset all)) in
    same_number_lists bytes (take n (drop offset all)) same (λ k within.
    let under : k < n = omega (arith, within, part.count, min-le_left n (size_of content - offset)) in
    let inside : offset + k < size_of content = omega (arith, within, part.count, min-le_right n (size_of content - offset)) in
    part.each k within
    ∙ sym (get_or-take n (drop offset all) k 0 under ∙ get_or-drop offset all k 0 ∙ byte_found s content long (offset + k) inside))

-- without the block that it names
pub outside_of : (sectors : ℕ) (s : Store) (content : Content) (offset n : ℕ) (block : Option ℕ) → IsOutsideAt sectors s content offset n block → IsOutside sectors s content offset n
outside_of sectors s (Inline bytes) offset n block none = none
outside_of sectors s (Tree tree) offset n block (k, under, inside, off, met) = (k, under, inside, off)

-- ---- paths

among_level : (ps : List ℕ) (i : ℕ) → slice_index ps i ≢ 0 → Contains ps (slice_index ps i)
among_level [] i some = absurd (some refl)
among_level (p ∷ ps) zero some = (0, omega arith, refl)
among_level (p ∷ ps) (suc i) some = let w = among_level ps i some in (suc w.0, omega (arith, w.1), w.2)

module _ (sectors : ℕ) (s : Store) (tree : BlockTree) (all : (block : ℕ) → Contains (tree_reach s tree) block → 8 * block + 8 ≤ sectors) where
  pointer_lies : (level i : ℕ) → level ≤ levels_of tree.size → lies_on sectors (entry s level tree.pointers i) ≡ true
  pointer_lies level i within = told (entry s level tree.pointers i) (entry-level s level tree.pointers i)
    where
      told : (p : ℕ) → p ≡ slice_index (pointers_at s level tree.pointers) i → lies_on sectors p ≡ true
      told p is = either (p == 0) refl
        where
          either : (b : Bool) → (p == 0) ≡ b → (b || nat_le (8 * p + 8) sectors) ≡ true
          either true e = refl
          either false e =
              let some : p ≢ 0 = eqb-false p 0 e in
              let there : slice_index (pointers_at s level tree.pointers) i ≢ 0 = (λ none. some (is ∙ none)) in
              let among : Contains (pointers_at s level tree.pointers) p = subst (Contains (pointers_at s level tree.pointers)) (sym is) (among_level (pointers_at s level tree.pointers) i there) in
              le-leb (8 * p + 8) sectors (all p (reach_has s tree level p within some among))

  pub paths_lie : (level i : ℕ) → level ≤ levels_of tree.size → path_lies_on sectors s level tree.pointers i ≡ true
  unfolding path_lies_on
  paths_lie zero i within = refl
  paths_lie (suc level) i within = both_lie _ _ (paths_lie level (i / 1024) (omega (arith, within))) (pointer_lies level (i / 1024) (omega (arith, within)))

  pub blocks_lie : (i : ℕ) → block_lies_on sectors s tree i ≡ true
  blocks_lie i = both_lie _ _ (paths_lie (levels_of tree.size) i (omega arith)) (pointer_lies (levels_of tree.size) i (omega arith))
