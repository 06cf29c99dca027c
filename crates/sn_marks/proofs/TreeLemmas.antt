-- From the walk of a tree to what is said of the tree.
use Rattle.std.proofs.Common.{◌≡◌, ◌≢◌, inl, inr, ⊎_elim, ℕ, zero, suc, ◌+◌, ◌-◌, ◌*◌, ◌/◌, ◌%◌, ◌<◌, ◌≤◌, List, length, slice_index, refl, sym, ap, subst, ◌∙◌, arith}
use Rattle.std.specs.Prelude.{◌^◌}
use Rattle.std.proofs.Math.Nat.{pow-succ'}
use Rattle.std.proofs.lemmas.Bool.{cases_lt}
use Rattle.std.proofs.lemmas.List.{get_or_past}
use Rattle.sn_layout.specs.Pointers.{levels_of}
use Rattle.sn_layout.specs.declared.tree.BlockTree.{BlockTree}
use Rattle.sn_model.specs.declared.fault.Damage.{Damage}
use Rattle.sn_ondisk.specs.Trees.{Store, named_by, below, entry, tree_reach, data_block}
use Rattle.sn_image.specs.Sound.{EndsAtSize}
use Rattle.sn_sound.specs.Faults.{IsTreeFault, pointer, byte, holder_of}
use Rattle.sn_marks.specs.Marks.{Marks}
use Rattle.sn_marks.specs.Trees as trees
use Rattle.sn_marks.specs.Walks.{EndsBelow, IsPast, HasByte, BreaksBelow, IsWalked, IsBroken, astray, misspelt}
use Rattle.sn_marks.proofs.WalkLemmas.{ends_hole}

-- the place of a pointer one level down, in bytes
lower_place : (i height : ℕ) → i / 1024 * (4096 * 1024 ^ suc height) + i % 1024 * (4096 * 1024 ^ height) ≡ i * (4096 * 1024 ^ height)
lower_place i height = ap (λ (w : ℕ). i / 1024 * (4096 * w) + i % 1024 * (4096 * 1024 ^ height)) (pow-succ' 1024 height) ∙ split (i / 1024) (i % 1024) i (1024 ^ height) (omega arith)
  where
    split : (q r i w : ℕ) → 1024 * q + r ≡ i → q * (4096 * (1024 * w)) + r * (4096 * w) ≡ i * (4096 * w)
    split q r i w is = subst (λ (x : ℕ). q * (4096 * (1024 * w)) + r * (4096 * w) ≡ x * (4096 * w)) is (omega arith)

module _ (s : Store) (tree : BlockTree) where
  -- what ends below a pointer
  module _ (ends : (j : ℕ) → j < length tree.pointers → EndsBelow s tree.size (levels_of tree.size) (0 + j * (4096 * 1024 ^ levels_of tree.size)) (slice_index tree.pointers j)) where
    at_top : (i : ℕ) → EndsBelow s tree.size (levels_of tree.size) (i * (4096 * 1024 ^ levels_of tree.size)) (slice_index tree.pointers i)
    at_top i = ⊎_elim
        (λ (within : i < length tree.pointers). subst (λ (at : ℕ). EndsBelow s tree.size (levels_of tree.size) at (slice_index tree.pointers i)) (let same : 0 + i * (4096 * 1024 ^ levels_of tree.size) ≡ i * (4096 * 1024 ^ levels_of tree.size) = omega arith in same) (ends i within))
        (λ (past : length tree.pointers ≤ i). subst (EndsBelow s tree.size (levels_of tree.size) (i * (4096 * 1024 ^ levels_of tree.size))) (sym (get_or_past tree.pointers i 0 past)) (ends_hole s tree.size (levels_of tree.size) (i * (4096 * 1024 ^ levels_of tree.size))))
        (cases_lt i (length tree.pointers))

    one_lower : (height first p j : ℕ) → j < 1024 → EndsBelow s tree.size (suc height) first p → EndsBelow s tree.size height (first + j * (4096 * 1024 ^ height)) (slice_index (below s p) j)
    unfolding EndsBelow
    one_lower height first p j within above = above.1 j within

    pub at_depth : (depth height i : ℕ) → depth + height ≡ levels_of tree.size → EndsBelow s tree.size height (i * (4096 * 1024 ^ height)) (entry s depth tree.pointers i)
    unfolding entry
    at_depth zero height i whole = subst (λ (h : ℕ). EndsBelow s tree.size h (i * (4096 * 1024 ^ h)) (slice_index tree.pointers i)) (let same : levels_of tree.size ≡ height = omega (arith, whole) in same) (at_top i)
    at_depth (suc depth) height i whole =
        let above : EndsBelow s tree.size (suc height) (i / 1024 * (4096 * 1024 ^ suc height)) (entry s depth tree.pointers (i / 1024)) = at_depth depth (suc height) (i / 1024) (omega (arith, whole)) in
        subst (λ (at : ℕ). EndsBelow s tree.size height at (slice_index (below s (entry s depth tree.pointers (i / 1024))) (i % 1024))) (lower_place i height)
        (one_lower height (i / 1024 * (4096 * 1024 ^ suc height)) (entry s depth tree.pointers (i / 1024)) (i % 1024) (omega arith) above)

    own_end : (height first p : ℕ) → EndsBelow s tree.size height first p → tree.size ≤ first → p ≡ 0
    unfolding EndsBelow
    own_end zero first p it past = it.0 past
    own_end (suc height) first p it past = it.0 past

    last_end : (first p : ℕ) → EndsBelow s tree.size 0 first p → (k : ℕ) → k < 4096 → tree.size ≤ first + k → slice_index (named_by s p) k ≡ 0
    unfolding EndsBelow
    last_end first p it k within past = it.1 k within past

    last_bytes : (i k : ℕ) → k < 4096 → tree.size ≤ 4096 * i + k → slice_index (data_block s tree i) k ≡ 0
    unfolding data_block
    last_bytes i k within past =
        last_end (i * (4096 * 1024 ^ 0)) (entry s (levels_of tree.size) tree.pointers i) (at_depth (levels_of tree.size) 0 i (omega arith)) k within (omega (arith, past))

    pub ends_at_size : EndsAtSize s tree
    ends_at_size = record {
      pointers = λ depth i within past. own_end (levels_of tree.size - depth) (i * (4096 * 1024 ^ (levels_of tree.size - depth))) (entry s depth tree.pointers i) (at_depth depth (levels_of tree.size - depth) i (omega (arith, within))) past;
      bytes = last_bytes;
    }

  -- ---- what breaks below a pointer

  module _ (top : ℕ) where
    entry_lower : (depth i j : ℕ) → j < 1024 → slice_index (below s (entry s depth tree.pointers i)) j ≡ entry s (suc depth) tree.pointers (1024 * i + j)
    unfolding entry
    entry_lower depth i j within =
        let row : i ≡ (1024 * i + j) / 1024 = omega (arith, within) in
        let place : j ≡ (1024 * i + j) % 1024 = omega (arith, within) in
        ap (λ (k : ℕ). slice_index (below s (entry s depth tree.pointers i)) k) place ∙ ap (λ (k : ℕ). slice_index (below s (entry s depth tree.pointers k)) ((1024 * i + j) % 1024)) row

    place_lower : (i j height : ℕ) → i * (4096 * 1024 ^ suc height) + j * (4096 * 1024 ^ height) ≡ (1024 * i + j) * (4096 * 1024 ^ height)
    place_lower i j height = ap (λ (w : ℕ). i * (4096 * w) + j * (4096 * 1024 ^ height)) (pow-succ' 1024 height) ∙ split (1024 ^ height)
      where
        split : (w : ℕ) → i * (4096 * (1024 * w)) + j * (4096 * w) ≡ (1024 * i + j) * (4096 * w)
        split w = omega arith

    past_fault : (depth height i block : ℕ) → depth + height ≡ levels_of tree.size → IsPast tree.size (i * (4096 * 1024 ^ height)) (entry s depth tree.pointers i) (holder_of s tree top depth i) block → IsTreeFault s tree top block
    past_fault depth height i block whole is =
        let same : height ≡ levels_of tree.size - depth = omega (arith, whole) in
        subst (IsTreeFault s tree top) (sym is.here) (pointer depth i (omega (arith, whole)) (subst (λ (h : ℕ). tree.size ≤ i * (4096 * 1024 ^ h)) same is.past) is.some)

    byte_fault : (depth i block : ℕ) → depth ≡ levels_of tree.size → HasByte s tree.size (i * (4096 * 1024 ^ 0)) (entry s depth tree.pointers i) block → IsTreeFault s tree top block
    unfolding data_block
    byte_fault depth i block whole is =
        subst (IsTreeFault s tree top) (ap (λ (d : ℕ). entry s d tree.pointers i) (sym whole) ∙ sym is.here)
        (byte i is.k is.within (omega (arith, is.past)) (subst (λ (d : ℕ). slice_index (named_by s (entry s d tree.pointers i)) is.k ≢ 0) whole is.some))

    pub tree_fault : (height depth i block : ℕ) → depth + height ≡ levels_of tree.size → BreaksBelow s tree.size height (i * (4096 * 1024 ^ height)) (entry s depth tree.pointers i) (holder_of s tree top depth i) block → IsTreeFault s tree top block
    unfolding BreaksBelow
    tree_fault zero depth i block whole (inl past) = past_fault depth 0 i block whole past
    tree_fault zero depth i block whole (inr tail) = byte_fault depth i block (omega (arith, whole)) tail
    tree_fault (suc height) depth i block whole (inl past) = past_fault depth (suc height) i block whole past
    tree_fault (suc height) depth i block whole (inr lower) =
        let j = lower.0 in
        let row : i ≡ (1024 * i + j) / 1024 = omega (arith, lower.1) in
        let holder : entry s depth tree.pointers i ≡ holder_of s tree top (suc depth) (1024 * i + j) = ap (λ (k : ℕ). entry s depth tree.pointers k) row in
        tree_fault height (suc depth) (1024 * i + j) block (omega (arith, whole))
        (subst (λ (h : ℕ). BreaksBelow s tree.size height ((1024 * i + j) * (4096 * 1024 ^ height)) (entry s (suc depth) tree.pointers (1024 * i + j)) h block) holder
        (subst (λ (p : ℕ). BreaksBelow s tree.size height ((1024 * i + j) * (4096 * 1024 ^ height)) p (entry s depth tree.pointers i) block) (entry_lower depth i j lower.1)
        (subst (λ (at : ℕ). BreaksBelow s tree.size height at (slice_index (below s (entry s depth tree.pointers i)) j) (entry s depth tree.pointers i) block) (place_lower i j height) lower.2)))

  -- ---- the whole tree

  module _ (n k : ℕ) (a b : List ℕ) where
    pub tree_walked : IsWalked n k s tree.size (levels_of tree.size) 0 tree.pointers a b → Marks n k (tree_reach s tree) a b × EndsAtSize s tree
    unfolding tree_reach
    tree_walked walked = (walked.marks, ends_at_size walked.ends)

  module _ (n k top : ℕ) (a : List ℕ) where
    first_entry : (i : ℕ) → slice_index tree.pointers i ≡ entry s 0 tree.pointers i
    unfolding entry
    first_entry i = refl

    pub tree_broken : (damage : Damage) (block : ℕ) → IsBroken n k s tree.size (levels_of tree.size) 0 tree.pointers top a damage block → trees.StandsInTree n k s tree top a damage block
    unfolding tree_reach
    tree_broken _ _ (astray damage block wrong) = trees.astray damage block wrong
    tree_broken _ _ (misspelt block j within breaks) =
        trees.misspelt block (tree_fault top (levels_of tree.size) 0 j block (omega arith)
        (subst (λ (p : ℕ). BreaksBelow s tree.size (levels_of tree.size) (j * (4096 * 1024 ^ levels_of tree.size)) p top block) (first_entry j)
        (subst (λ (at : ℕ). BreaksBelow s tree.size (levels_of tree.size) at (slice_index tree.pointers j) top block) (let same : 0 + j * (4096 * 1024 ^ levels_of tree.size) ≡ j * (4096 * 1024 ^ levels_of tree.size) = omega arith in same) breaks)))
