-- The bytes of a content whose data blocks are known, and the data blocks of one whose bytes are.
use Rattle.std.proofs.Common.{◌≡◌, ◌≢◌, ⊎_elim, ℕ, zero, suc, ◌+◌, ◌-◌, ◌*◌, ◌/◌, ◌%◌, ◌<◌, ◌≤◌, ◌==◌, Bool, true, false, if◌then◌else◌, List, [], ◌∷◌, ◌++◌, flat_map, length, replicate, Contains, get_or, refl, sym, ap, subst, ◌∙◌, arith, length-append}
use Rattle.std.specs.Prelude.{◌^◌}
use Rattle.std.proofs.Math.Nat.{min-eq_left}
use Rattle.std.proofs.lemmas.Bool.{cases_lt, eqb-false, ne_eqb}
use Rattle.std.proofs.lemmas.List.{length-take, length-replicate, get_or-replicate, get_or-take, get_or_append_left, get_or-append_right, get_or-append-add, get_or_past, ext_get_or}
use Rattle.std.proofs.lemmas.List.Elements.{Contains-get_or}
use Rattle.sn_device.proofs.SectorLemmas.{Contains-first, Contains-more, Contains-cases}
use Rattle.sn_image.specs.Contents.{bytes_of, content_reach}
use Rattle.sn_image.specs.Sound.{ContentEnds}
use Rattle.sn_image.proofs.ByteLemmas.{tree_long}
use Rattle.sn_layout.specs.Bytes.{zeros}
use Rattle.sn_layout.specs.Pointers.{levels_of}
use Rattle.sn_layout.specs.declared.tree.BlockTree.{BlockTree}
use Rattle.sn_layout_node.specs.Inode.{size_of}
use Rattle.sn_layout_node.specs.declared.content.Content.{Content}
use Rattle.sn_layout_node.specs.declared.content.Content.TheVariants.{Inline, Tree}
use Rattle.sn_ondisk.proofs.CountLemmas.{length-pointers_at}
use Rattle.sn_ondisk.proofs.TreeLemmas.{bytes_of_block, entry-level, levels_room, reach_has}
use Rattle.sn_ondisk.specs.Trees.{Store, data_block, entry, named_by, pointers_at, tree_bytes, tree_reach}
use Rattle.sn_overlay.specs.Pieces.{joined, piece}
use Rattle.sn_overlay.proofs.PieceLemmas.{get_or-joined, get_or-piece, length-joined, length-piece}
use Rattle.sn_content.specs.Contents.{HasDataBlocks, content_block, inline_block}

-- ---- lists of one length, one after the other

place_of : (xs : List ℕ) (x : ℕ) → Contains xs x → (i : ℕ) × (i < length xs) × (get_or xs i 0 ≡ x)
place_of [] x (k, within, is) = absurd (omega arith)
place_of (y ∷ ys) x among = ⊎_elim
    (λ (same : x ≡ y). (0, omega arith, sym same))
    (λ more. let w = place_of ys x more in (suc w.0, omega (arith, w.1), w.2))
    (Contains-cases y ys x among)

module _ (f : ℕ → List ℕ) where
  abbrev AreWide : List ℕ → Type 0
  AreWide ps = (p : ℕ) → Contains ps p → length (f p) ≡ 4096

  rows : (ps : List ℕ) → AreWide ps → length (flat_map f ps) ≡ 4096 * length ps
  rows [] each = omega arith
  rows (p ∷ ps) each = omega (arith, length-append (f p) (flat_map f ps), each p (Contains-first p ps), rows ps (λ q among. each q (Contains-more p ps q among)))

  row_at : (ps : List ℕ) → AreWide ps → (i k : ℕ) → k < 4096 → i < length ps → get_or (flat_map f ps) (4096 * i + k) 0 ≡ get_or (f (get_or ps i 0)) k 0
  row_at [] each i k within inside = absurd (omega (arith, inside))
  row_at (p ∷ ps) each zero k within inside =
      let long : length (f p) ≡ 4096 = each p (Contains-first p ps) in
      let place : 4096 * 0 + k ≡ k = omega arith in
      ap (λ (n : ℕ). get_or (f p ++ flat_map f ps) n 0) place ∙ get_or_append_left (f p) (flat_map f ps) 0 k (omega (arith, long, within))
  row_at (p ∷ ps) each (suc i) k within inside =
      let place : 4096 * suc i + k ≡ length (f p) + (4096 * i + k) = omega (arith, each p (Contains-first p ps)) in
      ap (λ (n : ℕ). get_or (f p ++ flat_map f ps) n 0) place
      ∙ get_or-append-add (f p) (flat_map f ps) (4096 * i + k) 0
      ∙ row_at ps (λ q among. each q (Contains-more p ps q among)) i k within (omega (arith, inside))

-- ---- bytes from data blocks

module _ (r : Store) (tree : BlockTree) (wanted : ℕ → List ℕ) (count : length tree.pointers ≡ 16) (most : tree.size ≤ 70368744177664)
    (has : (i : ℕ) → i < 16 * 1024 ^ levels_of tree.size → data_block r tree i ≡ wanted i) (long : (i : ℕ) → length (wanted i) ≡ 4096) where
  abbrev depth : ℕ
  depth = levels_of tree.size

  abbrev level : List ℕ
  level = pointers_at r depth tree.pointers

  wide : length level ≡ 16 * 1024 ^ depth
  wide = length-pointers_at r depth tree.pointers ∙ ap (λ (m : ℕ). m * 1024 ^ depth) count

  named : (i : ℕ) → i < length level → named_by r (get_or level i 0) ≡ wanted i
  unfolding data_block
  named i within = ap (named_by r) (sym (entry-level r depth tree.pointers i)) ∙ has i (subst (λ (n : ℕ). i < n) wide within)

  each : (p : ℕ) → Contains level p → length (named_by r p) ≡ 4096
  each p among = let w = place_of level p among in ap (λ (q : ℕ). length (named_by r q)) (sym w.2) ∙ ap (λ (b : List ℕ). length b) (named w.0 w.1) ∙ long w.0

  enough : tree.size ≤ 4096 * length level
  enough = omega (arith, wide, levels_room tree.size most)

  size_is : length (tree_bytes r tree) ≡ tree.size
  unfolding tree_bytes
  size_is = length-take tree.size (flat_map (named_by r) level) ∙ min-eq_left (omega (arith, rows (named_by r) level each, enough))

  byte_is : (k : ℕ) → k < tree.size → get_or (tree_bytes r tree) k 0 ≡ get_or (wanted (k / 4096)) (k % 4096) 0
  unfolding tree_bytes
  byte_is k inside =
      let place : k ≡ 4096 * (k / 4096) + k % 4096 = omega arith in
      let within : k / 4096 < length level = omega (arith, enough, inside) in
      get_or-take tree.size (flat_map (named_by r) level) k 0 inside
      ∙ ap (λ (n : ℕ). get_or (flat_map (named_by r) level) n 0) place
      ∙ row_at (named_by r) level each (k / 4096) (k % 4096) (omega arith) within
      ∙ ap (λ (b : List ℕ). get_or b (k % 4096) 0) (named (k / 4096) within)

  tree_joined : tree_bytes r tree ≡ joined 4096 tree.size wanted
  tree_joined = ext_get_or 0 _ _ (size_is ∙ sym (length-joined 4096 tree.size wanted)) (λ k within.
      let inside : k < tree.size = omega (arith, within, size_is) in
      byte_is k inside ∙ sym (get_or-joined 4096 tree.size wanted k inside))

-- a content that can be read: a tree has sixteen pointers, and no more bytes than there is room for below them
abbrev pub IsRoomy : Content → Type 0
IsRoomy (Inline bytes) = length bytes ≤ 64
IsRoomy (Tree tree) = (length tree.pointers ≡ 16) × (tree.size ≤ 70368744177664)

pub content_joined : (r : Store) (content : Content) (wanted : ℕ → List ℕ) → IsRoomy content → HasDataBlocks r content wanted → ((i : ℕ) → length (wanted i) ≡ 4096)
    → bytes_of r content ≡ joined 4096 (size_of content) wanted
content_joined r (Inline bytes) wanted few has long =
    ext_get_or 0 _ _ (sym (length-joined 4096 (length bytes) wanted)) (λ k within.
    let first : 0 ≡ k / 4096 = omega (arith, few, within) in
    let place : k ≡ k % 4096 = omega (arith, few, within) in
    ap (λ (b : List ℕ). get_or b k 0) has ∙ get_or-take (length bytes) (wanted 0) k 0 within
    ∙ ap (λ (i : ℕ). get_or (wanted i) k 0) first ∙ ap (λ (n : ℕ). get_or (wanted (k / 4096)) n 0) place
    ∙ sym (get_or-joined 4096 (length bytes) wanted k within))
content_joined r (Tree tree) wanted roomy has long = tree_joined r tree wanted roomy.0 roomy.1 has long

-- ---- data blocks from bytes

module _ (s : Store) (tree : BlockTree) (whole : (block : ℕ) → Contains (tree_reach s tree) block → length (s block) ≡ 4096) where
  long_named : (p : ℕ) → (p ≢ 0 → length (s p) ≡ 4096) → length (named_by s p) ≡ 4096
  unfolding named_by zeros
  long_named p long = told (p == 0) refl
    where
      told : (b : Bool) → (p == 0) ≡ b → length (if b then replicate 4096 0 else s p) ≡ 4096
      told true e = length-replicate {A = ℕ} 4096 0
      told false e = long (eqb-false p 0 e)

  reached : (i : ℕ) → entry s (levels_of tree.size) tree.pointers i ≢ 0 → Contains (tree_reach s tree) (entry s (levels_of tree.size) tree.pointers i)
  reached i some =
      let row = pointers_at s (levels_of tree.size) tree.pointers in
      let same = entry-level s (levels_of tree.size) tree.pointers i in
      ⊎_elim
      (λ (inside : i < length row). subst (λ (p : ℕ). Contains (tree_reach s tree) p) (sym same)
      (reach_has s tree (levels_of tree.size) (get_or row i 0) (omega arith) (λ none. some (same ∙ none)) (Contains-get_or row i 0 inside)))
      (λ (past : length row ≤ i). absurd (some (same ∙ get_or_past row i 0 past)))
      (cases_lt i (length row))

  pub long_block : (i : ℕ) → length (data_block s tree i) ≡ 4096
  unfolding data_block
  long_block i = long_named (entry s (levels_of tree.size) tree.pointers i) (λ some. whole _ (reached i some))

inline_at : (bytes : List ℕ) (i k : ℕ) → length bytes ≤ 64 → k < 4096 → get_or (inline_block bytes i) k 0 ≡ get_or bytes (i * 4096 + k) 0
unfolding zeros
inline_at bytes zero k few within =
    let place : k ≡ 0 * 4096 + k = omega arith in
    ⊎_elim
    (λ (inside : k < length bytes). get_or_append_left bytes (replicate (4096 - length bytes) 0) 0 k inside)
    (λ (past : length bytes ≤ k). get_or-append_right bytes (replicate (4096 - length bytes) 0) (length bytes) k 0 refl past
    ∙ get_or-replicate (4096 - length bytes) (k - length bytes) 0 0 (omega (arith, within, past)) ∙ sym (get_or_past bytes k 0 past))
    (cases_lt k (length bytes))
    ∙ ap (λ (n : ℕ). get_or bytes n 0) place
inline_at bytes (suc i) k few within =
    ap (λ (b : Bool). get_or (if b then bytes ++ zeros (4096 - length bytes) else zeros 4096) k 0) (ne_eqb (suc i) 0 (λ is. absurd (omega (arith, is))))
    ∙ get_or-replicate 4096 k 0 0 within ∙ sym (get_or_past bytes (suc i * 4096 + k) 0 (omega (arith, few)))

inline_long : (bytes : List ℕ) (i : ℕ) → length bytes ≤ 64 → length (inline_block bytes i) ≡ 4096
unfolding zeros
inline_long bytes zero few = omega (arith, few, length-append bytes (replicate (4096 - length bytes) 0), length-replicate {A = ℕ} (4096 - length bytes) 0)
inline_long bytes (suc i) few =
    ap (λ (b : Bool). length (if b then bytes ++ zeros (4096 - length bytes) else zeros 4096)) (ne_eqb (suc i) 0 (λ is. absurd (omega (arith, is)))) ∙ length-replicate {A = ℕ} 4096 0

-- a data block of a content that ends at its size is that piece of its bytes
pub old_piece : (s : Store) (content : Content) → IsRoomy content → ContentEnds s content → ((block : ℕ) → Contains (content_reach s content) block → length (s block) ≡ 4096)
    → (i : ℕ) → content_block s content i ≡ piece 4096 (bytes_of s content) i
old_piece s (Inline bytes) few ends whole i =
    ext_get_or 0 _ _ (inline_long bytes i few ∙ sym (length-piece 4096 bytes i)) (λ k within.
    let short : k < 4096 = omega (arith, within, inline_long bytes i few) in
    inline_at bytes i k few short ∙ sym (get_or-piece 4096 bytes i k short))
old_piece s (Tree tree) roomy ends whole i =
    let long = tree_long s tree roomy.0 roomy.1 whole in
    ext_get_or 0 _ _ (long_block s tree whole i ∙ sym (length-piece 4096 (tree_bytes s tree) i)) (λ k within.
    let short : k < 4096 = omega (arith, within, long_block s tree whole i) in
    let place : 4096 * i + k ≡ i * 4096 + k = omega arith in
    ⊎_elim
    (λ (inside : 4096 * i + k < tree.size). sym (bytes_of_block s tree whole i k short inside) ∙ ap (λ (n : ℕ). get_or (tree_bytes s tree) n 0) place)
    (λ (past : tree.size ≤ 4096 * i + k). ends.bytes i k short past ∙ sym (get_or_past (tree_bytes s tree) (i * 4096 + k) 0 (omega (arith, past, place, long))))
    (cases_lt (4096 * i + k) tree.size)
    ∙ sym (get_or-piece 4096 (tree_bytes s tree) i k short))
