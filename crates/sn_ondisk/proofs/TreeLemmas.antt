-- What block trees name and hold.
use Rattle.std.proofs.Common.{◌≡◌, ◌≢◌, ⊎_elim, ℕ, zero, suc, ◌+◌, ◌*◌, ◌/◌, ◌%◌, ◌<◌, ◌≤◌, ◌==◌, Bool, true, false, not, List, [], ◌∷◌, ◌++◌, length, take, replicate, slice_index, Contains, refl, sym, ◌∙◌, ap, subst, arith, if◌then◌else◌}
use Rattle.std.specs.Prelude.{nat_lt, cond, ◌^◌}
use Rattle.std.specs.List.{flat_map, filter}
use Rattle.std.proofs.lemmas.Bool.{eqb-true, eqb-false, ltb-true, ltb-false, cases_lt}
use Rattle.std.proofs.lemmas.List.{get_or_append_left, get_or-append-add, get_or-replicate, get_or-take, length-replicate}
use Rattle.std.proofs.lemmas.List.Elements.{Contains-append_left, Contains-append_right}
use Rattle.sn_device.specs.Sectors.{Contents, AgreesOn}
use Rattle.sn_device.proofs.SectorLemmas.{Contains-first, Contains-more, Contains-cases}
use Rattle.sn_layout.specs.Bytes.{zeros}
use Rattle.sn_layout.specs.Pointers.{levels_of}
use Rattle.sn_layout.specs.declared.tree.BlockTree.{BlockTree}
use Rattle.sn_ondisk.specs.Blocks.{InBlocks, numbers_in}
use Rattle.sn_ondisk.specs.Trees.{Store, store_of, named_by, below, pointers_at, all_pointers, entry, tree_reach, tree_bytes, data_block}
use Rattle.sn_ondisk.specs.TreeLaws.{SameIn, ReadsAlike}
use Rattle.sn_ondisk.proofs.BlockLemmas.{bytes_at-same, length-numbers_in}

-- ---- what a tree reaches

choose : {X : Type 0} (b : Bool) (x y z : X) → (b ≡ false → y ≡ z) → (if b then x else y) ≡ (if b then x else z)
choose true x y z h = refl
choose false x y z h = h refl

-- the numbers in a list but 0
abbrev but_holes : List ℕ → List ℕ
but_holes ps = filter (λ p. not (p == 0)) ps

kept : (b : Bool) (p : ℕ) (fs : List ℕ) → b ≡ false → Contains (if not b then p ∷ fs else fs) p
kept true p fs h = absurd cc
kept false p fs h = Contains-first p fs

kept_more : (b : Bool) (p q : ℕ) (fs : List ℕ) → Contains fs q → Contains (if not b then p ∷ fs else fs) q
kept_more true p q fs among = among
kept_more false p q fs among = Contains-more p fs q among

pub but_holes-has : (ps : List ℕ) (q : ℕ) → q ≢ 0 → Contains ps q → Contains (but_holes ps) q
but_holes-has [] q some (k, within, is) = absurd (omega arith)
but_holes-has (p ∷ ps) q some among = ⊎_elim
    (λ (same : q ≡ p). subst (Contains (but_holes (p ∷ ps))) (sym same) (kept (p == 0) p (but_holes ps) (not_zero p (λ none. some (same ∙ none)))))
    (λ more. kept_more (p == 0) p q (but_holes ps) (but_holes-has ps q some more))
    (Contains-cases p ps q among)
  where
    of_test : (p : ℕ) (b : Bool) → (p == 0) ≡ b → p ≢ 0 → b ≡ false
    of_test p true is other = absurd (other (eqb-true p 0 is))
    of_test p false is other = refl

    not_zero : (p : ℕ) → p ≢ 0 → (p == 0) ≡ false
    not_zero p other = of_test p (p == 0) refl other

pub but_holes-none : (ps : List ℕ) (q : ℕ) → Contains (but_holes ps) q → q ≢ 0
but_holes-none [] q (k, within, is) = absurd (omega arith)
but_holes-none (p ∷ ps) q among = first (but_holes-none ps q) (p == 0) refl among
  where
    first : (Contains (but_holes ps) q → q ≢ 0) → (b : Bool) → (p == 0) ≡ b → Contains (if not b then p ∷ but_holes ps else but_holes ps) q → q ≢ 0
    first rest true is more = rest more
    first rest false is more = ⊎_elim (λ (same : q ≡ p). λ (none : q ≡ 0). eqb-false p 0 is (sym same ∙ none)) rest (Contains-cases p (but_holes ps) q more)

pub level_among : (s : Store) (ps : List ℕ) (depth whole pointer : ℕ) → depth ≤ whole → Contains (pointers_at s depth ps) pointer → Contains (all_pointers s whole ps) pointer
unfolding pointers_at all_pointers
level_among s ps depth zero pointer within among =
    let top : depth ≡ 0 = omega arith in subst (λ n. Contains (pointers_at s n ps) pointer) top among
level_among s ps depth (suc whole) pointer within among = ⊎_elim
    (λ (above : depth < suc whole). Contains-append_left (all_pointers s whole ps) (pointers_at s (suc whole) ps) pointer (level_among s ps depth whole pointer (omega arith) among))
    (λ (last : suc whole ≤ depth). let same : depth ≡ suc whole = omega arith in
    Contains-append_right (all_pointers s whole ps) (pointers_at s (suc whole) ps) pointer (subst (λ n. Contains (pointers_at s n ps) pointer) same among))
    (cases_lt depth (suc whole))

pub reach_has : (s : Store) (tree : BlockTree) (depth pointer : ℕ) → depth ≤ levels_of tree.size → pointer ≢ 0 → Contains (pointers_at s depth tree.pointers) pointer → Contains (tree_reach s tree) pointer
unfolding tree_reach
reach_has s tree depth pointer within some among =
    but_holes-has (all_pointers s (levels_of tree.size) tree.pointers) pointer some (level_among s tree.pointers depth (levels_of tree.size) pointer within among)

pub reach_has_none : (s : Store) (tree : BlockTree) (pointer : ℕ) → Contains (tree_reach s tree) pointer → pointer ≢ 0
unfolding tree_reach
reach_has_none s tree pointer among = but_holes-none (all_pointers s (levels_of tree.size) tree.pointers) pointer among

-- ---- the blocks that a tree reaches are all that it depends on

module _ (s r : Store) where
  -- the block of each of these pointers that isn't a hole is the same
  abbrev pub Agree : List ℕ → Type 0
  Agree ps = (p : ℕ) → Contains ps p → (p == 0) ≡ false → r p ≡ s p

  pub named-same : (p : ℕ) → ((p == 0) ≡ false → r p ≡ s p) → named_by r p ≡ named_by s p
  unfolding named_by
  named-same p agree = choose (p == 0) (zeros 4096) (r p) (s p) agree

  below-same : (p : ℕ) → ((p == 0) ≡ false → r p ≡ s p) → below r p ≡ below s p
  unfolding below
  below-same p agree = choose (p == 0) (replicate 1024 0) (numbers_in 1024 (r p)) (numbers_in 1024 (s p)) (λ h. ap (numbers_in 1024) (agree h))

  -- what each pointer denotes, one after the other
  all-same : (f g : ℕ → List ℕ) → ((p : ℕ) → ((p == 0) ≡ false → r p ≡ s p) → g p ≡ f p) → (ps : List ℕ) → Agree ps → flat_map g ps ≡ flat_map f ps
  all-same f g each [] agree = refl
  all-same f g each (p ∷ ps) agree =
      ap (λ bytes. bytes ++ flat_map g ps) (each p (agree p (Contains-first p ps)))
      ∙ ap (λ rest. f p ++ rest) (all-same f g each ps (λ q among. agree q (Contains-more p ps q among)))

  above : (depth : ℕ) (ps : List ℕ) → Agree (all_pointers s (suc depth) ps) → Agree (all_pointers s depth ps)
  unfolding all_pointers
  above depth ps agree p among = agree p (Contains-append_left (all_pointers s depth ps) (pointers_at s (suc depth) ps) p among)

  pub of_level : (depth : ℕ) (ps : List ℕ) → Agree (all_pointers s depth ps) → Agree (pointers_at s depth ps)
  of_level depth ps agree p among = agree p (level_among s ps depth depth p (omega arith) among)

  pub pointers-same : (depth : ℕ) (ps : List ℕ) → Agree (all_pointers s depth ps) → pointers_at r depth ps ≡ pointers_at s depth ps
  unfolding pointers_at
  pointers-same zero ps agree = refl
  pointers-same (suc depth) ps agree =
      let upper = above depth ps agree in
      ap (flat_map (below r)) (pointers-same depth ps upper) ∙ all-same (below s) (below r) below-same (pointers_at s depth ps) (of_level depth ps upper)

  pub all_pointers-same : (depth : ℕ) (ps : List ℕ) → Agree (all_pointers s depth ps) → all_pointers r depth ps ≡ all_pointers s depth ps
  unfolding all_pointers
  all_pointers-same zero ps agree = refl
  all_pointers-same (suc depth) ps agree =
      ap (λ qs. qs ++ pointers_at r (suc depth) ps) (all_pointers-same depth ps (above depth ps agree))
      ∙ ap (λ qs. all_pointers s depth ps ++ qs) (pointers-same (suc depth) ps agree)

-- ---- a pointer on its path

-- the place of item k of row i, in rows of this width
place_in : ℕ → ℕ → ℕ → ℕ
place_in width zero k = k
place_in width (suc i) k = width + place_in width i k

-- lists of one length, one after the other
flat_map-at : (f : ℕ → List ℕ) (width k : ℕ) → k < width → slice_index (f 0) k ≡ 0 → (ps : List ℕ) → ((p : ℕ) → Contains ps p → length (f p) ≡ width) → (i : ℕ)
    → slice_index (flat_map f ps) (place_in width i k) ≡ slice_index (f (slice_index ps i)) k
unfolding place_in
flat_map-at f width k within none [] each zero = sym none
flat_map-at f width k within none [] each (suc i) = sym none
flat_map-at f width k within none (p ∷ ps) each zero =
    let long : length (f p) ≡ width = each p (Contains-first p ps) in
    get_or_append_left (f p) (flat_map f ps) 0 k (omega arith)
flat_map-at f width k within none (p ∷ ps) each (suc i) =
    let long : length (f p) ≡ width = each p (Contains-first p ps) in
    ap (λ w. slice_index (f p ++ flat_map f ps) (w + place_in width i k)) (sym long)
    ∙ get_or-append-add (f p) (flat_map f ps) (place_in width i k) 0
    ∙ flat_map-at f width k within none ps (λ q among. each q (Contains-more p ps q among)) i

place_in-1024 : (i k : ℕ) → place_in 1024 i k ≡ 1024 * i + k
unfolding place_in
place_in-1024 zero k = omega arith
place_in-1024 (suc i) k = omega (arith, place_in-1024 i k)

place_in-4096 : (i k : ℕ) → place_in 4096 i k ≡ 4096 * i + k
unfolding place_in
place_in-4096 zero k = omega arith
place_in-4096 (suc i) k = omega (arith, place_in-4096 i k)

pub length-below : (s : Store) (p : ℕ) → length (below s p) ≡ 1024
unfolding below
length-below s p = either (p == 0)
  where
    either : (b : Bool) → length (if b then replicate 1024 0 else numbers_in 1024 (s p)) ≡ 1024
    either true = length-replicate {A = ℕ} 1024 0
    either false = length-numbers_in 1024 (s p)

below-hole : (s : Store) (k : ℕ) → k < 1024 → slice_index (below s 0) k ≡ 0
unfolding below
below-hole s k within = get_or-replicate 1024 k 0 0 within

pub entry-level : (s : Store) (depth : ℕ) (ps : List ℕ) (i : ℕ) → entry s depth ps i ≡ slice_index (pointers_at s depth ps) i
unfolding entry pointers_at
entry-level s zero ps i = refl
entry-level s (suc depth) ps i =
    let within : i % 1024 < 1024 = omega arith in
    let split : place_in 1024 (i / 1024) (i % 1024) ≡ i = omega (arith, place_in-1024 (i / 1024) (i % 1024)) in
    let level = pointers_at s depth ps in
    ap (λ p. slice_index (below s p) (i % 1024)) (entry-level s depth ps (i / 1024))
    ∙ sym (flat_map-at (below s) 1024 (i % 1024) within (below-hole s (i % 1024) within) level (λ p among. length-below s p) (i / 1024))
    ∙ ap (λ n. slice_index (flat_map (below s) level) n) split

-- ---- the bytes of a tree

named-hole : (s : Store) (k : ℕ) → k < 4096 → slice_index (named_by s 0) k ≡ 0
unfolding named_by zeros
named-hole s k within = get_or-replicate 4096 k 0 0 within

length-named : (s : Store) (p : ℕ) → ((p == 0) ≡ false → length (s p) ≡ 4096) → length (named_by s p) ≡ 4096
unfolding named_by zeros
length-named s p long = either (p == 0) long
  where
    either : (b : Bool) → (b ≡ false → length (s p) ≡ 4096) → length (if b then replicate 4096 0 else s p) ≡ 4096
    either true of_block = length-replicate {A = ℕ} 4096 0
    either false of_block = of_block refl

pub bytes_of_block : (s : Store) (tree : BlockTree) → ((block : ℕ) → Contains (tree_reach s tree) block → length (s block) ≡ 4096)
    → (i k : ℕ) → k < 4096 → 4096 * i + k < tree.size → slice_index (tree_bytes s tree) (4096 * i + k) ≡ slice_index (data_block s tree i) k
unfolding tree_bytes data_block
bytes_of_block s tree long i k within inside =
    let depth = levels_of tree.size in
    let level = pointers_at s depth tree.pointers in
    let each : (p : ℕ) → Contains level p → length (named_by s p) ≡ 4096 = λ p among. length-named s p (λ some. long p (reach_has s tree depth p (omega arith) (eqb-false p 0 some) among)) in
    get_or-take tree.size (flat_map (named_by s) level) (4096 * i + k) 0 inside
    ∙ ap (λ n. slice_index (flat_map (named_by s) level) n) (sym (place_in-4096 i k))
    ∙ flat_map-at (named_by s) 4096 k within (named-hole s k within) level each i
    ∙ ap (λ p. slice_index (named_by s p) k) (sym (entry-level s depth tree.pointers i))

-- ---- two stores, or two disks, that agree in the blocks that a tree reaches

module _ (s r : Store) (tree : BlockTree) (same : SameIn (tree_reach s tree) s r) where
  agree_all : Agree s r (all_pointers s (levels_of tree.size) tree.pointers)
  unfolding tree_reach
  agree_all p among some = same p (but_holes-has (all_pointers s (levels_of tree.size) tree.pointers) p (eqb-false p 0 some) among)

  agree_last : Agree s r (pointers_at s (levels_of tree.size) tree.pointers)
  agree_last = of_level s r (levels_of tree.size) tree.pointers agree_all

  last-same : pointers_at r (levels_of tree.size) tree.pointers ≡ pointers_at s (levels_of tree.size) tree.pointers
  last-same = pointers-same s r (levels_of tree.size) tree.pointers agree_all

  bytes-same : tree_bytes r tree ≡ tree_bytes s tree
  unfolding tree_bytes
  bytes-same =
      ap (λ ps. take tree.size (flat_map (named_by r) ps)) last-same
      ∙ ap (take tree.size) (all-same s r (named_by s) (named_by r) (named-same s r) (pointers_at s (levels_of tree.size) tree.pointers) agree_last)

  reach-same : tree_reach r tree ≡ tree_reach s tree
  unfolding tree_reach
  reach-same = ap but_holes (all_pointers-same s r (levels_of tree.size) tree.pointers agree_all)

  block-same : (i : ℕ) → data_block r tree i ≡ data_block s tree i
  unfolding data_block
  block-same i =
      let level = pointers_at s (levels_of tree.size) tree.pointers in
      ap (named_by r) (entry-level r (levels_of tree.size) tree.pointers i ∙ ap (λ ps. slice_index ps i) last-same)
      ∙ at_level level agree_last i
      ∙ ap (named_by s) (sym (entry-level s (levels_of tree.size) tree.pointers i))
    where
      at_level : (ps : List ℕ) → Agree s r ps → (i : ℕ) → named_by r (slice_index ps i) ≡ named_by s (slice_index ps i)
      at_level [] agree i = named-same s r 0 (λ some. absurd cc)
      at_level (p ∷ ps) agree zero = named-same s r p (agree p (Contains-first p ps))
      at_level (p ∷ ps) agree (suc i) = at_level ps (λ q among. agree q (Contains-more p ps q among)) i

  pub trees_depend : ReadsAlike s r tree
  trees_depend = record { bytes = bytes-same; reach = reach-same; blocks = block-same }

pub trees_depend_on_sectors : (c d : Contents) (tree : BlockTree) → AgreesOn (InBlocks (tree_reach (store_of c) tree)) c d → ReadsAlike (store_of c) (store_of d) tree
trees_depend_on_sectors c d tree agrees = trees_depend (store_of c) (store_of d) tree (λ block among.
    bytes_at-same c d (8 * block) 8 (λ i from to. agrees.same i (let of_block : block ≡ i / 8 = omega (arith, from, to) in subst (Contains (tree_reach (store_of c) tree)) of_block among)))

-- ---- the levels of a size

module _ (size : ℕ) where
  -- the sum over the three numbers of levels that may not reach it
  abbrev count : Bool → Bool → Bool → ℕ
  count a b c = 0 + cond a 1 0 + cond b 1 0 + cond c 1 0

  room : (a b c : Bool) → nat_lt 65536 size ≡ a → nat_lt 67108864 size ≡ b → nat_lt 68719476736 size ≡ c → size ≤ 70368744177664 → size ≤ 65536 * 1024 ^ count a b c
  room false false false is0 is1 is2 most = omega (arith, most, ltb-false 65536 size is0, ltb-false 67108864 size is1, ltb-false 68719476736 size is2)
  room true false false is0 is1 is2 most = omega (arith, most, ltb-true 65536 size is0, ltb-false 67108864 size is1, ltb-false 68719476736 size is2)
  room true true false is0 is1 is2 most = omega (arith, most, ltb-true 65536 size is0, ltb-true 67108864 size is1, ltb-false 68719476736 size is2)
  room true true true is0 is1 is2 most = omega (arith, most, ltb-true 65536 size is0, ltb-true 67108864 size is1, ltb-true 68719476736 size is2)
  room false true false is0 is1 is2 most = absurd (omega (arith, ltb-false 65536 size is0, ltb-true 67108864 size is1, ltb-false 68719476736 size is2))
  room false false true is0 is1 is2 most = absurd (omega (arith, ltb-false 65536 size is0, ltb-false 67108864 size is1, ltb-true 68719476736 size is2))
  room false true true is0 is1 is2 most = absurd (omega (arith, ltb-false 65536 size is0, ltb-true 67108864 size is1, ltb-true 68719476736 size is2))
  room true false true is0 is1 is2 most = absurd (omega (arith, ltb-true 65536 size is0, ltb-false 67108864 size is1, ltb-true 68719476736 size is2))

  least : (a b c : Bool) → nat_lt 65536 size ≡ a → nat_lt 67108864 size ≡ b → nat_lt 68719476736 size ≡ c → (fewer : ℕ) → fewer < count a b c → 65536 * 1024 ^ fewer < size
  least false false false is0 is1 is2 fewer under = absurd (omega (arith, under))
  least true false false is0 is1 is2 zero under = omega (arith, ltb-true 65536 size is0, ltb-false 67108864 size is1, ltb-false 68719476736 size is2)
  least true false false is0 is1 is2 (suc fewer) under = absurd (omega (arith, under))
  least true true false is0 is1 is2 zero under = omega (arith, ltb-true 65536 size is0, ltb-true 67108864 size is1, ltb-false 68719476736 size is2)
  least true true false is0 is1 is2 (suc zero) under = omega (arith, ltb-true 65536 size is0, ltb-true 67108864 size is1, ltb-false 68719476736 size is2)
  least true true false is0 is1 is2 (suc (suc fewer)) under = absurd (omega (arith, under))
  least true true true is0 is1 is2 zero under = omega (arith, ltb-true 65536 size is0, ltb-true 67108864 size is1, ltb-true 68719476736 size is2)
  least true true true is0 is1 is2 (suc zero) under = omega (arith, ltb-true 65536 size is0, ltb-true 67108864 size is1, ltb-true 68719476736 size is2)
  least true true true is0 is1 is2 (suc (suc zero)) under = omega (arith, ltb-true 65536 size is0, ltb-true 67108864 size is1, ltb-true 68719476736 size is2)
  least true true true is0 is1 is2 (suc (suc (suc fewer))) under = absurd (omega (arith, under))
  least false true false is0 is1 is2 fewer under = absurd (omega (arith, ltb-false 65536 size is0, ltb-true 67108864 size is1, ltb-false 68719476736 size is2))
  least false false true is0 is1 is2 fewer under = absurd (omega (arith, ltb-false 65536 size is0, ltb-false 67108864 size is1, ltb-true 68719476736 size is2))
  least false true true is0 is1 is2 fewer under = absurd (omega (arith, ltb-false 65536 size is0, ltb-true 67108864 size is1, ltb-true 68719476736 size is2))
  least true false true is0 is1 is2 fewer under = absurd (omega (arith, ltb-true 65536 size is0, ltb-false 67108864 size is1, ltb-true 68719476736 size is2))

  pub levels_room : size ≤ 70368744177664 → size ≤ 65536 * 1024 ^ levels_of size
  levels_room = room (nat_lt 65536 size) (nat_lt 67108864 size) (nat_lt 68719476736 size) refl refl refl

  pub levels_least : (fewer : ℕ) → fewer < levels_of size → 65536 * 1024 ^ fewer < size
  levels_least = least (nat_lt 65536 size) (nat_lt 67108864 size) (nat_lt 68719476736 size) refl refl refl
