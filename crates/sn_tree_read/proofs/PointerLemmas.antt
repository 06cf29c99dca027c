-- The pointers of a block, read from it.
use Rattle.std.proofs.Common.{◌≡◌, ◌≢◌, ◌==◌, ℕ, zero, suc, ◌-◌, ◌/◌, ◌%◌, ◌<◌, ◌&&◌, Bool, true, false, List, Some, None, slice_index, replicate, refl, sym, ap, ◌∙◌, if◌then◌else◌, arith}
use Rattle.std.proofs.lemmas.Bool.{eqb-true, eq-eqb}
use Rattle.std.proofs.lemmas.List.{get_or-replicate}
use Rattle.sn_layout.specs.Bytes.{numbers_bytes, zeros}
use Rattle.sn_layout.specs.Pointers.{levels_of}
use Rattle.sn_layout.specs.declared.tree.BlockTree.{BlockTree}
use Rattle.sn_layout_node.specs.Indirect.{ArePointers}
use Rattle.sn_ondisk.specs.Blocks.{numbers_in}
use Rattle.sn_ondisk.specs.Trees.{Store, below, entry, named_by, data_block}
use Rattle.sn_tree_read.specs.Paths.{lies_on, path_lies_on, block_named, pointer_met}
use Rattle.sn_ondisk.proofs.BlockLemmas.{numbers_in-numbers_bytes}

not_hole : (pointer : ℕ) → pointer ≢ 0 → (pointer == 0) ≡ false
not_hole pointer some = told (pointer == 0) refl
  where
    told : (b : Bool) → (pointer == 0) ≡ b → b ≡ false
    told true is = absurd (some (eqb-true pointer 0 is))
    told false is = refl

pub below_hole : (s : Store) (pointer index : ℕ) → pointer ≡ 0 → index < 1024 → 0 ≡ slice_index (below s pointer) index
unfolding below
below_hole s pointer index hole within =
    sym (ap (λ (b : Bool). slice_index (if b then replicate 1024 0 else numbers_in 1024 (s pointer)) index) (eq-eqb pointer 0 hole) ∙ get_or-replicate 1024 index 0 0 within)

pub below_read : (s : Store) (pointer : ℕ) (pointers : List ℕ) → pointer ≢ 0 → ArePointers pointers → s pointer ≡ numbers_bytes 4 pointers → below s pointer ≡ pointers
unfolding below
below_read s pointer pointers some are bytes =
    ap (λ (b : Bool). if b then replicate 1024 0 else numbers_in 1024 (s pointer)) (not_hole pointer some)
    ∙ ap (numbers_in 1024) bytes
    ∙ ap (λ (n : ℕ). numbers_in n (numbers_bytes 4 pointers)) (sym are.count)
    ∙ numbers_in-numbers_bytes pointers are.fit

-- ---- one level down

pub entry_down : (s : Store) (level : ℕ) (pointers : List ℕ) (i : ℕ) → level ≢ 0 → entry s level pointers i ≡ slice_index (below s (entry s (level - 1) pointers (i / 1024))) (i % 1024)
unfolding entry
entry_down s zero pointers i some = absurd (some refl)
entry_down s (suc level) pointers i some =
    let same : level ≡ suc level - 1 = omega arith in
    ap (λ (n : ℕ). slice_index (below s (entry s n pointers (i / 1024))) (i % 1024)) same

pub path_down : (sectors : ℕ) (s : Store) (level : ℕ) (pointers : List ℕ) (i : ℕ) → level ≢ 0
    → path_lies_on sectors s level pointers i ≡ (path_lies_on sectors s (level - 1) pointers (i / 1024) && lies_on sectors (entry s (level - 1) pointers (i / 1024)))
unfolding path_lies_on
path_down sectors s zero pointers i some = absurd (some refl)
path_down sectors s (suc level) pointers i some =
    let same : level ≡ suc level - 1 = omega arith in
    ap (λ (n : ℕ). path_lies_on sectors s n pointers (i / 1024) && lies_on sectors (entry s n pointers (i / 1024))) same

pub entry_first : (s : Store) (level : ℕ) (pointers : List ℕ) (i : ℕ) → level ≡ 0 → slice_index pointers i ≡ entry s level pointers i
unfolding entry
entry_first s level pointers i top = ap (λ (n : ℕ). entry s n pointers i) (sym top)

pub path_first : (sectors : ℕ) (s : Store) (level : ℕ) (pointers : List ℕ) (i : ℕ) → level ≡ 0 → path_lies_on sectors s level pointers i ≡ true
unfolding path_lies_on
path_first sectors s level pointers i top = ap (λ (n : ℕ). path_lies_on sectors s n pointers i) top

pub both_lie : (a b : Bool) → a ≡ true → b ≡ true → (a && b) ≡ true
both_lie a b one two = ap (λ (x : Bool). x && b) one ∙ two

pub first_not : (a b : Bool) → a ≡ false → (a && b) ≡ false
first_not a b one = ap (λ (x : Bool). x && b) one

pub second_not : (a b : Bool) → a ≡ true → b ≡ false → (a && b) ≡ false
second_not a b one two = ap (λ (x : Bool). x && b) one ∙ two

-- ---- where the way ends

-- at the pointer itself, where each above it is on the device
pub met_last : (sectors : ℕ) (s : Store) (level : ℕ) (pointers : List ℕ) (i : ℕ) → path_lies_on sectors s level pointers i ≡ true → pointer_met sectors s level pointers i ≡ entry s level pointers i
unfolding pointer_met
met_last sectors s zero pointers i lies = refl
met_last sectors s (suc level) pointers i lies = ap (λ (b : Bool). if b then entry s (suc level) pointers i else pointer_met sectors s level pointers (i / 1024)) lies

-- above it, where one of these doesn't
pub met_above : (sectors : ℕ) (s : Store) (level : ℕ) (pointers : List ℕ) (i : ℕ) → level ≢ 0 → path_lies_on sectors s level pointers i ≡ false
    → pointer_met sectors s (level - 1) pointers (i / 1024) ≡ pointer_met sectors s level pointers i
unfolding pointer_met
met_above sectors s zero pointers i some off = absurd (some refl)
met_above sectors s (suc level) pointers i some off =
    let same : suc level - 1 ≡ level = omega arith in
    ap (λ (n : ℕ). pointer_met sectors s n pointers (i / 1024)) same
    ∙ sym (ap (λ (b : Bool). if b then entry s (suc level) pointers i else pointer_met sectors s level pointers (i / 1024)) off)

-- a pointer that is no hole names its block
pub names_one : (pointer : ℕ) → pointer ≢ 0 → block_named pointer ≡ Some pointer
names_one pointer some = ap (λ (b : Bool). if b then None else Some pointer) (not_hole pointer some)

-- ---- data blocks

pub named_hole : (s : Store) (pointer : ℕ) → pointer ≡ 0 → named_by s pointer ≡ zeros 4096
unfolding named_by
named_hole s pointer hole = ap (λ (b : Bool). if b then zeros 4096 else s pointer) (eq-eqb pointer 0 hole)

pub named_block : (s : Store) (pointer : ℕ) → pointer ≢ 0 → named_by s pointer ≡ s pointer
unfolding named_by
named_block s pointer some = ap (λ (b : Bool). if b then zeros 4096 else s pointer) (not_hole pointer some)

pub data_hole : (s : Store) (tree : BlockTree) (i levels pointer : ℕ) → levels ≡ levels_of tree.size → pointer ≡ entry s levels tree.pointers i → pointer ≡ 0 → data_block s tree i ≡ zeros 4096
unfolding data_block
data_hole s tree i levels pointer all is hole = named_hole s (entry s (levels_of tree.size) tree.pointers i) (ap (λ (n : ℕ). entry s n tree.pointers i) (sym all) ∙ sym is ∙ hole)

pub data_there : (s : Store) (tree : BlockTree) (i levels pointer : ℕ) → levels ≡ levels_of tree.size → pointer ≡ entry s levels tree.pointers i → pointer ≢ 0 → s pointer ≡ data_block s tree i
unfolding data_block
data_there s tree i levels pointer all is some =
    let last : pointer ≡ entry s (levels_of tree.size) tree.pointers i = is ∙ ap (λ (n : ℕ). entry s n tree.pointers i) all in
    sym (ap (named_by s) (sym last) ∙ named_block s pointer some)
