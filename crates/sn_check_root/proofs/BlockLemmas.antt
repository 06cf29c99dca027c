-- The blocks of a tree, and of a directory.
use Rattle.std.proofs.Common.{◌≡◌, ◌≢◌, ⊎_elim, ℕ, ◌+◌, ◌*◌, ◌/◌, ◌%◌, ◌<◌, ◌≤◌, ◌==◌, Bool, true, false, if◌then◌else◌, List, length, sym, ap, subst, ◌∙◌, arith}
use Rattle.std.specs.Prelude.{⊤}
use Rattle.std.proofs.lemmas.Bool.{true≢false, and_parts, eq-eqb, ne_eqb, cases_eq, cases_lt}
use Rattle.sn_limits.specs.declared.limits.Limits.{Limits}
use Rattle.sn_layout.specs.Pointers.{levels_of}
use Rattle.sn_layout.specs.declared.tree.BlockTree.{BlockTree}
use Rattle.sn_layout_node.specs.Directory.{Link, IsDirectoryBlock}
use Rattle.sn_ondisk.specs.Trees.{Store, entry, data_block}
use Rattle.sn_image.specs.Sound.{HasBlocks}
use Rattle.sn_tree_read.specs.Paths.{lies_on, path_lies_on}
use Rattle.sn_dir.specs.Blocks.{IsThere, CanRead, IsDamaged}
use Rattle.sn_sound.specs.Faults.{record_block, IsDirectoryFault}
use Rattle.sn_sound.specs.Faults as fault
use Rattle.sn_check_root.specs.Reading.{TreeLies}
use Rattle.sn_check_root.specs.Rules.{IsNamesBlock, IsBadBlock, hole, misspelt, HasBadBlock, StandsTwice}

module _ (sectors : ℕ) (s : Store) (tree : BlockTree) (lies : TreeLies sectors s tree) where
  parts : (i : ℕ) → (path_lies_on sectors s (levels_of tree.size) tree.pointers i ≡ true) × (lies_on sectors (entry s (levels_of tree.size) tree.pointers i) ≡ true)
  parts i = and_parts (path_lies_on sectors s (levels_of tree.size) tree.pointers i) (lies_on sectors (entry s (levels_of tree.size) tree.pointers i)) (lies i)

  pub path_lies : (levels i : ℕ) → levels ≡ levels_of tree.size → path_lies_on sectors s levels tree.pointers i ≡ false → ⊥
  path_lies levels i all off = true≢false (sym (parts i).0 ∙ ap (λ (n : ℕ). path_lies_on sectors s n tree.pointers i) (sym all) ∙ off)

  pub there_or_hole : (i top : ℕ) → (IsThere sectors s tree i → ⊥) → IsBadBlock s tree i top top
  there_or_hole i top gone = ⊎_elim
      (λ (none : entry s (levels_of tree.size) tree.pointers i ≡ 0). hole none)
      (λ (some : entry s (levels_of tree.size) tree.pointers i ≢ 0). absurd (gone (record { lies = lies i; no_hole = some })))
      (cases_eq (entry s (levels_of tree.size) tree.pointers i) 0)

  pub can_read : (i : ℕ) → IsNamesBlock s tree i → CanRead sectors s tree i
  can_read i block = record { there = record { lies = lies i; no_hole = block.no_hole }; spelled = block.spelled }

  pub undamaged : ((i : ℕ) → i < tree.size / 4096 → IsNamesBlock s tree i) → IsDamaged (λ names. ⊤) sectors s tree → ⊥
  undamaged each (i, within, still, wrong) = wrong (can_read i (each i within))

-- ---- the block of a record

module _ (s : Store) (inodes : BlockTree) (body number pointer : ℕ) (is : pointer ≡ entry s (levels_of inodes.size) inodes.pointers (number / 32)) where
  pub at_body : pointer ≡ 0 → body ≡ record_block s inodes body number
  at_body none = ap (λ (b : Bool). if b then body else pointer) (sym (eq-eqb pointer 0 none)) ∙ ap (λ (p : ℕ). if p == 0 then body else p) is

  pub at_pointer : pointer ≢ 0 → pointer ≡ record_block s inodes body number
  at_pointer some = ap (λ (b : Bool). if b then body else pointer) (sym (ne_eqb pointer 0 some)) ∙ ap (λ (p : ℕ). if p == 0 then body else p) is

-- ---- the blocks of a directory

-- a block that spells no names is reported itself
pub bad_here : (s : Store) (tree : BlockTree) (i top pointer : ℕ) (bytes : List ℕ) → bytes ≡ data_block s tree i → pointer ≡ entry s (levels_of tree.size) tree.pointers i
    → (IsDirectoryBlock bytes → ⊥) → IsBadBlock s tree i top pointer
bad_here s tree i top pointer bytes same is wrong =
    subst (IsBadBlock s tree i top) (sym is) (misspelt (λ spelled. wrong (subst IsDirectoryBlock (sym same) spelled)))

pub names_block : (sectors : ℕ) (s : Store) (tree : BlockTree) (i : ℕ) (bytes : List ℕ) → bytes ≡ data_block s tree i → IsThere sectors s tree i → IsDirectoryBlock bytes → IsNamesBlock s tree i
names_block sectors s tree i bytes same there spelled = record { no_hole = there.no_hole; spelled = subst IsDirectoryBlock same spelled }

module _ (s : Store) (tree : BlockTree) where
  -- blocks below a number, and one more
  abbrev pub AreNamesBlocks : ℕ → Type 0
  AreNamesBlocks n = (i : ℕ) → i < n → IsNamesBlock s tree i

  pub blocks_none : AreNamesBlocks 0
  blocks_none i within = absurd (omega (arith, within))

  pub blocks_more : (n : ℕ) → AreNamesBlocks n → IsNamesBlock s tree n → AreNamesBlocks (n + 1)
  blocks_more n before here i within = ⊎_elim
      (λ (old : i < n). before i old)
      (λ (new : n ≤ i). let same : n ≡ i = omega (arith, within, new) in subst (IsNamesBlock s tree) same here)
      (cases_lt i n)

  pub has_blocks : tree.size % 4096 ≡ 0 → AreNamesBlocks (tree.size / 4096) → HasBlocks s tree
  has_blocks whole each = record {
    no_hole = λ i within. (each i (omega (arith, whole, within))).no_hole;
    spelled = λ i within. (each i (omega (arith, whole, within))).spelled;
  }

  module _ (limits : Limits) (top : ℕ) where
    bad_block : (names : List Link) (i block : ℕ) → 4096 * i < tree.size → IsBadBlock s tree i top block → IsDirectoryFault limits s tree names top block
    bad_block names i _ within (hole none) = fault.hole i within none
    bad_block names i _ within (misspelt wrong) = fault.misspelt i within wrong

    pub has_bad : (names : List Link) (block : ℕ) → HasBadBlock s tree top block → IsDirectoryFault limits s tree names top block
    has_bad names block (i, within, bad) = bad_block names i block (omega (arith, within)) bad

    pub has_twice : (names : List Link) (block : ℕ) → (block ≡ top) × StandsTwice names → IsDirectoryFault limits s tree names top block
    has_twice names block (here, (name, two)) = subst (IsDirectoryFault limits s tree names top) (sym here) (fault.twice name two)

    pub has_many : (names : List Link) (count : ℕ) → count ≡ length names → limits.names < count → IsDirectoryFault limits s tree names top top
    has_many names count is more = fault.many (omega (arith, is, more))
