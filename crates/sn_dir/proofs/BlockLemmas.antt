-- One block of a directory: where it is there, and what is in it.
use Rattle.std.proofs.Common.{◌≡◌, ◌≢◌, ℕ, ◌≤◌, true, false, List, [], ◌∷◌, Option, Result, Err, length, sym, ap, subst, ◌∙◌, arith}
use Rattle.std.specs.Prelude.{IsErrAnd}
use Rattle.std.proofs.lemmas.Bool.{true≢false, and_parts}
use Rattle.std.proofs.lemmas.Result.{err_from_is_err_and}
use Rattle.sn_layout.specs.Pointers.{levels_of}
use Rattle.sn_layout.specs.declared.tree.BlockTree.{BlockTree}
use Rattle.sn_layout_node.specs.Directory.{Link, Spells, IsDirectoryBlock, links_bytes}
use Rattle.sn_layout_node.proofs.Links.{length-links}
use Rattle.sn_ondisk.specs.Trees.{Store, entry, data_block}
use Rattle.sn_image.specs.Names.{names_in}
use Rattle.sn_image.proofs.DecodeLemmas.{directory_read}
use Rattle.sn_tree_read.specs.Paths.{lies_on, path_lies_on, block_named, pointer_met, block_met}
use Rattle.sn_tree_read.specs.declared.fault.TreeFault.{TreeFault}
use Rattle.sn_tree_read.specs.declared.fault.TreeFault.TheVariants.{Damaged}
use Rattle.sn_tree_read.proofs.PointerLemmas.{both_lie, met_last}
use Rattle.sn_dir.specs.Blocks.{IsThere, CanRead, IsUnread, IsDamaged, IsDamagedAt}

-- ---- where it is there

module _ (sectors : ℕ) (s : Store) (tree : BlockTree) (i levels pointer : ℕ) (all : levels ≡ levels_of tree.size) where
  same_path : path_lies_on sectors s (levels_of tree.size) tree.pointers i ≡ path_lies_on sectors s levels tree.pointers i
  same_path = ap (λ (n : ℕ). path_lies_on sectors s n tree.pointers i) (sym all)

  pub path_not_there : path_lies_on sectors s levels tree.pointers i ≡ false → IsThere sectors s tree i → ⊥
  path_not_there off there =
      let parts = and_parts (path_lies_on sectors s (levels_of tree.size) tree.pointers i) (lies_on sectors (entry s (levels_of tree.size) tree.pointers i)) there.lies in
      true≢false (sym parts.0 ∙ same_path ∙ off)

  pub met_on_path : block_named (pointer_met sectors s levels tree.pointers i) ≡ block_met sectors s tree i
  met_on_path = ap (λ (n : ℕ). block_named (pointer_met sectors s n tree.pointers i)) all

  module _ (is : pointer ≡ entry s levels tree.pointers i) where
    -- the way to it ends at the block itself, where each block above it is on the device
    pub met_here : path_lies_on sectors s levels tree.pointers i ≡ true → block_named pointer ≡ block_met sectors s tree i
    met_here path = ap block_named (is ∙ sym (met_last sectors s levels tree.pointers i path)) ∙ met_on_path

    last_pointer : pointer ≡ entry s (levels_of tree.size) tree.pointers i
    last_pointer = is ∙ ap (λ (n : ℕ). entry s n tree.pointers i) all

    pub hole_not_there : pointer ≡ 0 → IsThere sectors s tree i → ⊥
    hole_not_there hole there = there.no_hole (sym last_pointer ∙ hole)

    pub off_not_there : lies_on sectors pointer ≡ false → IsThere sectors s tree i → ⊥
    off_not_there off there =
        let parts = and_parts (path_lies_on sectors s (levels_of tree.size) tree.pointers i) (lies_on sectors (entry s (levels_of tree.size) tree.pointers i)) there.lies in
        true≢false (sym parts.1 ∙ ap (lies_on sectors) (sym last_pointer) ∙ off)

    pub is_there : path_lies_on sectors s levels tree.pointers i ≡ true → lies_on sectors pointer ≡ true → pointer ≢ 0 → IsThere sectors s tree i
    is_there path lies some = record {
      lies = both_lie _ _ (same_path ∙ path) (ap (lies_on sectors) (sym last_pointer) ∙ lies);
      no_hole = λ none. some (last_pointer ∙ none);
    }

-- ---- what is in it

-- the names of a block are those that its bytes spell
pub names_read : (bytes block : List ℕ) (names : List Link) → bytes ≡ block → Spells bytes names → names ≡ names_in block
names_read bytes block names same spells = sym (directory_read bytes names spells) ∙ ap names_in same

pub few_names : (names : List Link) → length names ≤ length (links_bytes names)
few_names [] = omega arith
few_names (link ∷ names) = omega (arith, length-links link names, few_names names)

module _ (sectors : ℕ) (s : Store) (tree : BlockTree) (i : ℕ) (bytes : List ℕ) (same : bytes ≡ data_block s tree i) where
  pub can_read : (names : List Link) → IsThere sectors s tree i → Spells bytes names → CanRead sectors s tree i
  can_read names there spells = record { there = there; spelled = (names, subst (λ (b : List ℕ). Spells b names) same spells) }

  cannot_read : (IsDirectoryBlock bytes → ⊥) → CanRead sectors s tree i → ⊥
  cannot_read none can = none (subst (λ (b : List ℕ). IsDirectoryBlock b) (sym same) can.spelled)

-- ---- where it can't be read, with the block that was met

-- the fault with which a call failed, where that is what is answered
pub was_damaged : {T : Type 0} {block : Option ℕ} (result : Result T TreeFault) (fault : TreeFault) → IsErrAnd result (λ answered. answered ≡ fault) → result ≡ Err (Damaged block) → fault ≡ Damaged block
was_damaged result fault answered is = let e = err_from_is_err_and result answered in cc (e.1, e.2, is)

module _ {T : Type 0} {block : Option ℕ} (sectors : ℕ) (s : Store) (tree : BlockTree) (i : ℕ) (result : Result T TreeFault) (fault : TreeFault) (answered : IsErrAnd result (λ handed_on. handed_on ≡ fault)) (is : result ≡ Err (Damaged block)) where
  -- it isn't there
  pub unfetched : ((at : Option ℕ) → fault ≡ Damaged at → (IsThere sectors s tree i → ⊥) × (at ≡ block_met sectors s tree i)) → IsUnread sectors s tree i block
  unfetched none = let told = none block (was_damaged result fault answered is) in record { unread = λ can. told.0 can.there; met = told.1 }

  -- it spells no names
  pub misspelt : (bytes : List ℕ) → bytes ≡ data_block s tree i → (number : ℕ) → block_named number ≡ block_met sectors s tree i → (fault ≡ Damaged (block_named number)) × (IsDirectoryBlock bytes → ⊥) → IsUnread sectors s tree i block
  misspelt bytes same number met none =
      let here : block ≡ block_named number = cc (was_damaged result fault answered is, none.0) in
      record { unread = cannot_read sectors s tree i bytes same none.1; met = here ∙ met }

-- where a block is named, there is one that can't be read
pub somewhere : (IsOpen : List Link → Type 0) (sectors : ℕ) (s : Store) (tree : BlockTree) (block : Option ℕ) → IsDamagedAt IsOpen sectors s tree block → IsDamaged IsOpen sectors s tree
somewhere IsOpen sectors s tree block (i, within, still, none) = (i, within, still, none.unread)
