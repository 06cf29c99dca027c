-- The blocks of a directory, which are read one after the other.
use Rattle.std.specs.Prelude.{◌≡◌, ◌≢◌, ℕ, ◌/◌, ◌<◌, true, List, Option}
use Rattle.std.specs.List.{flat_map, range_with_len}
use Rattle.sn_layout.specs.Pointers.{levels_of}
use Rattle.sn_layout.specs.declared.tree.BlockTree.{BlockTree}
use Rattle.sn_layout_node.specs.Directory.{Link, IsDirectoryBlock}
use Rattle.sn_ondisk.specs.Trees.{Store, entry, data_block}
use Rattle.sn_image.specs.Names.{names_in}
use Rattle.sn_tree_read.specs.Paths.{block_lies_on, block_met}

-- the names in the blocks before block i
abbrev pub names_before : Store → BlockTree → ℕ → List Link
names_before s tree i = flat_map (λ j. names_in (data_block s tree j)) (range_with_len 0 i)

-- Block i is on a device of so many sectors, as each block on the way to it is, and is no hole.
pub record IsThere (sectors : ℕ) (s : Store) (tree : BlockTree) (i : ℕ) : Type 0 where
  pub lies : block_lies_on sectors s tree i ≡ true
  pub no_hole : entry s (levels_of tree.size) tree.pointers i ≢ 0

-- It is there, and spells names.
pub record CanRead (sectors : ℕ) (s : Store) (tree : BlockTree) (i : ℕ) : Type 0 where
  pub there : IsThere sectors s tree i
  pub spelled : IsDirectoryBlock (data_block s tree i)

-- Block i can't be read, and the fault names the block that the way to it ends at.
pub record IsUnread (sectors : ℕ) (s : Store) (tree : BlockTree) (i : ℕ) (block : Option ℕ) : Type 0 where
  pub unread : CanRead sectors s tree i → ⊥
  pub met : block ≡ block_met sectors s tree i

-- A block can't be read that is needed, since the names before it leave the answer open.
abbrev pub IsDamaged : (List Link → Type 0) → ℕ → Store → BlockTree → Type 0
IsDamaged IsOpen sectors s tree = (i : ℕ) × (i < tree.size / 4096) × IsOpen (names_before s tree i) × (CanRead sectors s tree i → ⊥)

-- And the fault names that block.
abbrev pub IsDamagedAt : (List Link → Type 0) → ℕ → Store → BlockTree → Option ℕ → Type 0
IsDamagedAt IsOpen sectors s tree block = (i : ℕ) × (i < tree.size / 4096) × IsOpen (names_before s tree i) × IsUnread sectors s tree i block
