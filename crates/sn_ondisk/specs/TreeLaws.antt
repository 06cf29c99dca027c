-- What block trees name and hold.
use Rattle.std.specs.Prelude.{◌≡◌, ◌≢◌, ℕ, ◌+◌, ◌*◌, ◌^◌, ◌<◌, ◌≤◌, List, length, slice_index, Contains}
use Rattle.sn_device.specs.Sectors.{Contents, AgreesOn}
use Rattle.sn_layout.specs.Pointers.{levels_of}
use Rattle.sn_layout.specs.declared.tree.BlockTree.{BlockTree}
use Rattle.sn_ondisk.specs.Blocks.{InBlocks}
use Rattle.sn_ondisk.specs.Trees.{Store, store_of, pointers_at, entry, tree_reach, tree_bytes, data_block}

-- These blocks are the same in both.
abbrev pub SameIn : List ℕ → Store → Store → Type 0
SameIn blocks s r = (block : ℕ) → Contains blocks block → r block ≡ s block

-- A tree has these bytes and reaches these blocks, whichever of the two stores it is read from.
pub record ReadsAlike (s r : Store) (tree : BlockTree) : Type 0 where
  pub bytes : tree_bytes r tree ≡ tree_bytes s tree
  pub reach : tree_reach r tree ≡ tree_reach s tree
  pub blocks : (i : ℕ) → data_block r tree i ≡ data_block s tree i

-- A tree's bytes and reach depend on the blocks that it reaches.
abbrev pub TreesDependOnTheirReach : Type 0
TreesDependOnTheirReach = (s r : Store) (tree : BlockTree) → SameIn (tree_reach s tree) s r → ReadsAlike s r tree

-- So on a disk they depend on the sectors of those blocks.
abbrev pub TreesDependOnTheirSectors : Type 0
TreesDependOnTheirSectors = (c d : Contents) (tree : BlockTree) → AgreesOn (InBlocks (tree_reach (store_of c) tree)) c d → ReadsAlike (store_of c) (store_of d) tree

-- A tree reaches every block that a pointer of one of its levels names.
abbrev pub ReachHasEveryPointer : Type 0
ReachHasEveryPointer = (s : Store) (tree : BlockTree) (depth pointer : ℕ) → depth ≤ levels_of tree.size → pointer ≢ 0 → Contains (pointers_at s depth tree.pointers) pointer → Contains (tree_reach s tree) pointer

-- It reaches no hole.
abbrev pub ReachHasNoHole : Type 0
ReachHasNoHole = (s : Store) (tree : BlockTree) (pointer : ℕ) → Contains (tree_reach s tree) pointer → pointer ≢ 0

-- Looked up on its path, a pointer is the one that is there in its level.
abbrev pub EntriesAreTheirLevel : Type 0
EntriesAreTheirLevel = (s : Store) (depth : ℕ) (pointers : List ℕ) (i : ℕ) → entry s depth pointers i ≡ slice_index (pointers_at s depth pointers) i

-- Where each block that a tree reaches has 4,096 bytes, a byte of the tree is one of its data block. After a shorter one all others would be nearer to the front.
abbrev pub BytesAreOfTheirBlock : Type 0
BytesAreOfTheirBlock = (s : Store) (tree : BlockTree) → ((block : ℕ) → Contains (tree_reach s tree) block → length (s block) ≡ 4096)
    → (i k : ℕ) → k < 4096 → 4096 * i + k < tree.size → slice_index (tree_bytes s tree) (4096 * i + k) ≡ slice_index (data_block s tree i) k

-- With the levels that a size has, a tree has room for it, up to the most that three levels hold: no more are counted.
abbrev pub LevelsHaveRoom : Type 0
LevelsHaveRoom = (size : ℕ) → size ≤ 70368744177664 → size ≤ 65536 * 1024 ^ levels_of size

-- With fewer it has no room.
abbrev pub LevelsAreLeast : Type 0
LevelsAreLeast = (size fewer : ℕ) → fewer < levels_of size → 65536 * 1024 ^ fewer < size
