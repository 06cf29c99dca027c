-- What follows from reading a directory.
use Rattle.std.specs.Prelude.{ℕ, ◌+◌, ◌*◌, ◌/◌, ◌<◌, ◌≤◌, Contains}
use Rattle.sn_layout.specs.declared.tree.BlockTree.{BlockTree}
use Rattle.sn_ondisk.specs.Trees.{Store, tree_reach}
use Rattle.sn_image.specs.Sound.{HasBlocks}
use Rattle.sn_dir.specs.Blocks.{CanRead}

-- Where the blocks of a directory are sound, and each block that it reaches is on the device, each of them can be read: no call answers `Damaged`.
abbrev pub SoundDirectoriesAreRead : Type 0
SoundDirectoriesAreRead = (sectors : ℕ) (s : Store) (tree : BlockTree) → HasBlocks s tree
    → ((block : ℕ) → Contains (tree_reach s tree) block → 8 * block + 8 ≤ sectors)
    → (i : ℕ) → i < tree.size / 4096 → CanRead sectors s tree i
