-- When what is wanted of a tree ends at its size.
use Rattle.std.specs.Prelude.{◌≡◌, true, ℕ, ◌+◌, ◌*◌, ◌<◌, ◌≤◌, List, slice_index}
use Rattle.std.specs.List.{AllByRecursion}
use Rattle.sn_layout.specs.BlockTree.{ends_at_size}
use Rattle.sn_layout.specs.declared.tree.BlockTree.{BlockTree}
use Rattle.sn_ondisk.specs.Trees.{Store, data_block}
use Rattle.sn_image.specs.Sound.{EndsAtSize}
use Rattle.sn_tree.specs.Orders.{KeepsWithin}
use Rattle.sn_tree.specs.Replanned.{EndsAt}
use Rattle.sn_tree.specs.declared.new_block.DirtyBlock.{DirtyBlock}

-- a dirty block that begins before a size, with zeros past it
pub record EndsBy (size : ℕ) (dirty : DirtyBlock) : Type 0 where
  pub begins : 4096 * dirty.index < size
  pub past : (k : ℕ) → k < 4096 → size ≤ 4096 * dirty.index + k → slice_index dirty.bytes.value k ≡ 0

-- That of a tree that doesn't shrink and ends at its own size.
abbrev pub GrownTreesEnd : Type 0
GrownTreesEnd = (s : Store) (old : BlockTree) (size keep : ℕ) (dirty : List DirtyBlock) → EndsAtSize s old → old.size ≤ size → KeepsWithin size keep
    → AllByRecursion (EndsBy size) dirty → EndsAt (data_block s old) size keep dirty

-- That of a tree of which whole blocks stay, whatever it was.
abbrev pub CutTreesEnd : Type 0
CutTreesEnd = (s : Store) (old : BlockTree) (size keep : ℕ) (dirty : List DirtyBlock) → 4096 * keep ≤ size
    → AllByRecursion (EndsBy size) dirty → EndsAt (data_block s old) size keep dirty

-- A tree that ends at its size has sixteen pointers that do, as the record of an inode asks.
abbrev pub EndedTreesHaveEndedPointers : Type 0
EndedTreesHaveEndedPointers = (s : Store) (tree : BlockTree) → EndsAtSize s tree → ends_at_size tree ≡ true
