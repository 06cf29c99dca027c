-- A block tree that is planned anew.
use Rattle.std.specs.Prelude.{◌≡◌, ◌≢◌, ℕ, ◌+◌, ◌*◌, ◌^◌, ◌<◌, ◌≤◌, List, length, slice_index, All}
use Rattle.std.specs.List.{AllByRecursion}
use Rattle.sn_layout.specs.Pointers.{levels_of}
use Rattle.sn_layout.specs.declared.tree.BlockTree.{BlockTree}
use Rattle.sn_ondisk.specs.Trees.{Store, entry, data_block, tree_reach}
use Rattle.sn_ondisk.specs.TreeLaws.{SameIn}
use Rattle.sn_image.specs.Sound.{EndsAtSize}
use Rattle.sn_tree.specs.Drafts.{Draft, numbers_of, grown}
use Rattle.sn_tree.specs.Dirty.{block_after}
use Rattle.sn_ondisk.specs.Counts.{times}
use Rattle.sn_tree.specs.Plans.{Holds}
use Rattle.sn_tree.specs.declared.new_block.NewBlock.{NewBlock}
use Rattle.sn_tree.specs.declared.new_block.DirtyBlock.{DirtyBlock}

-- What is wanted of data blocks ends at a size: none that stays or is dirty begins past it, and past it there are zeros.
pub record EndsAt (old : ℕ → List ℕ) (size keep : ℕ) (dirty : List DirtyBlock) : Type 0 where
  pub stays : 4096 * keep < size + 4096
  pub begins : AllByRecursion (λ (d : DirtyBlock). 4096 * d.index < size) dirty
  pub past : (i k : ℕ) → k < 4096 → size ≤ 4096 * i + k → slice_index (block_after keep dirty i (old i)) k ≡ 0

-- Data block i is a hole only where no dirty block is to be there, and where it stays was one.
pub record IsHole (s : Store) (old : BlockTree) (keep : ℕ) (dirty : List DirtyBlock) (i : ℕ) : Type 0 where
  pub clean : All (λ (d : DirtyBlock). d.index ≢ i) dirty
  pub was : i < keep → entry s (levels_of old.size) old.pointers i ≡ 0

-- The new tree, in any store that has the new blocks and agrees with the old one in the blocks that the old tree reaches: so writes elsewhere don't matter, and none of the old blocks is written.
pub record IsReplanned (s : Store) (old new : BlockTree) (keep : ℕ) (dirty : List DirtyBlock) (added : List NewBlock) (released : List ℕ) : Type 0 where
  -- a data block is the dirty one if there is one, else that of the old tree if it is among those that stay, else zeros
  pub content : (r : Store) → SameIn (tree_reach s old) s r → Holds r added → (i : ℕ) → i < 16 * 1024 ^ levels_of new.size → data_block r new i ≡ block_after keep dirty i (data_block s old i)
  -- none of them is a hole that isn't to be one
  pub holes : (r : Store) → SameIn (tree_reach s old) s r → Holds r added → (i : ℕ) → i < 16 * 1024 ^ levels_of new.size
      → entry r (levels_of new.size) new.pointers i ≡ 0 → IsHole s old keep dirty i
  -- what the new tree reaches, with what is released, is what the old one reaches with what is added, each block as often
  pub reach : (r : Store) → SameIn (tree_reach s old) s r → Holds r added → (block : ℕ) → block ≢ 0
      → times block (tree_reach r new) + times block released ≡ times block (tree_reach s old) + times block (numbers_of added)
  -- where what is wanted ends at the new size, so does the tree: the pointers of indices past it are holes, on every level, and in the last block there are zeros
  pub ends : (r : Store) → SameIn (tree_reach s old) s r → Holds r added → EndsAt (data_block s old) new.size keep dirty → EndsAtSize r new

-- A tree was planned, which may take a path of new blocks for each dirty one and one more. Over a device that tells its bytes it is the one that is wanted.
pub record IsPlanned (Told : Type 0) (s : Store) (old new : BlockTree) (keep : ℕ) (dirty : List DirtyBlock) (old_draft new_draft : Draft) : Type 0 where
  pub added : List NewBlock
  pub released : List ℕ
  pub grew : new_draft ≡ grown old_draft added released
  pub few : length added ≤ (levels_of new.size + 1) * (length dirty + 1)
  pub plans : Told → IsReplanned s old new keep dirty added released
