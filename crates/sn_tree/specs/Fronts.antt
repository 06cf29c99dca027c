-- The first pointers of a tree that gets another number of levels, on the way there.
use Rattle.std.specs.Prelude.{◌≡◌, ◌≢◌, ℕ, suc, ◌+◌, ◌-◌, ◌*◌, ◌^◌, ◌<◌, ◌≤◌, List, [], length, slice_index, slice_index_or}
use Rattle.sn_layout.specs.Pointers.{levels_of}
use Rattle.sn_layout.specs.declared.tree.BlockTree.{BlockTree}
use Rattle.sn_ondisk.specs.Trees.{Store, entry, pointers_at, all_pointers}
use Rattle.sn_tree.specs.Drafts.{Draft, grown}
use Rattle.sn_tree.specs.Dirty.{after}
use Rattle.sn_ondisk.specs.Counts.{times}
use Rattle.sn_tree.specs.Plans.{DataBlocks, named_or, PlansTo}
use Rattle.sn_tree.specs.declared.new_block.NewBlock.{NewBlock}
use Rattle.sn_tree.specs.declared.new_block.DirtyBlock.{DirtyBlock}

-- what a tree is planned from
pub record Aim : Type 0 where
  -- what is in the blocks
  pub store : Store
  -- those that the old tree reaches
  pub was : List ℕ
  -- its data blocks, by what a hole is read as
  pub old : List ℕ → ℕ → List ℕ
  -- how many of them stay
  pub keep : ℕ
  -- those with other bytes
  pub dirty : List DirtyBlock
  -- the build before
  pub draft : Draft

-- data block i of a tree, where a hole is read as these bytes
abbrev pub data_or : List ℕ → Store → BlockTree → ℕ → List ℕ
data_or hole s tree i = named_or hole s (entry s (levels_of tree.size) tree.pointers i)

-- no data block from this one on
abbrev pub AreHolesFrom : ℕ → (List ℕ → ℕ → List ℕ) → Type 0
AreHolesFrom first old = (hole : List ℕ) (i : ℕ) → first ≤ i → old hole i ≡ hole

-- the most new blocks before a data block: a path for each dirty one, and the indirect blocks of one more
abbrev pub front_most : ℕ → ℕ → List DirtyBlock → ℕ
front_most depth end dirty = (depth + 1) * (length dirty - length (after end dirty)) + depth

-- New pointers with the data blocks before `end`.
pub record PlansFront (aim : Aim) (depth end : ℕ) (new : List ℕ) (added : List NewBlock) (released : List ℕ) : Type 0 where
  pub had : DataBlocks
  pub all : (hole : List ℕ) → length (had hole) ≡ end
  pub same : (hole : List ℕ) (i : ℕ) → i < end → slice_index_or (had hole) i [] ≡ aim.old hole i
  pub plans : PlansTo aim.store aim.was had depth 0 aim.keep aim.dirty new added released

-- The pointers of the data blocks before `end` were planned, and these dirty blocks are left.
pub record PlannedFront (Told : Type 0) (aim : Aim) (depth end : ℕ) (left : List DirtyBlock) (new : List ℕ) (draft : Draft) : Type 0 where
  pub added : List NewBlock
  pub released : List ℕ
  pub grew : draft ≡ grown aim.draft added released
  pub few : length added ≤ front_most depth end aim.dirty
  pub rest : left ≡ after end aim.dirty
  pub plans : Told → PlansFront aim depth end new added released

-- All that these pointers reach was released.
pub record IsCut (Told : Type 0) (s : Store) (depth : ℕ) (pointers : List ℕ) (old_draft new_draft : Draft) : Type 0 where
  pub released : List ℕ
  pub grew : new_draft ≡ grown old_draft [] released
  pub all : Told → (block : ℕ) → block ≢ 0 → times block released ≡ times block (all_pointers s depth pointers)

-- Of the pointers one level below these the first ones are left, and all else was released.
pub record IsLowered (Told : Type 0) (s : Store) (depth : ℕ) (old new : List ℕ) (old_draft new_draft : Draft) : Type 0 where
  pub released : List ℕ
  pub grew : new_draft ≡ grown old_draft [] released
  pub count : Told → (block : ℕ) → block ≢ 0 → times block (all_pointers s (suc depth) old) ≡ times block (all_pointers s depth new) + times block released
  pub first : Told → (i : ℕ) → i < 16 * 1024 ^ depth → slice_index (pointers_at s depth new) i ≡ slice_index (pointers_at s (suc depth) old) i

-- The same of a tree's pointers, at a height.
pub record IsFirstOf (Told : Type 0) (s : Store) (tree : BlockTree) (depth : ℕ) (new : List ℕ) (old_draft new_draft : Draft) : Type 0 where
  pub released : List ℕ
  pub grew : new_draft ≡ grown old_draft [] released
  pub count : Told → (block : ℕ) → block ≢ 0 → times block (all_pointers s (levels_of tree.size) tree.pointers) ≡ times block (all_pointers s depth new) + times block released
  pub first : Told → (i : ℕ) → i < 16 * 1024 ^ depth → slice_index (pointers_at s depth new) i ≡ entry s (levels_of tree.size) tree.pointers i
