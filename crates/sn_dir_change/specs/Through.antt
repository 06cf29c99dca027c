-- Going through the blocks of a directory.
use Rattle.std.specs.Prelude.{◌≡◌, ◌≢◌, ℕ, ◌+◌, ◌-◌, ◌*◌, ◌/◌, ◌%◌, ◌<◌, ◌≤◌, List, [], ◌∷◌, ◌++◌, length, All, Contains}
use Rattle.std.specs.List.{flat_map, range_with_len, AllByRecursion}
use Rattle.sn_layout.specs.declared.tree.BlockTree.{BlockTree}
use Rattle.sn_layout_node.specs.Directory.{Link, AreLinks, IsDirectoryBlock}
use Rattle.sn_layout_node.specs.declared.content.Content.TheVariants.{Tree}
use Rattle.sn_ondisk.specs.Trees.{Store, data_block}
use Rattle.sn_image.specs.Names.{names_in, names_of}
use Rattle.sn_image.specs.Sound.{AreOnce}
use Rattle.sn_tree.specs.Dirty.{IsFrom, block_after}
use Rattle.sn_tree.specs.declared.new_block.DirtyBlock.{DirtyBlock}
use Rattle.sn_dir_change.specs.Changes.{ArePuts, IsChanged, first_block, needed_changes}
use Rattle.sn_dir_change.specs.UnderWay.{AreFull, IsUnderWay}
use Rattle.sn_dir_change.specs.declared.name_change.NameChange.{NameChange}

-- what a data block is, with the changed ones
abbrev pub block_now : Store → BlockTree → List DirtyBlock → ℕ → List ℕ
block_now s tree dirty i = block_after (tree.size / 4096) dirty i (data_block s tree i)

-- the names in so many of them
abbrev pub names_to : Store → BlockTree → List DirtyBlock → ℕ → List Link
names_to s tree dirty count = flat_map (λ i. names_in (block_now s tree dirty i)) (range_with_len 0 count)

-- the names in the blocks from one on, as they were
abbrev pub names_from : Store → BlockTree → ℕ → List Link
names_from s tree i = flat_map (λ j. names_in (data_block s tree j)) (range_with_len i (tree.size / 4096 - i))

-- changed blocks before this one, which spell names
pub record AreDirty (i : ℕ) (dirty : List DirtyBlock) : Type 0 where
  pub rise : IsFrom 0 dirty
  pub before : AllByRecursion (λ (d : DirtyBlock). d.index < i) dirty
  pub spelled : AllByRecursion (λ (d : DirtyBlock). IsDirectoryBlock d.bytes.value) dirty

-- A block with these bytes was appended to the others.
pub record IsPushed (index : ℕ) (bytes : List ℕ) (old new : List DirtyBlock) : Type 0 where
  pub block : DirtyBlock
  pub index_is : block.index ≡ index
  pub bytes_are : block.bytes.value ≡ bytes
  pub last : new ≡ old ++ block ∷ []

-- The blocks before this one were gone through, for so many changes at most.
pub record IsThrough (Told : Type 0) (s : Store) (tree : BlockTree) (changes : List NameChange) (bound i : ℕ) (dirty : List DirtyBlock) (standing waiting : List NameChange) : Type 0 where
  pub blocks : AreDirty i dirty
  pub few : length dirty + (length standing + length waiting) ≤ bound
  pub puts : ArePuts waiting
  pub way : Told → AreOnce (names_of s (Tree tree)) → IsUnderWay changes standing waiting (names_to s tree dirty i) (names_to s tree dirty i ++ names_from s tree i) (names_of s (Tree tree))
  -- none of them has room for a name that waits
  pub full : Told → (j : ℕ) → j < i → AreFull waiting (names_in (block_now s tree dirty j))

-- each block from one to another is a changed one
abbrev pub AreAllDirty : ℕ → ℕ → List DirtyBlock → Type 0
AreAllDirty first end dirty = (i : ℕ) → first ≤ i → i < end → ¬ All (λ (d : DirtyBlock). d.index ≢ i) dirty

-- no block has room for a name of a new one after it
abbrev pub HaveNoRoom : Store → BlockTree → ℕ → List DirtyBlock → Type 0
HaveNoRoom s tree count dirty = (i j : ℕ) (link : Link) → i < j → tree.size / 4096 ≤ j → j < count
    → Contains (names_in (block_now s tree dirty j)) link → AreLinks (names_in (block_now s tree dirty i) ++ link ∷ []) → ⊥

-- each new block has a name
abbrev pub HaveNames : Store → BlockTree → ℕ → List DirtyBlock → Type 0
HaveNames s tree count dirty = (j : ℕ) → tree.size / 4096 ≤ j → j < count → (link : Link) × Contains (names_in (block_now s tree dirty j)) link

-- each new block but the first of all has a name
abbrev pub HaveLaterNames : Store → BlockTree → ℕ → List DirtyBlock → Type 0
HaveLaterNames s tree count dirty = (j : ℕ) → tree.size / 4096 ≤ j → j < count → 0 < j → (link : Link) × Contains (names_in (block_now s tree dirty j)) link

-- The names that were there were changed, and the blocks after the old ones are filled with those that wait.
pub record IsFilled (Told : Type 0) (s : Store) (tree : BlockTree) (changes : List NameChange) (bound count : ℕ) (dirty : List DirtyBlock) (waiting : List NameChange) : Type 0 where
  pub blocks : AreDirty count dirty
  pub few : length dirty + length waiting ≤ bound
  pub least : tree.size / 4096 ≤ count
  pub most : count ≤ tree.size / 4096 + length dirty
  pub behind : AreAllDirty (tree.size / 4096) count dirty
  pub way : Told → AreOnce (names_of s (Tree tree)) → IsUnderWay changes [] waiting (names_to s tree dirty count) (names_to s tree dirty count) (names_of s (Tree tree))
  pub puts : ArePuts waiting
  pub full : Told → (j : ℕ) → j < count → AreFull waiting (names_in (block_now s tree dirty j))
  pub fit : Told → HaveNoRoom s tree count dirty
  pub some : HaveNames s tree count dirty

-- What is to become of a directory's tree.
pub record IsWanted (Told : Type 0) (s : Store) (tree : BlockTree) (changes : List NameChange) (size keep : ℕ) (dirty : List DirtyBlock) : Type 0 where
  pub blocks : AreDirty (size / 4096) dirty
  pub few : length dirty ≤ length changes
  pub needed : Told → length dirty ≤ needed_changes (names_of s (Tree tree)) changes + first_block tree
  pub keep_is : keep ≡ tree.size / 4096
  pub whole : size % 4096 ≡ 0
  pub least : tree.size ≤ size
  pub most : size ≤ tree.size + 4096 * length dirty
  pub behind : AreAllDirty (tree.size / 4096) (size / 4096) dirty
  pub names : Told → AreOnce (names_of s (Tree tree)) → IsChanged changes (names_of s (Tree tree)) (names_to s tree dirty (size / 4096))
  pub fit : Told → HaveNoRoom s tree (size / 4096) dirty
  pub some : HaveLaterNames s tree (size / 4096) dirty
