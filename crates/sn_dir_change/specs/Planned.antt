-- A directory that is planned with other names.
use Rattle.std.specs.Prelude.{◌≡◌, ◌≢◌, ◌⊎◌, ⊤, ℕ, ◌+◌, ◌-◌, ◌*◌, ◌/◌, ◌%◌, ◌<◌, ◌≤◌, List, [], ◌∷◌, ◌++◌, length, Option, Result, Err, Contains}
use Rattle.sn_layout.specs.Pointers.{levels_of}
use Rattle.sn_layout.specs.declared.tree.BlockTree.{BlockTree}
use Rattle.sn_layout_node.specs.Directory.{Link, AreLinks, IsDirectoryBlock}
use Rattle.sn_layout_node.specs.declared.content.Content.TheVariants.{Tree}
use Rattle.sn_ondisk.specs.Trees.{Store, entry, data_block, tree_reach}
use Rattle.sn_ondisk.specs.TreeLaws.{SameIn}
use Rattle.sn_image.specs.Names.{names_in, names_of}
use Rattle.sn_image.specs.Sound.{AreOnce, EndsAtSize}
use Rattle.sn_alloc.specs.Taking.{free_data}
use Rattle.sn_tree.specs.Drafts.{Draft, grown}
use Rattle.sn_tree.specs.Plans.{Holds}
use Rattle.sn_tree.specs.Replanned.{IsReplanned}
use Rattle.sn_tree.specs.Steps.{LeadsOutside, LeadsOutsideAt}
use Rattle.sn_tree.specs.declared.fault.PlanFault.{PlanFault}
use Rattle.sn_tree.specs.declared.fault.PlanFault.TheVariants.{Full}
use Rattle.sn_tree.specs.declared.new_block.NewBlock.{NewBlock}
use Rattle.sn_tree.specs.declared.new_block.DirtyBlock.{DirtyBlock}
use Rattle.sn_dir.specs.Blocks.{IsDamaged, IsDamagedAt}
use Rattle.sn_dir_change.specs.Changes.{IsChanged, first_block, needed_changes}
use Rattle.sn_dir_change.specs.declared.name_change.NameChange.{NameChange}

-- A directory's size, with room for so many blocks more in the largest tree.
pub record HasRoom (tree : BlockTree) (count : ℕ) : Type 0 where
  pub whole : tree.size % 4096 ≡ 0
  pub most : tree.size + 4096 * count ≤ 70368744177664

-- each of a directory's blocks spells names
abbrev pub AreSpelled : Store → BlockTree → Type 0
AreSpelled s tree = (i : ℕ) → 4096 * i < tree.size → IsDirectoryBlock (data_block s tree i)

-- The size that a directory gets with these changes. Where it grows it has few blocks for its names: each but the last is so full that a name of a later one has no room in it, so it has 3,839 bytes of names at least, and a name takes 258 at most.
pub record IsSizeWith (Told : Type 0) (s : Store) (tree : BlockTree) (changes : List NameChange) (size : ℕ) : Type 0 where
  pub whole : size % 4096 ≡ 0
  pub least : tree.size ≤ size
  pub most : size ≤ tree.size + 4096 * length changes
  pub few : Told → AreOnce (names_of s (Tree tree)) → AreSpelled s tree → tree.size < size
      → (names : List Link) → IsChanged changes (names_of s (Tree tree)) names → 3839 * (size / 4096 - 1) ≤ 258 * length names

-- There is no block left, and fewer were than a path for each name and one more take in a directory of the size that this one gets.
abbrev pub IsTooFullFor : {T : Type 0} → Type 0 → Store → BlockTree → List NameChange → Result T PlanFault → Draft → Type 0
IsTooFullFor Told s tree changes result draft = result ≡ Err Full
    → (size : ℕ) × IsSizeWith Told s tree changes size × (free_data draft.words draft.first < length draft.added + (levels_of size + 1) * (length changes + 1))

-- none of a directory's blocks is a hole
abbrev pub HasNoHole : Store → BlockTree → Type 0
HasNoHole s tree = (i : ℕ) → 4096 * i < tree.size → entry s (levels_of tree.size) tree.pointers i ≢ 0

-- What the directory of a new tree has in a store.
pub record HasChanged (s r : Store) (old new : BlockTree) (changes : List NameChange) : Type 0 where
  -- its names are the old ones with the changes made
  pub names : IsChanged changes (names_of s (Tree old)) (names_of r (Tree new))
  -- a name is in a block after the old ones only where no block before that has room for it
  pub fit : (i j : ℕ) (link : Link) → i < j → old.size ≤ 4096 * j → 4096 * j < new.size
      → Contains (names_in (data_block r new j)) link → AreLinks (names_in (data_block r new i) ++ link ∷ []) → ⊥
  -- where each block was one of names, each is
  pub spelled : AreSpelled s old → AreSpelled r new
  -- where none was a hole, none is
  pub no_hole : HasNoHole s old → HasNoHole r new
  -- where the tree ended at its size, so does the new one
  pub ends : EndsAtSize s old → EndsAtSize r new

-- A directory was planned with these changes. At most one of its blocks changes for each name, it grows by no more blocks than change and stays small for its names, none is given back, and a path of new blocks for each changed one and one more is the most that is taken. It has a block from its first change on. Over a device that tells its bytes no other changes for a name that is to go and isn't there, and the tree is that of the changed blocks; where no name occurred twice it is the directory that is wanted, in any store that has the new blocks and agrees with the old one in the blocks that the old tree reaches.
pub record IsDirectoryPlanned (Told : Type 0) (s : Store) (old new : BlockTree) (changes : List NameChange) (old_draft new_draft : Draft) : Type 0 where
  pub dirty : List DirtyBlock
  pub added : List NewBlock
  pub released : List ℕ
  pub grew : new_draft ≡ grown old_draft added released
  pub few : length added ≤ (levels_of new.size + 1) * (length dirty + 1)
  pub one_each : length dirty ≤ length changes
  pub needed : Told → length dirty ≤ needed_changes (names_of s (Tree old)) changes + first_block old
  pub first : 0 < length changes → 0 < new.size
  pub most : new.size ≤ old.size + 4096 * length dirty
  pub sized : IsSizeWith Told s old changes new.size
  pub plans : Told → IsReplanned s old new (old.size / 4096) dirty added released
  pub changed : Told → AreOnce (names_of s (Tree old)) → (r : Store) → SameIn (tree_reach s old) s r → Holds r added → HasChanged s r old new changes

-- Why a directory can't be read: one of its blocks isn't on the device, is a hole, or doesn't spell names.
abbrev pub CannotRead : ℕ → Store → BlockTree → Type 0
CannotRead sectors s tree = IsDamaged (λ names. ⊤) sectors s tree ⊎ LeadsOutside sectors (tree_reach s tree)

-- And the fault names that block.
abbrev pub CannotReadAt : ℕ → Store → BlockTree → Option ℕ → Type 0
CannotReadAt sectors s tree block = IsDamagedAt (λ names. ⊤) sectors s tree block ⊎ LeadsOutsideAt sectors (tree_reach s tree) block
