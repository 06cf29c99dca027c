-- Names of a tree that were counted, directory by directory.
use Rattle.std.specs.Prelude.{◌≡◌, ◌⊎◌, ℕ, ◌<◌, ◌≤◌, List, Some, Contains}
use Rattle.std.specs.FinMap as map
use Rattle.sn_dir.specs.declared.listings.ListedName.{ListedName}
use Rattle.sn_directories.specs.Told.{counted_at}
use Rattle.sn_directories.specs.declared.table.Counted.{Counted}
use Rattle.sn_model.specs.declared.link.Link.{Link}
use Rattle.sn_model.specs.Tree.{Tree, names_in}

-- one of these names is a number's
abbrev pub IsAmong : List ListedName → ℕ → Type 0
IsAmong names number = (listed : ListedName) × Contains names listed × (listed.number ≡ number)

-- Each number of these names is in this directory now, and any other where it was; no count of names changed.
pub record NotesNames (directory : ℕ) (names : List ListedName) (old new : List Counted) : Type 0 where
  pub among : (number : ℕ) → IsAmong names number → (counted_at new number).parent ≡ directory
  pub others : (number : ℕ) → ((counted_at new number).parent ≡ (counted_at old number).parent) ⊎ (IsAmong names number × ((counted_at new number).parent ≡ directory))
  pub kept : (n : ℕ) → (counted_at new n).names ≡ (counted_at old n).names

-- a directory has a name of a number
abbrev pub HasName : Tree → ℕ → ℕ → Type 0
HasName tree directory number = (link : Link) × (map.get tree.links link ≡ Some number) × (link.directory ≡ directory)

-- The names in the directories below one are counted and no others, and of each number that has one a directory is noted that has it.
pub record AreCounted (tree : Tree) (end : ℕ) (rows : List Counted) : Type 0 where
  pub names : (directory : ℕ) → directory < end → (counted_at rows directory).names ≡ names_in tree directory
  pub none_later : (directory : ℕ) → end ≤ directory → (counted_at rows directory).names ≡ 0
  pub parents : (link : Link) (number : ℕ) → link.directory < end → map.get tree.links link ≡ Some number → HasName tree (counted_at rows number).parent number
