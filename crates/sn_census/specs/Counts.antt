-- Names that were counted.
use Rattle.std.specs.Prelude.{◌≡◌, ◌⊎◌, ℕ, ◌+◌, ◌-◌, ◌<◌, ◌≤◌, ◌==◌, List, [], Option, None, Some, count_by, sum_by, Contains}
use Rattle.std.specs.List.{range_with_len}
use Rattle.std.specs.Option.{option_map}
use Rattle.sn_layout.specs.declared.tree.BlockTree.{BlockTree}
use Rattle.sn_layout_node.specs.Directory.{Link}
use Rattle.sn_layout_node.specs.declared.inode.Inode.{Inode}
use Rattle.sn_limits.specs.declared.kind.Kind.{Kind}
use Rattle.sn_ondisk.specs.Trees.{Store}
use Rattle.sn_image.specs.Inodes.{inode_at}
use Rattle.sn_image.specs.Names.{names_at}
use Rattle.sn_image.specs.Sound.{name_count}
use Rattle.sn_sound.specs.Faults.{record_block}
use Rattle.sn_census.specs.Climbs.{parents_of}
use Rattle.sn_census.specs.Rows.{links_of, names_found, row_at}
use Rattle.sn_census.specs.declared.table.Row.{Row}

-- how many of these names a number has
abbrev pub times_in : ℕ → List Link → ℕ
times_in number names = count_by (λ l. l.number == number) names

-- ---- names of one directory

-- A row has the names of its number counted: so many are more than before, and the last of them is in this directory.
pub record CountsIn (directory times : ℕ) (old new : Row) : Type 0 where
  pub kind : new.kind ≡ old.kind
  pub links : new.links ≡ old.links
  pub climb : new.climb ≡ old.climb
  pub names : new.names ≡ old.names + times
  pub few : old.names ≤ old.links → new.names ≤ new.links
  pub parent : ((times ≡ 0) × (new.parent ≡ old.parent)) ⊎ ((0 < times) × (new.parent ≡ directory))

-- These names of a directory were counted.
abbrev pub Counts : ℕ → List Link → List Row → List Row → Type 0
Counts directory names old new = (number : ℕ) → CountsIn directory (times_in number names) (row_at old number) (row_at new number)

-- One of these names is that of a number, which is to have fewer.
pub record HasSpare (names : List Link) (number : ℕ) (old new : List Row) : Type 0 where
  pub name : Link
  pub among : Contains names name
  pub is : name.number ≡ number
  pub more : (row_at old number).links < (row_at old number).names + times_in number names
  pub kind : (row_at new number).kind ≡ (row_at old number).kind

-- the block that is reported for a number with a name too many, which is in the block of a pointer
abbrev pub blamed : Store → BlockTree → ℕ → ℕ → ℕ → Option Kind → ℕ
blamed s inodes body pointer number None = pointer
blamed s inodes body pointer number (Some kind) = record_block s inodes body number

-- ---- names of a root

abbrev pub kind_of : Option Inode → Option Kind
kind_of inode = option_map (λ (i : Inode). i.kind) inode

abbrev pub links_under : ℕ → Option Inode → ℕ
links_under number None = 0
links_under number (Some inode) = links_of number inode

-- A row says what inode its number has.
pub record IsOf (s : Store) (inodes : BlockTree) (number : ℕ) (row : Row) : Type 0 where
  pub kind : row.kind ≡ kind_of (inode_at s inodes number)
  pub links : row.links ≡ links_under number (inode_at s inodes number)

-- These names can be counted too: no number gets more than it has in all directories.
pub record HasRoom (s : Store) (inodes : BlockTree) (names : List Link) (rows : List Row) : Type 0 where
  pub of : (number : ℕ) → IsOf s inodes number (row_at rows number)
  pub room : (number : ℕ) → (row_at rows number).names + times_in number names ≤ name_count s inodes number

-- how many names a number has in the directories below one
abbrev pub names_below : Store → BlockTree → ℕ → ℕ → ℕ
names_below s inodes end number = sum_by (λ directory. times_in number (names_at s inodes directory)) (range_with_len 2 (end - 2))

-- a directory has a name of a number
abbrev pub HasName : Store → BlockTree → ℕ → ℕ → Type 0
HasName s inodes directory number = (name : Link) × Contains (names_at s inodes directory) name × (name.number ≡ number)

-- A row has the names in all directories below one counted, and there are no more than there are to be.
pub record IsCounted (s : Store) (inodes : BlockTree) (end number : ℕ) (row : Row) : Type 0 where
  pub of : IsOf s inodes number row
  pub names : row.names ≡ names_below s inodes end number
  pub few : row.names ≤ row.links
  pub parent : 0 < row.names → HasName s inodes row.parent number
  pub climb : row.climb ≡ 0

abbrev pub AreCounted : Store → BlockTree → ℕ → List Row → Type 0
AreCounted s inodes end rows = (number : ℕ) → IsCounted s inodes end number (row_at rows number)

-- All names are found: how many each number has, and a directory in which one is.
pub record HasFound (s : Store) (inodes : BlockTree) (rows : List Row) : Type 0 where
  pub names : (number : ℕ) → names_found rows number ≡ name_count s inodes number
  pub parents : (number : ℕ) → 0 < name_count s inodes number → HasName s inodes (parents_of rows number) number

-- a name of no bytes, for its number
abbrev pub one_name : ℕ → Link
one_name number = record { number = number; name = [] }
