-- The rows of a census, one for each number.
use Rattle.std.specs.Prelude.{◌≡◌, ◌≢◌, ℕ, ◌<◌, ◌≤◌, ◌==◌, if◌then◌else◌, List, Option, None, Some, slice_index_or}
use Rattle.sn_layout.specs.declared.tree.BlockTree.{BlockTree}
use Rattle.sn_layout_node.specs.declared.inode.Inode.{Inode}
use Rattle.sn_ondisk.specs.Trees.{Store}
use Rattle.sn_image.specs.Inodes.{inode_at}
use Rattle.sn_census.specs.declared.table.Row.{Row}

-- that of a number that no node has
abbrev pub unused_row : Row
unused_row = record { kind = None; links = 0; names = 0; parent = 0; climb = 0 }

-- how many names a number is to have: the root none, and any other as many as its inode says
abbrev pub links_of : ℕ → Inode → ℕ
links_of number inode = if number == 2 then 0 else inode.links

-- the row of a number before names are counted
abbrev pub row_of : ℕ → Option Inode → Row
row_of number None = unused_row
row_of number (Some inode) = record { kind = Some inode.kind; links = links_of number inode; names = 0; parent = 0; climb = 0 }

abbrev pub row_at : List Row → ℕ → Row
row_at rows number = slice_index_or rows number unused_row

-- how many names of a number were found
abbrev pub names_found : List Row → ℕ → ℕ
names_found rows number = (row_at rows number).names

-- The rows of all numbers from one on are those of numbers that no node has.
abbrev pub AreUnused : ℕ → List Row → Type 0
AreUnused begin rows = (number : ℕ) → begin ≤ number → row_at rows number ≡ unused_row

-- One row was set.
pub record Sets (number : ℕ) (row : Row) (old new : List Row) : Type 0 where
  pub here : row_at new number ≡ row
  pub others : (n : ℕ) → n ≢ number → row_at new n ≡ row_at old n

-- The rows of all numbers below one are those of their inodes, and no name is counted.
abbrev pub AreLoaded : Store → BlockTree → ℕ → List Row → Type 0
AreLoaded s inodes below rows = (number : ℕ) → number < below → row_at rows number ≡ row_of number (inode_at s inodes number)
