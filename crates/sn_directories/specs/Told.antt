-- When a table records the directories of a tree.
use Rattle.std.specs.Prelude.{◌≡◌, ◌≢◌, ℕ, Bool, false, List, Option, None, Some, slice_index_or}
use Rattle.std.specs.FinMap as map
use Rattle.sn_limits.specs.declared.kind.Kind.TheVariants.{Directory}
use Rattle.sn_limits.specs.Versions.{limits_written}
use Rattle.sn_model.specs.declared.link.Link.{Link}
use Rattle.sn_model.specs.NameTree.{HasKind, IsTree}
use Rattle.sn_model.specs.Tree.{Tree, names_in}
use Rattle.sn_walk.specs.Views.{is_directory}
use Rattle.sn_overlay.specs.declared.node.SeenNode.{SeenNode}
use Rattle.sn_overlay.specs.Layers.{Layer, through}
use Rattle.sn_overlay.specs.Seen.{LiesOver}
use Rattle.sn_directories.specs.declared.table.Counted.{Counted}

-- what is known of a number of which nothing is counted
abbrev pub nothing_counted : Counted
nothing_counted = record { names = 0; parent = 0 }

abbrev pub counted_at : List Counted → ℕ → Counted
counted_at rows number = slice_index_or rows number nothing_counted

-- One row was set.
pub record Sets (number : ℕ) (row : Counted) (old new : List Counted) : Type 0 where
  pub here : counted_at new number ≡ row
  pub others : (n : ℕ) → n ≢ number → counted_at new n ≡ counted_at old n

-- One row has another count of names, and one another parent.
pub record SetsNames (directory names : ℕ) (old new : List Counted) : Type 0 where
  pub here : (counted_at new directory).names ≡ names
  pub others : (n : ℕ) → n ≢ directory → (counted_at new n).names ≡ (counted_at old n).names
  pub parents : (n : ℕ) → (counted_at new n).parent ≡ (counted_at old n).parent

pub record SetsParent (number parent : ℕ) (old new : List Counted) : Type 0 where
  pub here : (counted_at new number).parent ≡ parent
  pub others : (n : ℕ) → n ≢ number → (counted_at new n).parent ≡ (counted_at old n).parent
  pub names : (n : ℕ) → (counted_at new n).names ≡ (counted_at old n).names

-- Each number has as many names as there are in its directory, and a directory the one in which its name is.
pub record TellsDirectories (tree : Tree) (rows : List Counted) : Type 0 where
  pub names : (directory : ℕ) → (counted_at rows directory).names ≡ names_in tree directory
  pub parents : (link : Link) (number : ℕ) → map.get tree.links link ≡ Some number → HasKind tree number Directory → (counted_at rows number).parent ≡ link.directory

-- whether what is seen of a number is a directory
abbrev pub is_directory_seen : Option SeenNode → Bool
is_directory_seen None = false
is_directory_seen (Some node) = is_directory node.kind

-- A layer lies over a tree; what is seen through it is a name tree, and the table records its directories.
pub record IsShown (layer : Layer) (below : Tree) (rows : List Counted) : Type 0 where
  pub lies : LiesOver layer below
  pub whole : IsTree limits_written (through layer below)
  pub tells : TellsDirectories (through layer below) rows
