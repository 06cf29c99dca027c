-- The state of a live tree, and what is shown of a tree below.
use Rattle.std.specs.Prelude.{◌≡◌, ℕ, Bool, true}
use Rattle.std.specs.FinMap as map
use Rattle.sn_directories.specs.Told.{IsShown}
use Rattle.sn_live.specs.Nodes.{KeepsBackAlike}
use Rattle.sn_live.specs.declared.live.LiveTree.{LiveTree}
use Rattle.sn_model.specs.Settling.{is_nameless, nameless_in}
use Rattle.sn_model.specs.Tree.{Tree}
use Rattle.sn_number_table.specs.Nameless.{TellsNameless}
use Rattle.sn_number_table.specs.Table.{TellsNumbers, kept_of, since_of}
use Rattle.sn_overlay.specs.Layers.{Layer, through}
use Rattle.sn_overlay.specs.Overlays.{HasRoom, layer_of, no_changes}
use Rattle.sn_overlay.specs.Seen.{LiesOver}

-- what a consistency point in progress writes, and what changed since
abbrev pub point_of : LiveTree → Layer
point_of live = layer_of live.bottom

abbrev pub changes_of : LiveTree → Layer
changes_of live = layer_of live.top

-- what is shown of a tree below
abbrev pub shown_of : LiveTree → Tree → Tree
shown_of live below = through (changes_of live) (through (point_of live) below)

-- the numbers that are kept back, and those that have been since the point in progress began, or the durable root's if there is none
abbrev pub kept_back_of : LiveTree → ℕ → Bool
kept_back_of live number = kept_of live.numbers number

abbrev pub kept_since_of : LiveTree → ℕ → Bool
kept_since_of live number = since_of live.numbers number

-- how many files without names are counted
abbrev pub count_of : LiveTree → ℕ
count_of live = live.nameless

-- no point is in progress
abbrev pub HasNoPoint : LiveTree → Type 0
HasNoPoint live = point_of live ≡ no_changes

-- this many files can be dropped without memory being taken
abbrev pub HasDrops : LiveTree → ℕ → Type 0
HasDrops live drops = HasRoom live.top (record { nodes = drops; names = 0; blocks = 0 })

-- The state belongs to a tree below: what the point writes lies over it, and what changed since over that. What is shown is a name tree,
-- both tables describe it, and those of its files that have no name are listed and counted.
pub record IsLive (live : LiveTree) (below : Tree) : Type 0 where
  pub point : LiesOver (point_of live) below
  pub shown : IsShown (changes_of live) (through (point_of live) below) live.directories
  pub numbers : TellsNumbers (shown_of live below) live.numbers
  pub files : TellsNameless (shown_of live below) live.without_names
  pub nameless : live.nameless ≡ nameless_in (shown_of live below)

-- a file that is shown has no name
abbrev pub ShowsNameless : LiveTree → Tree → ℕ → Type 0
ShowsNameless live below number = is_nameless (shown_of live below) number (map.get (shown_of live below).nodes number) ≡ true

-- The same is shown of each tree below, and of each that the state belonged to it still belongs.
pub record ShowsAlike (old new : LiveTree) : Type 0 where
  pub shows : (below : Tree) → shown_of new below ≡ shown_of old below
  pub live : (below : Tree) → IsLive old below → IsLive new below

-- The numbers that are kept back are the same.
abbrev pub KeepsBack : LiveTree → LiveTree → Type 0
KeepsBack old new = KeepsBackAlike old.numbers new.numbers
