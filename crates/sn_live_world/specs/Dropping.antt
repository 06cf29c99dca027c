-- Files that are dropped, each where it has no name and nobody has it open.
use Rattle.std.specs.Prelude.{◌≡◌, ℕ, Bool, true, ◌==◌, ◌&&◌, ◌||◌, List, [], Option, Contains}
use Rattle.sn_changed.specs.Dropped.{TellsGone, with_drops}
use Rattle.sn_changed.specs.declared.dropped.DroppedFile.{DroppedFile}
use Rattle.sn_caller.specs.Numbering.{has_gone}
use Rattle.sn_caller.specs.Told.{dropped_lost, told_if, told_lost}
use Rattle.sn_live_world.specs.World.{IsOver, changes_of, kept_of, kept_since_of, tree_over, world_over}
use Rattle.sn_live_world.specs.declared.world.LiveWorld.{LiveWorld}
use Rattle.sn_model.specs.Settling.{dropped, dropped_if, is_abandoned}
use Rattle.sn_model.specs.Tree.{Tree}

-- whether a number is that of a file that is dropped
abbrev pub goes : LiveWorld → Tree → ℕ → Bool → ℕ → Bool
goes w below number by_close n = by_close && (is_abandoned (world_over w below) number && n == number)

-- One file is dropped, if it is abandoned. Its number is kept back where it is dropped with its last descriptor.
pub record DropsIf (number : ℕ) (by_close : Bool) (old new : LiveWorld) (below : Tree) : Type 0 where
  pub over : IsOver new below
  pub world : world_over new below ≡ dropped_if (world_over old below) number
  pub changes : changes_of new ≡ with_drops (changes_of old) (told_if (world_over old below) number by_close [])
  pub kept : (n : ℕ) → kept_of new n ≡ (goes old below number by_close n || kept_of old n)
  pub since : (n : ℕ) → kept_since_of new n ≡ (goes old below number by_close n || kept_since_of old n)

-- Each of these that is abandoned is dropped, with its last descriptor, and no other.
pub record DropsClosed (numbers : List ℕ) (old new : LiveWorld) (below : Tree) : Type 0 where
  pub over : IsOver new below
  pub world : dropped (world_over new below) ≡ dropped (world_over old below)
  pub left : (n : ℕ) → is_abandoned (world_over new below) n ≡ true → (is_abandoned (world_over old below) n ≡ true) × (Contains numbers n → ⊥)
  pub went : (n : ℕ) → has_gone (world_over old below) (world_over new below) n ≡ true → Contains numbers n
  pub files : List DroppedFile
  pub told : TellsGone (tree_over old below) (tree_over new below) files
  pub changes : changes_of new ≡ with_drops (changes_of old) files
  pub kept : (n : ℕ) → kept_of new n ≡ (has_gone (world_over old below) (world_over new below) n || kept_of old n)
  pub since : (n : ℕ) → kept_since_of new n ≡ (has_gone (world_over old below) (world_over new below) n || kept_since_of old n)

-- The one that lost its name is dropped, if one did and it is abandoned.
pub record DropsLost (lost : Option ℕ) (old new : LiveWorld) (below : Tree) : Type 0 where
  pub over : IsOver new below
  pub world : world_over new below ≡ dropped_lost (world_over old below) lost
  pub changes : changes_of new ≡ with_drops (changes_of old) (told_lost (world_over old below) lost [])
  pub kept : (n : ℕ) → kept_of new n ≡ kept_of old n
  pub since : (n : ℕ) → kept_since_of new n ≡ kept_since_of old n
