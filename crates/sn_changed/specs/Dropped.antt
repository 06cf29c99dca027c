-- Files without names that are dropped from the live tree, and what that makes of what changed.
use Rattle.std.specs.Prelude.{◌≡◌, ◌≢◌, ◌↔◌, ℕ, Bool, true, ◌&&◌, List, map, fold, AllPairs, Contains, is_none, is_some}
use Rattle.std.specs.FinMap as fin
use Rattle.sn_limits.specs.declared.limits.Limits.{Limits}
use Rattle.sn_model.specs.Changes.{take_node}
use Rattle.sn_model.specs.NameTree.{IsHierarchy}
use Rattle.sn_model.specs.Settling.{is_nameless, without_nameless}
use Rattle.sn_model.specs.Tree.{Tree}
use Rattle.sn_overlay.specs.Layers.{Layer}
use Rattle.sn_overlay.specs.Merges.{merge}
use Rattle.sn_overlay.specs.Needs.{AreCharged}
use Rattle.sn_overlay.specs.Overlays.{gone}
use Rattle.sn_changed.specs.declared.dropped.DroppedFile.{DroppedFile}
use Rattle.sn_changed.specs.Changed.{HasChanged}

abbrev pub numbers_of : List DroppedFile → List ℕ
numbers_of files = map (λ file. file.number) files

-- a number whose node is gone
abbrev pub is_gone : Tree → Tree → ℕ → Bool
is_gone old new number = is_some (fin.get old.nodes number) && is_none (fin.get new.nodes number)

-- They are those that were dropped, each once.
pub record TellsGone (old new : Tree) (files : List DroppedFile) : Type 0 where
  pub each : (number : ℕ) → Contains (numbers_of files) number ↔ (is_gone old new number ≡ true)
  pub once : AllPairs ◌≢◌ (numbers_of files)

-- They have no names.
abbrev pub AreNameless : Tree → List DroppedFile → Type 0
AreNameless tree files = (number : ℕ) → Contains (numbers_of files) number → is_nameless tree number (fin.get tree.nodes number) ≡ true

-- a tree without them, and a layer in which they are gone
abbrev pub without_each : Tree → List DroppedFile → Tree
without_each tree files = fold (λ left file. take_node left file.number) tree files

abbrev pub with_drops : Layer → List DroppedFile → Layer
with_drops layer files = fold (λ older file. merge older (gone file.number file.by_close)) layer files

-- What changed is merged with the drops of these files, whichever files were held: then it is what changed up to the tree without them.
abbrev pub LeadsOn : Layer → List DroppedFile → Layer → Type 0
LeadsOn old files new = (limits : Limits) (root live : Tree) (charged : ℕ) (held : ℕ → Bool) → AreCharged limits → IsHierarchy live → HasChanged limits old root live charged → TellsGone live (without_nameless held live) files
    → HasChanged limits new root (without_nameless held live) charged
