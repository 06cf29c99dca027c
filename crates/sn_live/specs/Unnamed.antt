-- The files without names of a live tree, and what changed without them.
use Rattle.std.specs.Prelude.{◌≡◌, ◌≢◌, ℕ, ◌<◌, AllPairs, Bool, false, List, [], ◌∷◌, ◌++◌, get_or, length, if◌then◌else◌}
use Rattle.sn_changed.specs.declared.dropped.DroppedFile.{DroppedFile}
use Rattle.sn_changed.specs.Dropped.{AreNameless, LeadsOn, TellsGone, numbers_of}
use Rattle.sn_model.specs.Settling.{settled}
use Rattle.sn_model.specs.Tree.{Tree}
use Rattle.sn_overlay.specs.Layers.{Layer}

-- They are dropped with their last names, not with a descriptor.
abbrev pub GoWithNames : List DroppedFile → Type 0
GoWithNames files = (k : ℕ) (other : DroppedFile) → k < length files → (get_or files k other).by_close ≡ false

-- They are files without names of a tree, each once.
pub record CanGo (tree : Tree) (files : List DroppedFile) : Type 0 where
  pub nameless : AreNameless tree files
  pub once : AllPairs ◌≢◌ (numbers_of files)

-- one more of them, if it is listed
abbrev pub listed_if : (ℕ → Bool) → ℕ → List DroppedFile → List DroppedFile
listed_if listed number files = if listed number then files ++ record { number = number; by_close = false } ∷ [] else files

-- The files of a tree that have no name were dropped from what changed.
pub record DropsNameless (tree : Tree) (old new : Layer) : Type 0 where
  pub files : List DroppedFile
  pub gone : TellsGone tree (settled tree) files
  pub leads : LeadsOn old files new
