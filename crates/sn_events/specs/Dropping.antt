-- Files without names that are dropped.
use Rattle.std.specs.Prelude.{◌≡◌, List}
use Rattle.sn_changed.specs.Dropped.{LeadsOn, TellsGone}
use Rattle.sn_changed.specs.declared.dropped.DroppedFile.{DroppedFile}
use Rattle.sn_held.specs.Held.{Kept}
use Rattle.sn_model.specs.Tree.{Tree}

-- What changed up to a tree is carried on to the tree without the files that were dropped.
pub record DropsFiles (old : Kept) (before : Tree) (new : Kept) (after : Tree) : Type 0 where
  pub files : List DroppedFile
  pub slot : new.slot ≡ old.slot
  pub root : new.root ≡ old.root
  pub words : new.words ≡ old.words
  pub gone : TellsGone before after files
  pub leads : LeadsOn old.changed files new.changed
