-- What a call leaves of the tree and of the log.
use Rattle.std.specs.Prelude.{◌≡◌, ◌⊎◌, ℕ, Bool, List, [], ◌∷◌, ◌++◌}
use Rattle.sn_device.specs.Disk.{Disk, Always}
use Rattle.sn_device.specs.Crash.{LeavesOnly}
use Rattle.sn_model.specs.declared.change.Change.{Change}
use Rattle.sn_model.specs.Settling.{without_nameless}
use Rattle.sn_model.specs.Tree.{Tree}
use Rattle.sn_model.specs.World.{World}
use Rattle.sn_log.specs.Positions.{LogPosition, IsReadyAt, behind}

-- Another world has this live tree, but for files without names, and the same frozen trees.
pub record IsOfTree (w : World) (tree : Tree) (next : World) : Type 0 where
  pub held : ℕ → Bool
  pub live : next.live ≡ without_nameless held tree
  pub frozen : next.frozen ≡ w.frozen

-- A crash in the course of an append leaves the records of before, or one more.
abbrev pub LeavesEither : LogPosition → Change → Disk → Disk → Type 0
LeavesEither at change old new = (changes : List Change) → Always old (IsReadyAt at changes)
    → LeavesOnly old new (λ c. IsReadyAt at changes c ⊎ IsReadyAt (behind at change) (changes ++ change ∷ []) c)

-- After it each crash leaves one more.
abbrev pub LeavesMore : LogPosition → Change → Disk → Disk → Type 0
LeavesMore at change old new = (changes : List Change) → Always old (IsReadyAt at changes)
    → Always new (IsReadyAt (behind at change) (changes ++ change ∷ []))
