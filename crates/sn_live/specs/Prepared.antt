-- What is prepared for a change of a live tree.
use Rattle.std.specs.Prelude.{◌≡◌, ◌⊎◌, ℕ, true, Option, None, Some}
use Rattle.std.specs.FinMap as map
use Rattle.sn_limits.specs.declared.limits.Limits.{Limits}
use Rattle.sn_live.specs.Nodes.{node_moves_of}
use Rattle.sn_live.specs.declared.live.LiveTree.{LiveTree}
use Rattle.sn_live.specs.declared.preparing.PreparedLive.{PreparedLive}
use Rattle.sn_logged.specs.Laid as laid
use Rattle.sn_model.specs.declared.change.Change.{Change}
use Rattle.sn_model.specs.Changes.{apply}
use Rattle.sn_model.specs.Settling.{is_nameless}
use Rattle.sn_model.specs.Tree.{Tree}

-- there is room for it, and for this many more drops
abbrev pub HasRoomFor : LiveTree → PreparedLive → ℕ → Type 0
HasRoomFor live p drops = laid.HasRoomFor live.top p.change drops

-- A change can be applied to a live tree under limits: it was prepared to be laid over it, and changes its nodes in this way.
pub record CanBeMade (limits : Limits) (p : PreparedLive) (live : Tree) (change : Change) : Type 0 where
  pub laid : laid.CanBeLaid limits p.change live change
  pub nodes : p.nodes ≡ node_moves_of live change

-- or it can't be applied
abbrev pub IsPrepared : Limits → Option PreparedLive → Tree → Change → Type 0
IsPrepared limits None live change = apply limits change live ≡ None
IsPrepared limits (Some p) live change = CanBeMade limits p live change

-- No file has lost its last name but the one that is reported.
abbrev pub LosesAtMost : Tree → Tree → Option ℕ → Type 0
LosesAtMost old new lost = (number : ℕ) → is_nameless new number (map.get new.nodes number) ≡ true → (is_nameless old number (map.get old.nodes number) ≡ true) ⊎ (lost ≡ Some number)
