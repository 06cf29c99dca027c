-- What is prepared for a change of a tree, and the result.
use Rattle.std.specs.Prelude.{◌≡◌, ℕ, Option, None, Some}
use Rattle.sn_limits.specs.declared.limits.Limits.{Limits}
use Rattle.sn_model.specs.declared.change.Change.{Change}
use Rattle.sn_model.specs.Changes.{apply}
use Rattle.sn_model.specs.Tree.{Tree}
use Rattle.sn_overlay.specs.Layers.{through}
use Rattle.sn_overlay.specs.Overlays.{HasRoom, and_drops, layer_of, sizes_of}
use Rattle.sn_overlay.specs.Seen.{LiesOver}
use Rattle.sn_overlay.specs.declared.overlay.Overlay.{Overlay}
use Rattle.sn_overlay_change.specs.ChangeLayers.{layer_of_change}
use Rattle.sn_logged.specs.Moves.{moves_of}
use Rattle.sn_logged.specs.declared.preparing.PreparedChange.{PreparedChange}

-- an overlay has room for what was prepared, and for this many more drops
abbrev pub HasRoomFor : Overlay → PreparedChange → ℕ → Type 0
HasRoomFor overlay p drops = HasRoom overlay (and_drops (sizes_of p.newer) drops)

-- A change can be applied to a tree under limits. Its overlay has the layer of the change, which lies over the tree, and through which the
-- tree is what the change makes of it; it changes names in this way.
pub record CanBeLaid (limits : Limits) (p : PreparedChange) (live : Tree) (change : Change) : Type 0 where
  pub after : Tree
  pub applied : apply limits change live ≡ Some after
  pub layer : layer_of p.newer ≡ layer_of_change live change
  pub shows : through (layer_of p.newer) live ≡ after
  pub lies : LiesOver (layer_of p.newer) live
  pub moves : p.moves ≡ moves_of live change

-- or it can't be applied
abbrev pub IsPrepared : Limits → Option PreparedChange → Tree → Change → Type 0
IsPrepared limits None live change = apply limits change live ≡ None
IsPrepared limits (Some p) live change = CanBeLaid limits p live change
