-- What a snapshot is brought back as, before it takes the live tree's place.
use Rattle.std.specs.Prelude.{◌≡◌}
use Rattle.sn_changed.specs.Changed.{HasChanged}
use Rattle.sn_limits.specs.declared.limits.Limits.{Limits}
use Rattle.sn_live.specs.Live as of_live
use Rattle.sn_live_world.specs.declared.restoring.RestoredTree.{RestoredTree}
use Rattle.sn_model.specs.Settling.{settled}
use Rattle.sn_model.specs.Tree.{Tree}
use Rattle.sn_overlay.specs.Layers.{Layer}
use Rattle.sn_overlay.specs.Needs.{AreCharged}

-- what changed of the snapshot's tree
abbrev pub drops_of : RestoredTree → Layer
drops_of restored = of_live.changes_of restored.live

-- no point is in progress over it
abbrev pub IsBetween : RestoredTree → Type 0
IsBetween restored = of_live.HasNoPoint restored.live

-- It belongs to a snapshot's tree, and shows it without its files without names. What changed of that tree is paid by the charge for each of these files: nothing else was charged.
pub record IsRestored (restored : RestoredTree) (frozen : Tree) : Type 0 where
  pub live : of_live.IsLive restored.live frozen
  pub shown : of_live.shown_of restored.live frozen ≡ settled frozen
  pub changed : (limits : Limits) → AreCharged limits → HasChanged limits (drops_of restored) frozen (settled frozen) 0
