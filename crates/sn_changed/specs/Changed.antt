-- What changed since a root, beside the live tree.
use Rattle.std.specs.Prelude.{◌≡◌, ℕ}
use Rattle.sn_limits.specs.declared.limits.Limits.{Limits}
use Rattle.sn_model.specs.Tree.{Tree}
use Rattle.sn_overlay.specs.Layers.{Layer, through}
use Rattle.sn_model.specs.Settling.{nameless_in}
use Rattle.sn_overlay.specs.Needs.{IsPaid}
use Rattle.sn_overlay.specs.Seen.{LiesOver}

-- The layer lies over the root's tree, the live tree is seen through it, and what was charged since the root pays for what it needs, with a charge for each file without names.
pub record HasChanged (limits : Limits) (layer : Layer) (root live : Tree) (charged : ℕ) : Type 0 where
  pub lies : LiesOver layer root
  pub shows : through layer root ≡ live
  pub paid : IsPaid limits layer (nameless_in root) (nameless_in live) charged
