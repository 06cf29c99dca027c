-- What trying the log results in.
use Rattle.std.specs.Prelude.{◌≡◌, ℕ, false, Option, Some, None, Result, Ok, Err}
use Rattle.sn_check_log.specs.declared.replaying.Tried.{Tried}
use Rattle.sn_device.specs.Sectors.{Contents}
use Rattle.sn_examine.specs.Both.{BothBreak, HasBoth}
use Rattle.sn_examine.specs.Replaying.{Breaks, HasAll}
use Rattle.sn_limits.specs.declared.limits.Limits.{Limits}
use Rattle.sn_live.specs.Live.{HasNoPoint, IsLive, changes_of, kept_back_of, kept_since_of, shown_of}
use Rattle.sn_live.specs.declared.live.LiveTree.{LiveTree}
use Rattle.sn_model.specs.Changes.{apply}
use Rattle.sn_model.specs.Charges.{charge_for}
use Rattle.sn_model.specs.Tree.{Tree}
use Rattle.sn_model.specs.declared.change.Change.{Change}
use Rattle.sn_model.specs.declared.fault.MountFault.{MountFault}
use Rattle.sn_overlay.specs.Layers.{Layer}
use Rattle.sn_overlay.specs.Merges.{merge}
use Rattle.sn_overlay.specs.Overlays.{no_changes}
use Rattle.sn_overlay_change.specs.ChangeLayers.{layer_of_change}

-- ---- a live tree, once a record was tried

-- what is shown of a tree below: before that, the tree itself
abbrev pub tree_of : Option LiveTree → Tree → Tree
tree_of None below = below
tree_of (Some live) below = shown_of live below

-- what changed of it
abbrev pub changes_if : Option LiveTree → Layer
changes_if None = no_changes
changes_if (Some live) = changes_of live

-- no consistency point is in progress
abbrev pub HasNoPointIf : Option LiveTree → Type 0
HasNoPointIf None = Unit {0}
HasNoPointIf (Some live) = HasNoPoint live

-- the live tree belongs to the tree below
abbrev pub IsTried : Option LiveTree → Tree → Type 0
IsTried None below = Unit {0}
IsTried (Some live) below = IsLive live below × HasNoPoint live

-- No number is kept back.
pub record KeepsNone (live : LiveTree) : Type 0 where
  pub kept : (n : ℕ) → kept_back_of live n ≡ false
  pub since : (n : ℕ) → kept_since_of live n ≡ false

abbrev pub KeepsNoneIf : Option LiveTree → Type 0
KeepsNoneIf None = Unit {0}
KeepsNoneIf (Some live) = KeepsNone live

-- ---- one change

-- A change was applied to what is shown under these limits, is charged this much by them, and is over what changed before.
pub record MakesChange (limits : Limits) (charge : ℕ) (live : Option LiveTree) (below : Tree) (change : Change) (after : Option LiveTree) : Type 0 where
  pub applied : apply limits change (tree_of live below) ≡ Some (tree_of after below)
  pub charged : charge ≡ charge_for limits (tree_of live below) change
  pub merged : changes_if after ≡ merge (changes_if live) (layer_of_change (tree_of live below) change)

-- or it can't be applied
abbrev pub TriesChange : Limits → Option ℕ → Option LiveTree → Tree → Change → Option LiveTree → Type 0
TriesChange limits None live below change after = apply limits change (tree_of live below) ≡ None
TriesChange limits (Some charge) live below change after = MakesChange limits charge live below change after

-- ---- the records of an epoch, and of two

-- The records of an epoch were replayed, all of them, up to the tree that is shown; or replay fails.
abbrev pub TriesAll : Limits → Result Tried MountFault → Contents → Tree → ℕ → ℕ → Tree → Type 0
TriesAll limits (Ok r) c from n epoch below = HasAll limits c from r.at (tree_of r.live below) r.charges
TriesAll limits (Err f) c from n epoch below = Breaks limits f c from n epoch

-- the same of both epochs
abbrev pub TriesBoth : Limits → Result Tried MountFault → Contents → Tree → ℕ → ℕ → Type 0
TriesBoth limits (Ok r) c image n epoch = HasBoth limits c image n epoch r.at (tree_of r.live image) r.charges
TriesBoth limits (Err f) c image n epoch = BothBreak limits f c image n epoch
