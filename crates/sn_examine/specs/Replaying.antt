-- What replay of an epoch makes of a tree.
use Rattle.std.specs.Prelude.{◌≡◌, ℕ, ◌+◌, Bool, true, false, List, Result, Ok, Err, Some}
use Rattle.sn_changed.specs.Changed.{HasChanged}
use Rattle.sn_device.specs.Sectors.{Contents}
use Rattle.sn_limits.specs.declared.limits.Limits.{Limits}
use Rattle.sn_model.specs.declared.change.Change.{Change}
use Rattle.sn_model.specs.declared.fault.Damage.TheVariants.{Log}
use Rattle.sn_model.specs.declared.fault.MountFault.{MountFault}
use Rattle.sn_model.specs.declared.fault.MountFault.TheVariants as fault
use Rattle.sn_model.specs.Changes.{apply_all}
use Rattle.sn_model.specs.Tree.{Tree}
use Rattle.sn_overlay.specs.Layers.{Layer}
use Rattle.sn_ondisk.specs.LogHalf.{Stops}
use Rattle.sn_log.specs.Positions.{LogPosition, IsBehind, base_at}
use Rattle.sn_opening.specs.Spelled.{AreSpelled}
use Rattle.sn_sound.specs.Charges.{charges_from}
use Rattle.sn_sound.specs.Logs.{BreaksAt}

-- Up to a position of its epoch are the records of these changes, which make this tree of another and
-- are charged this much for it, by these limits.
pub record HasReplayed (limits : Limits) (c : Contents) (from : Tree) (at : LogPosition) (tree : Tree) (charges : ℕ) : Type 0 where
  pub changes : List Change
  pub spelled : AreSpelled changes
  pub behind : IsBehind at changes c
  pub applied : apply_all limits changes from ≡ Some tree
  pub charged : charges ≡ charges_from limits changes from

-- It fails for memory, for the device, or at a record that is misspelt or whose change can't be made, in the block of its gate.
abbrev pub Breaks : Limits → MountFault → Contents → Tree → ℕ → ℕ → Type 0
Breaks limits (fault.Damaged damage block) c from n epoch = (damage ≡ Log) × BreaksAt c limits from n epoch block
Breaks limits fault.Memory c from n epoch = Unit {0}
Breaks limits fault.Device c from n epoch = Unit {0}
Breaks limits cause c from n epoch = ⊥

-- the next record was replayed, or there is none
abbrev pub IsNext : Limits → Bool → Contents → Tree → LogPosition → Tree → ℕ → LogPosition → Tree → ℕ → Type 0
IsNext limits true c from at tree charges next after more = HasReplayed limits c from next after more
IsNext limits false c from at tree charges next after more = (next ≡ at) × (after ≡ tree) × (more ≡ charges) × Stops c (base_at at) at.epoch at.place

abbrev pub ReplaysOne : Limits → Result Bool MountFault → Contents → Tree → LogPosition → Tree → ℕ → LogPosition → Tree → ℕ → Type 0
ReplaysOne limits (Ok further) c from at tree charges next after more = IsNext limits further c from at tree charges next after more
ReplaysOne limits (Err fault) c from at tree charges next after more = Breaks limits fault c from at.blocks at.epoch

-- all records of the epoch were replayed
pub record HasAll (limits : Limits) (c : Contents) (from : Tree) (at : LogPosition) (tree : Tree) (charges : ℕ) : Type 0 where
  pub replayed : HasReplayed limits c from at tree charges
  pub stops : Stops c (base_at at) at.epoch at.place

-- the records before the position were replayed, and unless there may be more, these are all
abbrev pub ReplaysSo : Limits → Bool → Contents → Tree → LogPosition → Tree → ℕ → Type 0
ReplaysSo limits true c from at tree charges = HasReplayed limits c from at tree charges
ReplaysSo limits false c from at tree charges = HasAll limits c from at tree charges

-- ---- beside what changed

-- What changed since a root, up to this tree, for these charges and others before them, becomes with this layer
-- what changed up to that tree, for those charges.
abbrev pub LeadsOn : Limits → Layer → Tree → ℕ → Layer → Tree → ℕ → Type 0
LeadsOn limits layer tree charges next after more = (root : Tree) (before : ℕ) → HasChanged limits layer root tree (before + charges) → HasChanged limits next root after (before + more)
