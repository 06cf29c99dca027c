-- What a mount costs.
use Rattle.std.specs.Prelude.{◌≡◌, ◌⊎◌, ℕ, ◌+◌, ◌*◌, ◌≤◌, Bool, true, false, Result, OnOk}
use Rattle.sn_device.specs.declared.status.Status.{Status}
use Rattle.sn_block.specs.Counts.{IsLater, called}
use Rattle.sn_layout.specs.declared.gate.Gate.{Gate}
use Rattle.sn_layout.specs.declared.gate.Gate.TheVariants.{Open}
use Rattle.sn_model.specs.declared.fault.MountFault.{MountFault}
use Rattle.sn_cp_whole.specs.Making.{most_syncs, most_writes, syncs_of_point, writes_of_point}
use Rattle.sn_cp_whole.specs.Recovering.{syncs_of_steps, writes_of_steps}
use Rattle.sn_examine.specs.Failing.{CostsAtMost}

-- The root that counts stays where nothing is to recover; else the steps of a point make the next one, of no more new blocks than the disk has.
abbrev pub CostsNext : Bool → ℕ → Status → Status → Type 0
CostsNext false n old new = new ≡ old
CostsNext true n old new = (count : ℕ) × (count ≤ n) × (gate : Gate) × (new ≡ called (writes_of_steps n gate count) (syncs_of_steps gate) old)

-- At `Ok` it costs this much, and never more than a point that takes all blocks.
pub record CostsRoot {T : Type 0} (result : Result T MountFault) (n : ℕ) (recovers : Bool) (old new : Status) : Type 0 where
  pub done : OnOk result (CostsNext recovers n old new)
  pub later : IsLater old new
  pub writes : new.writes ≤ old.writes + writes_of_steps n Open n
  pub syncs : new.syncs ≤ old.syncs + syncs_of_steps Open

-- A mount that succeeds costs one write and two syncs where nothing was to recover; else those of a whole point and a sync.
abbrev pub CostsFound : Bool → ℕ → Status → Status → Type 0
CostsFound false n old new = new ≡ called 1 2 old
CostsFound true n old new = (count : ℕ) × (count ≤ n) × (gate : Gate) × (new ≡ called (writes_of_point n gate count) (1 + syncs_of_point gate) old)

-- one or the other
abbrev pub CostsMount : ℕ → Status → Status → Type 0
CostsMount n old new = CostsFound false n old new ⊎ CostsFound true n old new

-- No mount costs more than that of a point that takes all blocks of a disk for which the device has room.
pub record CostsFew (old new : Status) : Type 0 where
  pub blocks : ℕ
  pub within : 8 * blocks ≤ old.sectors
  pub costs : CostsAtMost (most_writes blocks blocks) (1 + most_syncs) old new
