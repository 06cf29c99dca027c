-- Why a device isn't formatted, and what is reported of it then.
use Rattle.std.specs.Prelude.{◌⊎◌, ℕ, ◌+◌, ◌*◌, ◌<◌, ◌≤◌, IsTrue}
use Rattle.sn_device.specs.Status.{has_ended}
use Rattle.sn_device.specs.declared.status.Status.{Status}
use Rattle.sn_layout.specs.Geometry.{IsDiskSize}
use Rattle.sn_block.specs.Counts.{IsLater}
use Rattle.sn_mkfs.specs.Writing.{format_writes}

-- a disk can have this many blocks, and the device has their sectors
pub record HasRoom (sectors n : ℕ) : Type 0 where
  pub size : IsDiskSize n
  pub room : 8 * n ≤ sectors

-- The device failed, or reached its end, after no more writes and syncs than a whole formatting makes.
pub record IsCutOff (n : ℕ) (old new : Status) : Type 0 where
  pub failed : (old.failures < new.failures) ⊎ IsTrue (has_ended new)
  pub later : IsLater old new
  pub writes : new.writes ≤ old.writes + format_writes n
  pub syncs : new.syncs ≤ old.syncs + 4
