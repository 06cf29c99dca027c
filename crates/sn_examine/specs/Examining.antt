-- What is found on a disk before its tree is read.
use Rattle.std.specs.Prelude.{◌≡◌, ℕ}
use Rattle.sn_device.specs.Sectors.{Contents}
use Rattle.sn_layout.specs.declared.geometry.Area.TheVariants as area
use Rattle.sn_layout.specs.declared.geometry.LogHalf.{LogHalf}
use Rattle.sn_layout.specs.Geometry.{start_of}
use Rattle.sn_model.specs.declared.fault.Damage.TheVariants.{Log, Root}
use Rattle.sn_model.specs.declared.fault.MountFault.{MountFault}
use Rattle.sn_model.specs.declared.fault.MountFault.TheVariants as fault
use Rattle.sn_ondisk.specs.LogHalf.{HasNoLater, base_of}
use Rattle.sn_log.specs.Positions.{half_base}
use Rattle.sn_root.specs.Fault.{block_of}
use Rattle.sn_root.specs.declared.fault.RootFault.{RootFault}
use Rattle.sn_root.specs.declared.fault.RootFault.TheVariants as root
use Rattle.sn_sound.specs.Logs.{half_block}
use Rattle.sn_examine.specs.Failing.{read_fault}

-- what a mount makes of slots without a newest root
abbrev pub root_fault : RootFault → MountFault
root_fault root.NoOpenRoot = fault.NoRoot
root_fault root.UnknownVersion = fault.Version
root_fault (root.Damaged damage) = fault.Damaged Root (block_of damage)
root_fault (root.Read f) = read_fault f

-- a damage that is reported is one of the roots
abbrev pub IsOfRoots : MountFault → Type 0
IsOfRoots (fault.Damaged damage block) = damage ≡ Root
IsOfRoots cause = Unit {0}

-- a record of an epoch later than this one is first in the half, which is reported with its first block; or that couldn't be read
abbrev pub IsLaterIn : MountFault → Contents → ℕ → LogHalf → ℕ → Type 0
IsLaterIn (fault.Damaged damage block) c n half epoch = (damage ≡ Log) × (HasNoLater c (half_base n half) epoch → ⊥) × (block ≡ start_of n (area.Log half))
IsLaterIn fault.Memory c n half epoch = Unit {0}
IsLaterIn fault.Device c n half epoch = Unit {0}
IsLaterIn cause c n half epoch = ⊥

-- the same of the half of some epoch
abbrev pub SomeIsLater : MountFault → Contents → ℕ → ℕ → Type 0
SomeIsLater (fault.Damaged damage block) c n epoch = (damage ≡ Log) × ((e : ℕ) × (HasNoLater c (base_of n e) epoch → ⊥) × (block ≡ half_block n e))
SomeIsLater fault.Memory c n epoch = Unit {0}
SomeIsLater fault.Device c n epoch = Unit {0}
SomeIsLater cause c n epoch = ⊥
