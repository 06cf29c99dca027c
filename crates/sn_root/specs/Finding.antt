-- What `newest` answers.
use Rattle.std.specs.Prelude.{◌≡◌, ◌≢◌, ⊤, Result, Ok, Err}
use Rattle.sn_device.specs.Sectors.{Contents}
use Rattle.sn_device.specs.declared.status.Status.{Status}
use Rattle.sn_limits.specs.Versions.{limits_of}
use Rattle.std.specs.Prelude.{None}
use Rattle.sn_layout.specs.declared.geometry.Slot.{Slot}
use Rattle.sn_layout.specs.declared.geometry.Slot.TheVariants.{A, B}
use Rattle.sn_layout.specs.declared.root.RootBody.{RootBody}
use Rattle.sn_layout.specs.Geometry.{gate_sector, other_slot}
use Rattle.sn_ondisk.specs.Gates.{IsOpen, IsClosed}
use Rattle.sn_ondisk.specs.Roots.{HasRoot, IsNewest}
use Rattle.sn_block.specs.Counts.{FailsRead}
use Rattle.sn_block.specs.declared.fault.ReadFault.{ReadFault}
use Rattle.sn_block.specs.declared.fault.ReadFault.TheVariants.{Device, Memory}
use Rattle.sn_root.specs.Slots.{gate_in, version_at, IsUnknown, IsMisspelt}
use Rattle.sn_root.specs.declared.fault.RootFault.{RootFault}
use Rattle.sn_root.specs.declared.fault.RootFault.TheVariants.{NoOpenRoot, UnknownVersion, Damaged, Read}
use Rattle.sn_root.specs.declared.fault.RootDamage.{RootDamage}
use Rattle.sn_root.specs.declared.fault.RootDamage.TheVariants.{Misspelt, EqualGenerations}
use Rattle.sn_root.specs.declared.finding.NewestRoot.{NewestRoot}

-- The newest root is this one, and the other slot's gate is the one it says.
pub record HasNewest (c : Contents) (it : NewestRoot) : Type 0 where
  pub newest : IsNewest c it.slot it.root
  pub other : gate_in c (other_slot it.slot) ≡ it.other

-- Each open slot names a version that is read.
abbrev pub AreKnown : Contents → Type 0
AreKnown c = (slot : Slot) → IsOpen c (gate_sector slot) → limits_of (version_at c slot) ≢ None

-- Both slots are open, and their roots have one generation.
pub record AreEqual (c : Contents) : Type 0 where
  pub are_open : (slot : Slot) → IsOpen c (gate_sector slot)
  pub one : RootBody
  pub other : RootBody
  pub has_one : HasRoot c A one
  pub has_other : HasRoot c B other
  pub same : one.generation ≡ other.generation

-- Where both slots are misspelt, slot A is reported.
abbrev pub IsDamaged : Contents → RootDamage → Type 0
IsDamaged c (Misspelt A) = IsMisspelt c A
IsDamaged c (Misspelt B) = IsMisspelt c B × (IsMisspelt c A → ⊥)
IsDamaged c EqualGenerations = AreEqual c

-- The answer is right. Gates come first, then versions, then what the bodies spell. Of a fault of the reading nothing is said here.
abbrev pub Finds : Contents → Result NewestRoot RootFault → Type 0
Finds c (Ok it) = HasNewest c it
Finds c (Err NoOpenRoot) = (slot : Slot) → IsClosed c (gate_sector slot)
Finds c (Err UnknownVersion) = (slot : Slot) × IsUnknown c slot
Finds c (Err (Damaged damage)) = AreKnown c × IsDamaged c damage
Finds c (Err (Read fault)) = ⊤

-- The blocks that it needs could be read.
abbrev pub IsRead : Result NewestRoot RootFault → Type 0
IsRead result = (fault : ReadFault) → result ≢ Err (Read fault)

-- It counts nothing but a failure of the device.
abbrev pub CountsFinding : Result NewestRoot RootFault → Status → Status → Type 0
CountsFinding (Ok it) old new = new ≡ old
CountsFinding (Err NoOpenRoot) old new = new ≡ old
CountsFinding (Err UnknownVersion) old new = new ≡ old
CountsFinding (Err (Damaged damage)) old new = new ≡ old
CountsFinding (Err (Read Memory)) old new = new ≡ old
CountsFinding (Err (Read Device)) old new = FailsRead old new
