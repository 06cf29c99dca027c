-- What is charged for what a mount replays, against what is free.
use Rattle.std.specs.Prelude.{◌≡◌, ◌⊎◌, ℕ, true, false}
use Rattle.sn_device.specs.Sectors.{Contents}
use Rattle.sn_layout.specs.declared.geometry.Slot.{Slot}
use Rattle.sn_layout.specs.declared.root.RootBody.{RootBody}
use Rattle.sn_model.specs.declared.fault.Damage.TheVariants.{Log}
use Rattle.sn_model.specs.declared.fault.MountFault.{MountFault}
use Rattle.sn_model.specs.declared.fault.MountFault.TheVariants as fault
use Rattle.sn_held.specs.Rooms.{RoomCounts, is_covered, mounted}
use Rattle.sn_sound.specs.Logs.{half_block}
use Rattle.sn_examine.specs.Refusing.{TellsFree}

-- this much is free by the map, and covers the charges, with those of the root's version for each file without names
pub record FindsRoom (n : ℕ) (c : Contents) (slot : Slot) (root : RootBody) (charges dropped : ℕ) (room : RoomCounts) : Type 0 where
  pub free : ℕ
  pub told : TellsFree n c slot root free
  pub is : room ≡ mounted free charges dropped
  pub covered : is_covered root.limits (mounted free charges dropped) ≡ true

-- it doesn't, which is reported with the half of the root's epoch
pub record LacksRoom (n : ℕ) (c : Contents) (slot : Slot) (root : RootBody) (charges dropped block : ℕ) : Type 0 where
  pub free : ℕ
  pub told : TellsFree n c slot root free
  pub uncovered : is_covered root.limits (mounted free charges dropped) ≡ false
  pub is : block ≡ half_block n root.epoch

-- or that couldn't be read
abbrev pub IsUncovered : MountFault → ℕ → Contents → Slot → RootBody → ℕ → ℕ → Type 0
IsUncovered (fault.Damaged damage block) n c slot root charges dropped = (damage ≡ Log) × LacksRoom n c slot root charges dropped block
IsUncovered fault.Memory n c slot root charges dropped = Unit {0}
IsUncovered fault.Device n c slot root charges dropped = Unit {0}
IsUncovered cause n c slot root charges dropped = ⊥

-- memory was refused, or the device failed
abbrev pub IsNoDamage : MountFault → Type 0
IsNoDamage f = (f ≡ fault.Memory) ⊎ (f ≡ fault.Device)
