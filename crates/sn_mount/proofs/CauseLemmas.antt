-- Why a disk isn't mounted: what the check reports of it.
use Rattle.std.proofs.Common.{inl, ℕ}
use Rattle.sn_device.specs.Sectors.{Contents}
use Rattle.sn_device.specs.Crash.{Touches}
use Rattle.sn_device.specs.Disk.{Disk}
use Rattle.sn_block.specs.Effects.{Nowhere}
use Rattle.sn_block.specs.declared.fault.ReadFault.{ReadFault}
use Rattle.sn_block.specs.declared.fault.ReadFault.TheVariants as read
use Rattle.sn_model.specs.declared.fault.Damage.{Damage}
use Rattle.sn_model.specs.declared.fault.Damage.TheVariants as damage
use Rattle.sn_model.specs.declared.fault.MountFault.{MountFault}
use Rattle.sn_model.specs.declared.fault.MountFault.TheVariants as fault
use Rattle.sn_model.specs.World.{World}
use Rattle.sn_held.specs.Images.{IsImage}
use Rattle.sn_sound.specs.Disks.{IsOfDevice}
use Rattle.sn_examine.specs.Failing.{read_fault}
use Rattle.sn_examine.specs.Laws.{IsSomeClean}
use Rattle.sn_examine.specs.Refusing.{Refuses, StandsAt}
use Rattle.sn_examine.proofs.ImageLemmas.{clean_image}
use Rattle.sn_check.specs.Verdicts.{IsCause}
use Rattle.sn_mount.specs.Recovering.{WritesAtFault}

-- an image has no damage
no_damage : (damage : Damage) (sectors : ℕ) (c : Contents) (block : ℕ) (world : World) → IsImage c world → StandsAt damage sectors c block → ⊥
no_damage damage.Root sectors c block world image h = h.0 world image
no_damage damage.Pointer sectors c block world image h = h
no_damage damage.ReachedTwice sectors c block world image h = h
no_damage damage.MapWord sectors c block world image h = h.0 world image
no_damage damage.Misspelt sectors c block world image h = h
no_damage damage.Links sectors c block world image h = h
no_damage damage.Log sectors c block world image h = h.0 world image

-- a clean disk is refused for memory or the device alone
pub refused_cause : (f : MountFault) (sectors : ℕ) (c : Contents) → IsOfDevice sectors c → IsSomeClean sectors c → Refuses f sectors c → IsCause sectors c f
refused_cause (fault.Damaged damage block) sectors c device clean refuses = let image = clean_image sectors c device clean in absurd (no_damage damage sectors c block image.0 image.1 refuses.1)
refused_cause fault.NotFormatted sectors c device clean refuses = refuses
refused_cause fault.Version sectors c device clean refuses = refuses
refused_cause fault.NoRoot sectors c device clean refuses = refuses
refused_cause fault.Memory sectors c device clean refuses = tt
refused_cause fault.Device sectors c device clean refuses = tt

-- a clearing that fails
pub read_cause : (f : ReadFault) (sectors : ℕ) (c : Contents) → IsCause sectors c (read_fault f)
read_cause read.Device sectors c = tt
read_cause read.Memory sectors c = tt

-- whatever a mount that has written nothing was refused for
pub writes_none : (f : MountFault) (sectors : ℕ) (old new : Disk) → Touches Nowhere old new → WritesAtFault f sectors old new
writes_none (fault.Damaged damage block) sectors old new touches = touches
writes_none fault.NotFormatted sectors old new touches = touches
writes_none fault.Version sectors old new touches = touches
writes_none fault.NoRoot sectors old new touches = touches
writes_none fault.Memory sectors old new touches = inl touches
writes_none fault.Device sectors old new touches = inl touches
