-- Why a disk isn't mounted.
use Rattle.std.specs.Prelude.{◌≡◌, ℕ, List, Result, IfErr, slice_index}
use Rattle.sn_device.specs.Sectors.{Contents}
use Rattle.sn_layout.specs.Geometry.{start_of}
use Rattle.sn_layout.specs.declared.geometry.Area.TheVariants.{MapCopy}
use Rattle.sn_layout.specs.declared.geometry.Slot.{Slot}
use Rattle.sn_layout.specs.declared.root.RootBody.{RootBody}
use Rattle.sn_model.specs.declared.fault.Damage.{Damage}
use Rattle.sn_model.specs.declared.fault.Damage.TheVariants.{Root, Pointer, ReachedTwice, MapWord, Misspelt, Links, Log}
use Rattle.sn_model.specs.declared.fault.MountFault.{MountFault}
use Rattle.sn_model.specs.declared.fault.MountFault.TheVariants as fault
use Rattle.sn_model.specs.World.{World}
use Rattle.sn_ondisk.specs.MapCopy.{HasMap}
use Rattle.sn_ondisk.specs.Roots.{IsNewest}
use Rattle.sn_ondisk.specs.Trees.{store_of}
use Rattle.sn_sound.specs.Disks.{IsFormatted}
use Rattle.sn_sound.specs.Logs.{IsLogFault}
use Rattle.sn_sound.specs.Maps.{IsSoundRoot, free_blocks}
use Rattle.sn_sound.specs.Verdicts.{HasNoVerdict, IsRootFault, IsSomeSize}
use Rattle.sn_held.specs.Images.{IsImage}

-- the contents are an image of no world
abbrev pub IsNoImage : Contents → Type 0
IsNoImage c = (world : World) → IsImage c world → ⊥

-- A number of free blocks that is the root's where the map is right.
abbrev pub TellsFree : ℕ → Contents → Slot → RootBody → ℕ → Type 0
TellsFree n c slot root free = (words : List ℕ) → HasMap n c slot words → IsSoundRoot n (store_of c) root (slice_index words) → free ≡ free_blocks n (store_of c) root

-- The log has a fault at this block. How much is free was read from the map.
pub record HasLogFault (sectors : ℕ) (c : Contents) (block : ℕ) : Type 0 where
  pub blocks : ℕ
  pub formatted : IsFormatted sectors c blocks
  pub slot : Slot
  pub root : RootBody
  pub newest : IsNewest c slot root
  pub free : ℕ
  pub told : TellsFree blocks c slot root free
  pub is : IsLogFault blocks c root free block

-- The map beside the newest root isn't that of a root that is sound with its snapshots, which is reported with its first block.
pub record HasUnsoundMap (sectors : ℕ) (c : Contents) (block : ℕ) : Type 0 where
  pub blocks : ℕ
  pub formatted : IsFormatted sectors c blocks
  pub slot : Slot
  pub root : RootBody
  pub newest : IsNewest c slot root
  pub unsound : (words : List ℕ) → HasMap blocks c slot words → IsSoundRoot blocks (store_of c) root (slice_index words) → ⊥
  pub is : block ≡ start_of blocks (MapCopy slot)

-- A damage of the roots, of the map of the newest one or of the log is at the block that it is reported
-- with, and the contents are an image of no world.
abbrev pub StandsAt : Damage → ℕ → Contents → ℕ → Type 0
StandsAt Root sectors c block = IsNoImage c × IsRootFault c Root block
StandsAt Pointer sectors c block = ⊥
StandsAt ReachedTwice sectors c block = ⊥
StandsAt MapWord sectors c block = IsNoImage c × HasUnsoundMap sectors c block
StandsAt Misspelt sectors c block = ⊥
StandsAt Links sectors c block = ⊥
StandsAt Log sectors c block = IsNoImage c × HasLogFault sectors c block

-- Superblock, gates and versions come first, in this order, and a damage is one of a formatted disk. A lack of memory and a failure of the
-- device are described by the device's clauses.
abbrev pub Refuses : MountFault → ℕ → Contents → Type 0
Refuses (fault.Damaged damage block) sectors c = IsSomeSize sectors c × StandsAt damage sectors c block
Refuses fault.NotFormatted sectors c = HasNoVerdict sectors c fault.NotFormatted
Refuses fault.Version sectors c = HasNoVerdict sectors c fault.Version
Refuses fault.NoRoot sectors c = HasNoVerdict sectors c fault.NoRoot
Refuses fault.Memory sectors c = Unit {0}
Refuses fault.Device sectors c = Unit {0}

abbrev pub RefusesAs : {T : Type 0} → Result T MountFault → ℕ → Contents → Type 0
RefusesAs result sectors c = IfErr result (λ f. Refuses f sectors c)
