-- What is wrong with a disk, group by group, and what a check is to answer.
use Rattle.std.specs.Prelude.{◌≡◌, ◌⊎◌, ℕ, ◌*◌, ◌<◌, Contains}
use Rattle.sn_device.specs.Sectors.{Contents}
use Rattle.sn_layout.specs.declared.geometry.Slot.{Slot}
use Rattle.sn_layout.specs.declared.root.RootBody.{RootBody}
use Rattle.sn_layout.specs.Geometry.{map_blocks, gate_sector}
use Rattle.sn_model.specs.declared.fault.Damage.{Damage}
use Rattle.sn_model.specs.declared.fault.Damage.TheVariants.{Root, Pointer, ReachedTwice, MapWord, Misspelt, Links, Log}
use Rattle.sn_model.specs.declared.fault.MountFault.{MountFault}
use Rattle.sn_model.specs.declared.fault.MountFault.TheVariants as mount
use Rattle.sn_ondisk.specs.Gates.{IsClosed}
use Rattle.sn_ondisk.specs.MapCopy.{map_word}
use Rattle.sn_ondisk.specs.Roots.{IsNewest, body_block}
use Rattle.sn_ondisk.specs.Trees.{store_of}
use Rattle.sn_root.specs.Fault.{block_of}
use Rattle.sn_root.specs.Finding.{AreKnown, IsDamaged}
use Rattle.sn_root.specs.Slots.{IsUnknown}
use Rattle.sn_root.specs.declared.fault.RootDamage.{RootDamage}
use Rattle.sn_sound.specs.Disks.{IsFormatted, IsSoundDisk}
use Rattle.sn_sound.specs.Faults.{LeadsOut, IsReachedTwice, IsMisspelt, IsLinkFault}
use Rattle.sn_sound.specs.Logs.{IsLogFault}
use Rattle.sn_sound.specs.Maps.{Rooted, rooted_in, IsSetOfRoots, free_blocks}

-- Of one of the roots this is so.
abbrev pub OfSome : RootBody → (Rooted → Type 0) → Type 0
OfSome root P = (r : Rooted) × Contains (rooted_in root) r × P r

-- The fault is at this block of a disk whose newest root is this one.
abbrev pub Stands : ℕ → Contents → Slot → RootBody → Damage → ℕ → Type 0
Stands n c slot root Root block = ⊥
Stands n c slot root Pointer block = OfSome root (λ r. LeadsOut n (store_of c) r.inodes block)
Stands n c slot root ReachedTwice block = OfSome root (λ r. IsReachedTwice (store_of c) r.inodes block)
Stands n c slot root Misspelt block = OfSome root (λ r. IsMisspelt root.limits (store_of c) r.inodes (body_block slot) block)
Stands n c slot root MapWord block = (block < 1024 * map_blocks n) × (IsSetOfRoots (store_of c) (rooted_in root) block (map_word n c slot block) → ⊥)
Stands n c slot root Links block = OfSome root (λ r. IsLinkFault (store_of c) r.inodes (body_block slot) block)
Stands n c slot root Log block = IsLogFault n c root (free_blocks n (store_of c) root) block

-- the order in which faults are looked for
abbrev pub group_of : Damage → ℕ
group_of Root = 1
group_of MapWord = 3
group_of Links = 4
group_of Log = 5
group_of damage = 2

-- The fault is there, and none of an earlier group is.
pub record IsFirst (n : ℕ) (c : Contents) (slot : Slot) (root : RootBody) (damage : Damage) (block : ℕ) : Type 0 where
  pub newest : IsNewest c slot root
  pub stands : Stands n c slot root damage block
  pub before : (other : Damage) (place : ℕ) → group_of other < group_of damage → Stands n c slot root other place → ⊥

-- The roots themselves are damaged, and which is the newest can't be found.
pub record IsRootFault (c : Contents) (damage : Damage) (block : ℕ) : Type 0 where
  pub kind : damage ≡ Root
  pub which : RootDamage
  pub known : AreKnown c
  pub damaged : IsDamaged c which
  pub here : block ≡ block_of which

-- The disk is sound, and no root reaches so many of its data blocks.
pub record IsClean (sectors : ℕ) (c : Contents) (free : ℕ) : Type 0 where
  pub blocks : ℕ
  pub slot : Slot
  pub root : RootBody
  pub sound : IsSoundDisk sectors c blocks slot root
  pub free_is : free ≡ free_blocks blocks (store_of c) root

-- The disk is formatted, and the fault is one that it has, of the first group that has one.
pub record IsFaulty (sectors : ℕ) (c : Contents) (damage : Damage) (block : ℕ) : Type 0 where
  pub blocks : ℕ
  pub formatted : IsFormatted sectors c blocks
  pub why : IsRootFault c damage block ⊎ ((slot : Slot) × (root : RootBody) × IsFirst blocks c slot root damage block)

-- the disk is formatted for some number of blocks
abbrev pub IsSomeSize : ℕ → Contents → Type 0
IsSomeSize sectors c = (n : ℕ) × IsFormatted sectors c n

-- Why a check has no verdict: superblock, gates and versions come first, in this order. Want of memory and a failure of the device are in the device's clauses.
abbrev pub HasNoVerdict : ℕ → Contents → MountFault → Type 0
HasNoVerdict sectors c mount.NotFormatted = IsSomeSize sectors c → ⊥
HasNoVerdict sectors c mount.NoRoot = IsSomeSize sectors c × ((slot : Slot) → IsClosed c (gate_sector slot))
HasNoVerdict sectors c mount.Version = IsSomeSize sectors c × ((slot : Slot) × IsUnknown c slot)
HasNoVerdict sectors c (mount.Damaged damage block) = ⊥
HasNoVerdict sectors c cause = Unit {0}
