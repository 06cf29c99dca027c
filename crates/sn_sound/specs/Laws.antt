-- What follows from the definitions of soundness.
use Rattle.std.specs.Prelude.{◌≡◌, ◌⊎◌, ℕ, ◌-◌, ◌==◌, count_by, List}
use Rattle.std.specs.List.{range_with_len}
use Rattle.sn_device.specs.Sectors.{Contents}
use Rattle.sn_device.specs.Disk.{Disk, Always}
use Rattle.sn_layout.specs.declared.geometry.Area.TheVariants.{Data}
use Rattle.sn_layout.specs.declared.geometry.Slot.{Slot}
use Rattle.sn_layout.specs.declared.root.RootBody.{RootBody}
use Rattle.sn_layout.specs.declared.tree.BlockTree.{BlockTree}
use Rattle.sn_layout.specs.Geometry.{start_of}
use Rattle.sn_limits.specs.declared.limits.Limits.{Limits}
use Rattle.sn_model.specs.declared.change.Change.{Change}
use Rattle.sn_model.specs.declared.fault.Damage.{Damage}
use Rattle.sn_model.specs.declared.fault.MountFault.{MountFault}
use Rattle.sn_model.specs.declared.fault.MountFault.TheVariants as mount
use Rattle.sn_model.specs.Covers.{Covers}
use Rattle.sn_model.specs.NameTree.{IsHierarchy}
use Rattle.sn_model.specs.Tree.{Tree}
use Rattle.sn_model.specs.World.{World}
use Rattle.sn_model.specs.Worlds.{IsFound}
use Rattle.sn_ondisk.specs.MapCopy.{map_word}
use Rattle.sn_ondisk.specs.TreeLaws.{SameIn}
use Rattle.sn_ondisk.specs.Trees.{Store, store_of}
use Rattle.sn_image.specs.Reach.{reach}
use Rattle.sn_image.specs.Sound.{IsSound}
use Rattle.sn_opening.specs.Opens.{LieInData, Opens}
use Rattle.sn_opening.specs.Worlds.{all_reach}
use Rattle.sn_model.specs.Charges.{charge_for}
use Rattle.sn_sound.specs.Disks.{IsFormatted, IsImageOf, IsOfDevice, IsSoundDisk, IsSoundImage}
use Rattle.sn_sound.specs.Faults.{LeadsOut, IsReachedTwice, IsMisspelt, IsLinkFault}
use Rattle.sn_sound.specs.Maps.{IsSoundRoot, free_blocks}
use Rattle.sn_sound.specs.Standing.{LogStands, RootStands}
use Rattle.sn_sound.specs.Verdicts.{HasNoVerdict, IsClean, IsFaulty, Stands}

-- ---- soundness and faults

-- no fault of the first, second and fourth group is at the block, for a root whose body is in `body`
pub record HasNoFaultAt (limits : Limits) (n : ℕ) (s : Store) (inodes : BlockTree) (body block : ℕ) : Type 0 where
  pub pointer : LeadsOut n s inodes block → ⊥
  pub twice : IsReachedTwice s inodes block → ⊥
  pub spelling : IsMisspelt limits s inodes body block → ⊥
  pub links : IsLinkFault s inodes body block → ⊥

-- A fault of one root makes it unsound.
abbrev pub SoundRootsHaveNoFault : Type 0
SoundRootsHaveNoFault = (limits : Limits) (n : ℕ) (s : Store) (inodes : BlockTree) (body block : ℕ) → IsSound limits n s inodes → HasNoFaultAt limits n s inodes body block

-- A fault makes the disk unsound. So a check that reports only faults that are there, and is clean only where the disk is sound, is exact.
abbrev pub SoundDisksHaveNoFault : Type 0
SoundDisksHaveNoFault = (sectors : ℕ) (c : Contents) (n : ℕ) (slot : Slot) (root : RootBody) (damage : Damage) (block : ℕ) → IsOfDevice sectors c
    → IsSoundDisk sectors c n slot root → Stands n c slot root damage block → ⊥

-- A disk isn't both clean and faulty, whatever is reported of it.
abbrev pub CleanIsNotFaulty : Type 0
CleanIsNotFaulty = (sectors : ℕ) (c : Contents) (free : ℕ) (damage : Damage) (block : ℕ) → IsOfDevice sectors c → IsClean sectors c free → IsFaulty sectors c damage block → ⊥

-- Nor is it without a verdict, but for want of memory or a failure of the device.
abbrev pub CleanHasAVerdict : Type 0
CleanHasAVerdict = (sectors : ℕ) (c : Contents) (free : ℕ) (fault : MountFault) → IsClean sectors c free → HasNoVerdict sectors c fault → (fault ≡ mount.Memory) ⊎ (fault ≡ mount.Device)

-- On a disk whose map is right the free blocks are the words of the data area that are 0.
abbrev pub FreeIsCounted : Type 0
FreeIsCounted = (n : ℕ) (s : Store) (root : RootBody) (word : ℕ → ℕ) → IsSoundRoot n s root word
    → free_blocks n s root ≡ count_by (λ block. word block == 0) (range_with_len (start_of n Data) (n - start_of n Data))

-- ---- what a sound disk opens to

-- A sound disk opens to a world.
abbrev pub SoundDisksOpen : Type 0
SoundDisksOpen = (sectors : ℕ) (c : Contents) (n : ℕ) (slot : Slot) (root : RootBody) → IsSoundDisk sectors c n slot root → (world : World) × Opens n c world

-- And each world that it opens to is one that a mount may find: its trees are name trees within the limits of the root's version, the frozen ones have the names of snapshots, nobody is logged in, and no live file is without a name.
abbrev pub SoundDisksOpenToWorlds : Type 0
SoundDisksOpenToWorlds = (sectors : ℕ) (c : Contents) (n : ℕ) (slot : Slot) (root : RootBody) (world : World) → IsOfDevice sectors c → IsSoundDisk sectors c n slot root → Opens n c world → IsFound root.limits world

-- A sound image holds a world.
abbrev pub SoundImagesHoldAWorld : Type 0
SoundImagesHoldAWorld = (sectors : ℕ) (c : Contents) → IsSoundImage sectors c → (world : World) × IsImageOf world sectors c

-- And one alone.
abbrev pub ImagesHoldOneWorld : Type 0
ImagesHoldOneWorld = (world other : World) (sectors : ℕ) (c : Contents) → IsOfDevice sectors c → IsImageOf world sectors c → IsImageOf other sectors c → world ≡ other

-- ---- the root that is mounted

-- What a sound root reaches, its snapshots too, is in the data area.
abbrev pub SoundRootsLieInData : Type 0
SoundRootsLieInData = (n : ℕ) (s : Store) (root : RootBody) (word : ℕ → ℕ) → IsSoundRoot n s root word → LieInData n (all_reach s root)

-- Whether a root is sound depends on the blocks that it reaches.
abbrev pub SoundnessIsOfTheReach : Type 0
SoundnessIsOfTheReach = (limits : Limits) (n : ℕ) (s r : Store) (inodes : BlockTree) → SameIn (reach s inodes) s r → IsSound limits n s inodes → IsSound limits n r inodes

-- Where a root is in place, it is sound in whatever a crash leaves.
abbrev pub StandingRootsAreSound : Type 0
StandingRootsAreSound = (n : ℕ) (d : Disk) (s : Store) (slot : Slot) (root : RootBody) (words : List ℕ) (older newer : List Change)
    → RootStands n d s slot root words older newer → Always d (λ c. IsSoundRoot n (store_of c) root (map_word n c slot))

-- And where the log on top of it is in place too, whatever a crash leaves is a sound disk with that root.
abbrev pub StandingDisksAreSound : Type 0
StandingDisksAreSound = (sectors n : ℕ) (d : Disk) (s : Store) (slot : Slot) (root : RootBody) (words : List ℕ) (older newer : List Change)
    → Always d (λ c. IsFormatted sectors c n) → RootStands n d s slot root words older newer → LogStands n d s root older newer
    → Always d (λ c. IsSoundDisk sectors c n slot root)

-- ---- charges

-- A change is charged alike on a tree that covers another as on that one.
abbrev pub CoversAreChargedAlike : Type 0
CoversAreChargedAlike = (limits : Limits) (replayed live : Tree) (change : Change) → IsHierarchy live → Covers replayed live → charge_for limits replayed change ≡ charge_for limits live change
