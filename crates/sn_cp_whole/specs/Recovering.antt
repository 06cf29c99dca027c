-- What a whole point makes of a disk on which a mount has replayed something.
use Rattle.std.specs.Prelude.{◌≡◌, ℕ, ◌+◌, ◌*◌, ◌≤◌, [], Result, Ok, Err, IfErr, OnOk}
use Rattle.sn_block.specs.Counts.{IsLater, called}
use Rattle.sn_device.specs.Crash.{LeavesOnly}
use Rattle.sn_device.specs.Disk.{Disk, IsSynced, reads}
use Rattle.sn_device.specs.Sectors.{Single, Union}
use Rattle.sn_device.specs.declared.status.Status.{Status}
use Rattle.sn_image.specs.Image.{image}
use Rattle.sn_layout.specs.declared.gate.Gate.{Gate}
use Rattle.sn_layout.specs.declared.gate.Gate.TheVariants.{Open}
use Rattle.sn_layout.specs.declared.geometry.Slot.{Slot}
use Rattle.sn_layout.specs.Geometry.{gate_sector, map_blocks}
use Rattle.sn_model.specs.World.{World}
use Rattle.sn_ondisk.specs.Blocks.{InBlock}
use Rattle.sn_ondisk.specs.MapCopy.{InMap}
use Rattle.sn_ondisk.specs.Roots.{body_block}
use Rattle.sn_ondisk.specs.Trees.{store_of}
use Rattle.sn_overlay.specs.Overlays.{no_changes}
use Rattle.sn_root.specs.Replacing.{closing_writes}
use Rattle.sn_held.specs.Held.{Kept}
use Rattle.sn_held.specs.Images.{IsImage}
use Rattle.sn_cp.specs.Counting.{root_steps}
use Rattle.sn_cp_whole.specs.Making.{HasCauseFor}
use Rattle.sn_cp_whole.specs.Planning.{kept_in}
use Rattle.sn_cp_whole.specs.declared.base.PointBase.{PointBase}
use Rattle.sn_cp_whole.specs.declared.fault.PointFault.{PointFault}
use Rattle.sn_cp_whole.specs.declared.fault.PointFault.TheVariants.{Memory, Age, Read, Damaged, Device}

-- The disk is an image of this world over the root that is kept: nothing is logged on top of it, its tree is the live one, and nothing is unsynced.
pub record IsImageOver (d : Disk) (world : World) (n : ℕ) (k : Kept) : Type 0 where
  pub live : image (store_of (reads d)) k.root.inode_file ≡ world.live
  pub image : IsImage (reads d) world
  pub blocks : image.blocks ≡ n
  pub slot : image.opens.slot ≡ k.slot
  pub root : image.opens.root ≡ k.root
  pub words : image.words ≡ k.words
  pub older : image.opens.older ≡ []
  pub newer : image.opens.newer ≡ []
  pub synced : IsSynced d

-- At `Ok` the disk is an image of the world over the next root, and a crash at any moment on the way leaves an image of it; so it does where the device failed. Otherwise nothing was written. What is read can always be used, and is never too much for what is free.
abbrev pub MakesRecovery : Result PointBase PointFault → ℕ → World → Disk → Disk → Type 0
MakesRecovery (Ok base) n world old new = LeavesOnly old new (λ c. IsImage c world) × IsImageOver new world n (kept_in base no_changes)
MakesRecovery (Err Memory) n world old new = new ≡ old
MakesRecovery (Err Age) n world old new = new ≡ old
MakesRecovery (Err Read) n world old new = new ≡ old
MakesRecovery (Err Damaged) n world old new = ⊥
MakesRecovery (Err Device) n world old new = LeavesOnly old new (λ c. IsImage c world)

-- all sectors but those of the superblock, and of a slot's root and map: a point into the other slot writes there alone
abbrev pub IsApart : ℕ → Slot → ℕ → Type 0
IsApart n slot sector = Union (InBlock 0) (Union (InMap n slot) (Union (InBlock (body_block slot)) (Single (gate_sector slot)))) sector → ⊥

-- ---- what it costs

-- the writes of the steps of a point of this many new blocks on a disk of n blocks, into a slot whose gate is this: eight
-- a block of data or map, and those of the root
abbrev pub writes_of_steps : ℕ → Gate → ℕ → ℕ
writes_of_steps n gate count = 8 * count + 8 * map_blocks n + (closing_writes gate + 9)

-- their syncs: one after the map, and one each part of the root
abbrev pub syncs_of_steps : Gate → ℕ
syncs_of_steps gate = 1 + root_steps gate

-- What they cost that may have this many new blocks, and no more than the disk has.
pub record CostsSteps {T : Type 0} (result : Result T PointFault) (n most : ℕ) (old new : Status) : Type 0 where
  pub done : OnOk result ((count : ℕ) × (count ≤ most) × (count ≤ n) × (gate : Gate) × (new ≡ called (writes_of_steps n gate count) (syncs_of_steps gate) old))
  pub later : IsLater old new
  pub writes : new.writes ≤ old.writes + writes_of_steps n Open n
  pub syncs : new.syncs ≤ old.syncs + syncs_of_steps Open
  pub cause : IfErr result (λ fault. HasCauseFor fault old new)
