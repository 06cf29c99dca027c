-- When a disk is sound: nothing that a check looks for is wrong with it.
use Rattle.std.specs.Prelude.{◌≡◌, ℕ, ◌*◌, ◌≤◌, length}
use Rattle.sn_device.specs.Sectors.{Contents, AreSectors}
use Rattle.sn_layout.specs.declared.geometry.Slot.{Slot}
use Rattle.sn_layout.specs.declared.root.RootBody.{RootBody}
use Rattle.sn_layout.specs.Geometry.{IsDiskSize}
use Rattle.sn_layout.specs.Superblock.{superblock_bytes}
use Rattle.sn_model.specs.World.{World}
use Rattle.sn_ondisk.specs.Blocks.{block_at}
use Rattle.sn_ondisk.specs.MapCopy.{map_word}
use Rattle.sn_ondisk.specs.Roots.{IsNewest}
use Rattle.sn_ondisk.specs.Trees.{store_of}
use Rattle.sn_opening.specs.Opens.{Opens}
use Rattle.sn_sound.specs.Logs.{HasSoundLog}
use Rattle.sn_sound.specs.Maps.{IsSoundRoot, free_blocks}

-- The contents are those of a device of so many sectors.
pub record IsOfDevice (sectors : ℕ) (c : Contents) : Type 0 where
  pub whole : AreSectors c
  pub count : length c ≡ sectors

-- The disk is formatted for so many blocks, and the device has them.
pub record IsFormatted (sectors : ℕ) (c : Contents) (n : ℕ) : Type 0 where
  pub size : IsDiskSize n
  pub spelled : block_at c 0 ≡ superblock_bytes (record { geometry = n })
  pub room : 8 * n ≤ sectors

-- The disk has this newest root in this slot, and is sound.
pub record IsSoundDisk (sectors : ℕ) (c : Contents) (n : ℕ) (slot : Slot) (root : RootBody) : Type 0 where
  pub formatted : IsFormatted sectors c n
  pub newest : IsNewest c slot root
  pub roots : IsSoundRoot n (store_of c) root (map_word n c slot)
  pub log : HasSoundLog n c root (free_blocks n (store_of c) root)

-- ---- as runs ask for it

-- the contents are those of a sound disk
pub record IsSoundImage (sectors : ℕ) (c : Contents) : Type 0 where
  pub blocks : ℕ
  pub slot : Slot
  pub root : RootBody
  pub sound : IsSoundDisk sectors c blocks slot root

-- The device holds a world: its contents are those of a sound disk, and open to it.
pub record IsImageOf (world : World) (sectors : ℕ) (c : Contents) : Type 0 where
  pub image : IsSoundImage sectors c
  pub opens : Opens image.blocks c world
