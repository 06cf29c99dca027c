-- What a mount finds on a disk, and a mounted file system keeps there whatever a crash leaves.
use Rattle.std.specs.Prelude.{◌≡◌, ◌⊎◌, ℕ, ◌+◌, List, [], ◌++◌, length, slice_index}
use Rattle.sn_device.specs.Sectors.{Contents}
use Rattle.sn_layout.specs.Superblock.{superblock_bytes}
use Rattle.sn_model.specs.World.{World}
use Rattle.sn_ondisk.specs.Blocks.{block_at}
use Rattle.sn_log.specs.Positions.{LogPosition, base_at, payloads_of}
use Rattle.sn_ondisk.specs.LogHalf.{HasNoLater, ReplaysTo, base_of}
use Rattle.sn_ondisk.specs.MapCopy.{HasMap}
use Rattle.sn_ondisk.specs.Trees.{store_of}
use Rattle.sn_opening.specs.Opens.{IsDisk, Opens}
use Rattle.sn_image.specs.Image.{image}
use Rattle.sn_sound.specs.Charges.{Fits}
use Rattle.sn_sound.specs.Logs.{HasAgeLeft, IsToRecover}
use Rattle.sn_sound.specs.Maps.{IsSoundRoot, free_blocks}

-- The contents are those of a formatted disk, whose newest root is sound with its snapshots and its map. They open to this world,
-- at the first place of neither half of the log is a record of an epoch later than the next, and what was logged on top of the root
-- was charged no more than the root leaves free.
pub record IsImage (c : Contents) (world : World) : Type 0 where
  pub blocks : ℕ
  pub disk : IsDisk blocks c
  pub spelled : block_at c 0 ≡ superblock_bytes (record { geometry = blocks })
  pub opens : Opens blocks c world
  -- the words of its map
  pub words : List ℕ
  pub map : HasMap blocks c opens.slot words
  pub sound : IsSoundRoot blocks (store_of c) opens.root (slice_index words)
  pub none_later : (epoch : ℕ) → HasNoLater c (base_of blocks epoch) (opens.root.epoch + 1)
  pub fits : Fits opens.root.limits (opens.older ++ opens.newer) (image (store_of c) opens.root.inode_file) (free_blocks blocks (store_of c) opens.root)
  -- a mount of it can make a point, where it has to
  pub age : IsToRecover opens.root (opens.older ++ opens.newer) (image (store_of c) opens.root.inode_file) → HasAgeLeft opens.root

-- The log of an image ends at this position, after the records of its root's epoch while the next one has none, else after those of that.
abbrev pub EndsAt : (c : Contents) (world : World) → IsImage c world → LogPosition → Type 0
EndsAt c world image at =
    (at.blocks ≡ image.blocks)
    × (((image.opens.newer ≡ []) × (at.epoch ≡ image.opens.root.epoch) × (at.count ≡ length image.opens.older) × ReplaysTo c (base_at at) at.epoch (payloads_of image.opens.older) at.place)
    ⊎ ((at.epoch ≡ image.opens.root.epoch + 1) × (at.count ≡ length image.opens.newer) × ReplaysTo c (base_at at) at.epoch (payloads_of image.opens.newer) at.place))
