-- Images of worlds and clean disks are the same disks.
use Rattle.std.specs.Prelude.{ℕ}
use Rattle.sn_device.specs.Sectors.{Contents}
use Rattle.sn_model.specs.World.{World}
use Rattle.sn_held.specs.Images.{IsImage}
use Rattle.sn_sound.specs.Disks.{IsOfDevice}
use Rattle.sn_sound.specs.Verdicts.{IsClean}

-- the disk is sound, with some number of free blocks
abbrev pub IsSomeClean : ℕ → Contents → Type 0
IsSomeClean sectors c = (free : ℕ) × IsClean sectors c free

-- In an image of a world a check finds nothing.
abbrev pub ImagesAreClean : Type 0
ImagesAreClean = (sectors : ℕ) (c : Contents) (world : World) → IsOfDevice sectors c → IsImage c world → IsSomeClean sectors c

-- And a disk in which a check finds nothing is an image of a world.
abbrev pub CleanDisksAreImages : Type 0
CleanDisksAreImages = (sectors : ℕ) (c : Contents) → IsOfDevice sectors c → IsSomeClean sectors c → (world : World) × IsImage c world
