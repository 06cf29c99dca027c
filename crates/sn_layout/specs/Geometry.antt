-- Where things lie on a disk of n blocks.
use Rattle.std.specs.Prelude.{ℕ, ◌+◌, ◌*◌, ◌/◌, ◌%◌, ◌<◌, ◌≤◌, ◌==◌, if◌then◌else◌}
use Rattle.sn_layout.specs.declared.geometry.Area.{Area}
use Rattle.sn_layout.specs.declared.geometry.Area.TheVariants.{Superblock, RootBody, Gates, MapCopy, Log, Data}
use Rattle.sn_layout.specs.declared.geometry.Slot.{Slot}
use Rattle.sn_layout.specs.declared.geometry.Slot.TheVariants.{A, B}
use Rattle.sn_layout.specs.declared.geometry.LogHalf.{LogHalf}
use Rattle.sn_layout.specs.declared.geometry.LogHalf.TheVariants.{Zero, One}

-- the sizes that a disk can have, in blocks
pub record IsDiskSize (n : ℕ) : Type 0 where
  pub least : 256 ≤ n
  pub most : n ≤ 1048576

-- how many blocks a copy of the map takes, at a word of four bytes for each block
abbrev pub map_blocks : ℕ → ℕ
map_blocks n = (n + 1023) / 1024

-- the first block of an area
abbrev pub start_of : ℕ → Area → ℕ
start_of n Superblock = 0
start_of n (RootBody A) = 1
start_of n (RootBody B) = 2
start_of n Gates = 3
start_of n (MapCopy A) = 4
start_of n (MapCopy B) = 4 + map_blocks n
start_of n (Log Zero) = 4 + 2 * map_blocks n
start_of n (Log One) = 36 + 2 * map_blocks n
start_of n Data = 68 + 2 * map_blocks n

-- the block after the last of an area
abbrev pub end_of : ℕ → Area → ℕ
end_of n Superblock = 1
end_of n (RootBody A) = 2
end_of n (RootBody B) = 3
end_of n Gates = 4
end_of n (MapCopy A) = 4 + map_blocks n
end_of n (MapCopy B) = 4 + 2 * map_blocks n
end_of n (Log Zero) = 36 + 2 * map_blocks n
end_of n (Log One) = 68 + 2 * map_blocks n
end_of n Data = n

-- the block is in the area
pub record IsIn (n : ℕ) (area : Area) (block : ℕ) : Type 0 where
  pub from : start_of n area ≤ block
  pub below : block < end_of n area

-- the sector of a slot's gate
abbrev pub gate_sector : Slot → ℕ
gate_sector A = 24
gate_sector B = 25

abbrev pub other_slot : Slot → Slot
other_slot A = B
other_slot B = A

-- the half that the records of an epoch are in
abbrev pub half_of_epoch : ℕ → LogHalf
half_of_epoch epoch = if epoch % 2 == 0 then Zero else One
