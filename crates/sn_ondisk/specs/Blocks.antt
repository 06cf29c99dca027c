-- The contents of a disk as bytes, blocks and numbers.
use Rattle.std.specs.Prelude.{ℕ, zero, suc, ◌+◌, ◌*◌, ◌/◌, List, [], ◌∷◌, ◌++◌, drop, Contains}
use Rattle.byteorder.specs.Endian.{little_number}
use Rattle.sn_device.specs.Sectors.{Contents, sector_at, Stretch}

-- the bytes of n sectors from one on
unfoldable pub bytes_at : Contents → ℕ → ℕ → List ℕ
bytes_at c at zero = []
bytes_at c at (suc n) = sector_at c at ++ bytes_at c (at + 1) n

-- the bytes of a block, which is eight sectors
abbrev pub block_at : Contents → ℕ → List ℕ
block_at c block = bytes_at c (8 * block) 8

-- the sectors of a block
abbrev pub InBlock : ℕ → ℕ → Type 0
InBlock block = Stretch (8 * block) 8

-- the sectors of these blocks
abbrev pub InBlocks : List ℕ → ℕ → Type 0
InBlocks blocks sector = Contains blocks (sector / 8)

-- the first n numbers of four bytes each, the lowest byte first
unfoldable pub numbers_in : ℕ → List ℕ → List ℕ
numbers_in zero bytes = []
numbers_in (suc n) bytes = little_number 4 bytes ∷ numbers_in n (drop 4 bytes)
