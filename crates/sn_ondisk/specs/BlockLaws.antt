-- The bytes of sectors, blocks and gates.
use Rattle.std.specs.Prelude.{◌≡◌, ◌↔◌, ℕ, ◌+◌, ◌*◌, ◌≤◌, ◌++◌, length}
use Rattle.sn_device.specs.Sectors.{Contents, AreSectors, sector_at}
use Rattle.sn_layout.specs.Gate.{gate_of}
use Rattle.sn_layout.specs.declared.gate.Gate.TheVariants.{Open}
use Rattle.sn_ondisk.specs.Blocks.{bytes_at, block_at}
use Rattle.sn_ondisk.specs.Gates.{IsOpen}

-- The bytes of a stretch of sectors are those of its front and then those of the rest.
abbrev pub BytesFollow : Type 0
BytesFollow = (c : Contents) (at n m : ℕ) → bytes_at c at (n + m) ≡ bytes_at c at n ++ bytes_at c (at + n) m

-- A block that is on the disk has 4,096 bytes.
abbrev pub BlocksAreWhole : Type 0
BlocksAreWhole = (c : Contents) (block : ℕ) → AreSectors c → 8 * block + 8 ≤ length c → length (block_at c block) ≡ 4096

-- A gate is open exactly where its sector is read as an open one.
abbrev pub GatesAreRead : Type 0
GatesAreRead = (c : Contents) (at : ℕ) → IsOpen c at ↔ (gate_of (sector_at c at) ≡ Open)
