-- The copies of the block map, one for each slot: a word of four bytes for each block, in which each root that reaches the block has a bit.
use Rattle.std.specs.Prelude.{◌≡◌, ℕ, ◌-◌, ◌*◌, List, ◌++◌, length, replicate, slice_index}
use Rattle.sn_device.specs.Sectors.{Contents, Stretch}
use Rattle.sn_layout.specs.declared.geometry.Slot.{Slot}
use Rattle.sn_layout.specs.declared.geometry.Area.TheVariants.{MapCopy}
use Rattle.sn_layout.specs.Bytes.{AreNumbers, numbers_bytes}
use Rattle.sn_layout.specs.Geometry.{start_of, map_blocks}
use Rattle.sn_ondisk.specs.Blocks.{bytes_at, numbers_in}

-- the bytes of a slot's copy, on a disk of n blocks
abbrev pub map_bytes : ℕ → Contents → Slot → List ℕ
map_bytes n c slot = bytes_at c (8 * start_of n (MapCopy slot)) (8 * map_blocks n)

-- its words, those past the last block of the disk too
unfoldable pub map_words : ℕ → Contents → Slot → List ℕ
map_words n c slot = numbers_in (1024 * map_blocks n) (map_bytes n c slot)

-- the word of a block
abbrev pub map_word : ℕ → Contents → Slot → ℕ → ℕ
map_word n c slot block = slice_index (map_words n c slot) block

-- The slot's copy is spelled with these words, one for each block of the disk, and zeros after them.
pub record HasMap (n : ℕ) (c : Contents) (slot : Slot) (words : List ℕ) : Type 0 where
  pub count : length words ≡ n
  pub fits : AreNumbers 4 words
  pub bytes : map_bytes n c slot ≡ numbers_bytes 4 (words ++ replicate (1024 * map_blocks n - n) 0)

-- the sectors of a slot's copy
abbrev pub InMap : ℕ → Slot → ℕ → Type 0
InMap n slot = Stretch (8 * start_of n (MapCopy slot)) (8 * map_blocks n)
