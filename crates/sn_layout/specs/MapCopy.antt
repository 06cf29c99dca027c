-- A block of a copy of the map.
use Rattle.std.specs.Prelude.{ℕ, ◌-◌, ◌*◌, List, ◌++◌, length}
use Rattle.sn_bytes.specs.Bytes.{numbers_bytes, zeros}

-- words of four bytes each, and zeros after the last of the disk
abbrev pub map_block_bytes : List ℕ → List ℕ
map_block_bytes words = numbers_bytes 4 words ++ zeros (4096 - 4 * length words)
