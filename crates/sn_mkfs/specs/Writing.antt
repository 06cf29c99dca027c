-- What formatting writes besides zeros.
use Rattle.std.specs.Prelude.{ℕ, ◌+◌, ◌*◌, ◌/◌, ◌%◌, List, replicate, slice_set}
use Rattle.sn_layout.specs.MapCopy.{map_block_bytes}
use Rattle.sn_layout.specs.Geometry.{start_of}
use Rattle.sn_layout.specs.declared.geometry.Area.TheVariants.{Data, MapCopy}
use Rattle.sn_layout.specs.declared.geometry.Slot.TheVariants.{A}

-- the block of slot A's map copy that has the word of the first data block
abbrev pub marked_block : ℕ → ℕ
marked_block n = start_of n (MapCopy A) + start_of n Data / 1024

-- its bytes: in that word bit 0 is set, which is the live root's
abbrev pub marked_bytes : ℕ → List ℕ
marked_bytes n = map_block_bytes (slice_set (replicate 1024 0) (start_of n Data % 1024) 1)

-- how many writes a whole formatting makes: zeros over all blocks outside the data area, three blocks, a root body and its gate
abbrev pub format_writes : ℕ → ℕ
format_writes n = 8 * start_of n Data + 33
