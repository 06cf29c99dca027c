-- The bytes that blocks in memory have.
use Rattle.std.specs.Prelude.{ℕ, Bool, is_some}
use Rattle.sn_file_bytes.specs.Blocks.{block_at, byte_at}
use Rattle.sn_file_bytes.specs.declared.blocks.Blocks.{Blocks}

abbrev pub byte_of : Blocks → ℕ → ℕ
byte_of b = byte_at b.map.entries

abbrev pub has_block : Blocks → ℕ → Bool
has_block b index = is_some (block_at b.map.entries index)
