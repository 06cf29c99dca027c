-- The superblock: its one spelling.
use Rattle.std.specs.Prelude.{ℕ, List, [], ◌∷◌, ◌++◌}
use Rattle.sn_layout.specs.declared.superblock.Superblock.{Superblock}
use Rattle.sn_bytes.specs.Bytes.{number_bytes, zeros}

-- SNAPFSYS
abbrev pub magic : List ℕ
magic = 0x53 ∷ 0x4e ∷ 0x41 ∷ 0x50 ∷ 0x46 ∷ 0x53 ∷ 0x59 ∷ 0x53 ∷ []

abbrev pub superblock_bytes : Superblock → List ℕ
superblock_bytes superblock = magic ++ number_bytes 4 superblock.geometry ++ zeros 4084
