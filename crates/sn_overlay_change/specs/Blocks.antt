-- What a cut or a write leaves of a block of a file.
use Rattle.std.specs.Prelude.{ℕ, ◌+◌, ◌-◌, ◌*◌, List, ◌++◌, length, take, drop}
use Rattle.sn_overlay.specs.Pieces.{zeros}

-- a block with zeros from an offset on
abbrev pub zeroed : ℕ → List ℕ → List ℕ
zeroed from block = take from block ++ zeros (4096 - from)

-- a block with other bytes from an offset on
abbrev pub spliced : ℕ → List ℕ → List ℕ → List ℕ
spliced from new block = take from block ++ (new ++ drop (from + length new) block)

-- the bytes from an offset on that are in a block
abbrev pub part_in : ℕ → List ℕ → ℕ → List ℕ
part_in offset new index = take (4096 - (offset - index * 4096)) (drop (index * 4096 - offset) new)
