-- The nodes that bytes list.
use Rattle.std.specs.Prelude.{ℕ, zero, suc, List, [], ◌∷◌, drop}
use Rattle.byteorder.specs.Endian.{little_number}
use Rattle.sn_fuse.specs.declared.forgets.Forget.{Forget}

-- the first so many: each is two numbers of eight bytes
abbrev pub forgets_in : ℕ → List ℕ → List Forget
forgets_in zero bytes = []
forgets_in (suc count) bytes = record { node = little_number 8 bytes; lookups = little_number 8 (drop 8 bytes) } ∷ forgets_in count (drop 16 bytes)
