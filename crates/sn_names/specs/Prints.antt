-- What represents a name in an index.
use Rattle.std.specs.Prelude.{ℕ, ◌+◌, ◌*◌, ◌/◌, List}
use Rattle.std.specs.Hash.DefaultHasher.{initial, write, finish}

-- the upper 50 bits of the name's hash: names may share them
unfoldable pub print_of : List ℕ → ℕ
print_of name = finish (write initial name) / 16384

-- the entry of a print and a block, which is below 16,384
abbrev pub entry_at : ℕ → ℕ → ℕ
entry_at print i = 16384 * print + i

-- the entry that says that block i may have the name
abbrev pub entry_for : List ℕ → ℕ → ℕ
entry_for name i = entry_at (print_of name) i
