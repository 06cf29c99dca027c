-- What blocks by their index stand for.
use Rattle.std.specs.Prelude.{◌≡◌, ℕ, zero, suc, ◌+◌, ◌-◌, ◌≤◌, ◌/◌, ◌%◌, List, [], ◌∷◌, ◌&&◌, nat_le, nat_lt, length, Option, None, Some, slice_index, if◌then◌else◌}
use Rattle.std.specs.Ordering.{nat_cmp}
use Rattle.std.specs.Map.{lookup}
use Rattle.std.specs.BTreeMap.{is_at}
use Rattle.std.specs.declared.boxed.Box.{Box}
use Rattle.std.specs.Global.{Global}

-- a block of 4,096 bytes, by its index
abbrev pub Entries : Type 0
Entries = List (ℕ × Box (List ℕ) Global)

abbrev pub block_at : Entries → ℕ → Option (Box (List ℕ) Global)
block_at entries index = lookup (is_at (nat_cmp index)) entries

-- a byte of a block; a hole has zeros
abbrev pub in_block : Option (Box (List ℕ) Global) → ℕ → ℕ
in_block None at = 0
in_block (Some block) at = slice_index block.value at

-- the byte at an offset
unfoldable pub byte_at : Entries → ℕ → ℕ
byte_at entries offset = in_block (block_at entries (offset / 4096)) (offset % 4096)

-- so many values of a function, from an argument on
unfoldable pub values_from : (ℕ → ℕ) → ℕ → ℕ → List ℕ
values_from f first zero = []
values_from f first (suc more) = f first ∷ values_from f (first + 1) more

abbrev pub bytes_of : Entries → ℕ → List ℕ
bytes_of entries size = values_from (byte_at entries) 0 size

-- from an offset on there are zeros
abbrev pub IsZeroFrom : Entries → ℕ → Type 0
IsZeroFrom entries size = (offset : ℕ) → size ≤ offset → byte_at entries offset ≡ 0

-- the values of a function, with a list in their place from an argument on
abbrev pub over : (ℕ → ℕ) → ℕ → List ℕ → ℕ → ℕ
over f offset new k = if nat_le offset k && nat_lt k (offset + length new) then slice_index new (k - offset) else f k

-- the values of a function, and zeros from an argument on
abbrev pub cut_at : (ℕ → ℕ) → ℕ → ℕ → ℕ
cut_at f size k = if nat_lt k size then f k else 0
