-- Gates: sectors of which the first byte alone is read. What follows a gate counts only while it is open.
use Rattle.std.specs.Prelude.{◌≡◌, ◌≢◌, ℕ, slice_index}
use Rattle.sn_device.specs.Sectors.{Contents, sector_at}

-- the first byte of a gate's sector
abbrev pub gate_at : Contents → ℕ → ℕ
gate_at c at = slice_index (sector_at c at) 0

-- the gate in this sector is open: its first byte is 1
abbrev pub IsOpen : Contents → ℕ → Type 0
IsOpen c at = gate_at c at ≡ 1

-- it is closed: its first byte is any other
abbrev pub IsClosed : Contents → ℕ → Type 0
IsClosed c at = gate_at c at ≢ 1
