-- The sector of a gate. What follows a gate counts only while it is open.
use Rattle.std.specs.Prelude.{ℕ, ◌==◌, if◌then◌else◌, List, ◌∷◌, slice_index}
use Rattle.sn_layout.specs.declared.gate.Gate.{Gate}
use Rattle.sn_layout.specs.declared.gate.Gate.TheVariants.{Open, Closed}
use Rattle.sn_bytes.specs.Bytes.{zeros}

-- the first byte alone is read: 1 is open, any other closed
abbrev pub gate_of : List ℕ → Gate
gate_of sector = if slice_index sector 0 == 1 then Open else Closed

abbrev pub gate_byte : Gate → ℕ
gate_byte Open = 1
gate_byte Closed = 0

-- as it is written, zeros after the byte
abbrev pub gate_bytes : Gate → List ℕ
gate_bytes gate = gate_byte gate ∷ zeros 511
