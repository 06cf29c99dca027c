-- Where blocks are.
use Rattle.std.specs.Prelude.{◌≡◌, ℕ, ◌+◌, ◌*◌, nat_le, if◌then◌else◌, List, slice_index}

-- a pointer to a block of a device of so many sectors, and 0 for any other
abbrev pub lying_on : ℕ → ℕ → ℕ
lying_on sectors pointer = if nat_le (8 * pointer + 8) sectors then pointer else 0

-- Pointer i of these is this number, and leads to a block of a device of so many sectors, or else the number is 0.
abbrev pub IsFrom : ℕ → List ℕ → ℕ → ℕ → Type 0
IsFrom sectors pointers i number = number ≡ lying_on sectors (slice_index pointers i)
