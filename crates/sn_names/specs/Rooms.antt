-- What room is left in blocks.
use Rattle.std.specs.Prelude.{ℕ, Bool, false, nat_lt, Option, None, Some}

-- the room is known, and less than this
abbrev pub room_is_below : ℕ → Option ℕ → Bool
room_is_below least None = false
room_is_below least (Some room) = nat_lt room least
