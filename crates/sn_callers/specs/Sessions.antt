-- The session of an open file.
use Rattle.std.specs.Prelude.{ℕ, ◌+◌, ◌/◌, nat_lt, if◌then◌else◌}

-- 64 handles for session 0, and 64 for each from 2 on: session 1 is the caller's
abbrev pub session_of : ℕ → ℕ
session_of handle = if nat_lt handle 64 then 0 else handle / 64 + 1
