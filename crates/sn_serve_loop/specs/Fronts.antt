-- How messages follow each other in bytes.
use Rattle.byteorder.specs.Endian.{little_number}
use Rattle.std.specs.Prelude.{◌≡◌, ◌≤◌, ℕ, ◌||◌, List, length, nat_lt, if◌then◌else◌}
use Rattle.sn_serve_loop.specs.declared.frames.Front.{Front}
use Rattle.sn_serve_loop.specs.declared.frames.Front.TheVariants.{Broken, Part, Whole}

-- with the length that it says it has, where there are so many bytes
abbrev pub front_by : ℕ → ℕ → Front
front_by told there = if nat_lt told 40 || nat_lt 1048576 told then Broken else (if nat_lt there told then Part else Whole told)

-- what bytes begin with: a whole message, part of one, or what is none, with a length less than a head's or of over a megabyte
abbrev pub front_of : List ℕ → Front
front_of bytes = if nat_lt (length bytes) 40 then Part else front_by (little_number 4 bytes) (length bytes)

-- bytes are one message: they have the length that it says it has
pub record IsMessage (bytes : List ℕ) : Type 0 where
  pub told : little_number 4 bytes ≡ length bytes
  pub head : 40 ≤ length bytes
