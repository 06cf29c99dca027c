-- Host names, which are names of a mount, and the names of an image that denote them.
use Rattle.std.specs.Prelude.{ℕ, ◌+◌, ◌*◌, Bool, false, not, ◌&&◌, ◌||◌, ◌==◌, nat_lt, nat_le, if◌then◌else◌, List, [], ◌∷◌, ◌++◌, length}
use Rattle.std.specs.Char.{digit_value}
use Rattle.std.specs.List.{list_all}
use Rattle.percent_encoding.specs.Percent.{percent_encode_byte}
use Rattle.sn_limits.specs.Names.{is_dots}

-- a byte of a host name: neither 0 nor the slash
abbrev pub is_host_byte : ℕ → Bool
is_host_byte b = nat_lt 0 b && nat_lt b 256 && not (b == 47)

-- a host name, whatever its length
abbrev pub is_host_name : List ℕ → Bool
is_host_name name = not (length name == 0) && not (is_dots name) && list_all is_host_byte name

-- a byte that a host name can have, and a name of an image can't
abbrev pub is_escaped : ℕ → Bool
is_escaped b = (nat_lt 0 b && nat_le b 0x20) || (nat_le 0x7F b && nat_le b 0xFF)

-- an upper-case hexadecimal digit
abbrev pub is_hex_digit : ℕ → Bool
is_hex_digit c = (nat_le 48 c && nat_le c 57) || (nat_le 65 c && nat_le c 70)

-- the byte with these two digits
abbrev pub byte_of : ℕ → ℕ → ℕ
byte_of high low = 16 * digit_value high + digit_value low

-- the digits of an escaped byte
abbrev pub are_digits : ℕ → ℕ → Bool
are_digits high low = is_hex_digit high && is_hex_digit low && is_escaped (byte_of high low)

-- begins with `25` any number of times, and then with the digits of an escaped byte: `(25)*XX`
abbrev pub makes_escape : List ℕ → Bool
makes_escape (high ∷ low ∷ rest) = are_digits high low || ((high == 50) && (low == 53) && makes_escape rest)
makes_escape (last ∷ []) = false
makes_escape [] = false

-- whether a byte has to be kept as an escape where this follows it: an escaped byte, and a `%` that would make an escape
abbrev pub needs_escape : ℕ → List ℕ → Bool
needs_escape b rest = is_escaped b || ((b == 37) && makes_escape rest)

-- how the image name spells a byte that this follows
abbrev pub spelled : ℕ → List ℕ → List ℕ
spelled b rest = if needs_escape b rest then percent_encode_byte b else b ∷ []

-- the name of an image that denotes a host name
abbrev pub image_name : List ℕ → List ℕ
image_name [] = []
image_name (b ∷ rest) = spelled b rest ++ image_name rest
