-- What a snapshot's name may be, and how it is spelled.
use Rattle.std.specs.Prelude.{ℕ, Bool, not, ◌&&◌, ◌||◌, ◌==◌, nat_le, List, length}
use Rattle.std.specs.List.{list_all}
use Rattle.sn_limits.specs.Names.{is_dots}

-- a letter, a digit, a dot, an underscore or a dash
abbrev pub is_snapshot_byte : ℕ → Bool
is_snapshot_byte b = (nat_le 97 b && nat_le b 122) || (nat_le 65 b && nat_le b 90) || (nat_le 48 b && nat_le b 57) || (b == 46) || (b == 95) || (b == 45)

-- a name that a snapshot can have
abbrev pub is_snapshot_name : List ℕ → Bool
is_snapshot_name name = nat_le 1 (length name) && nat_le (length name) 31 && not (is_dots name) && list_all is_snapshot_byte name
