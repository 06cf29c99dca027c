-- What is left of names when one is moved.
use Rattle.std.specs.Prelude.{ℕ, ◌+◌, ◌-◌, Bool, ◌&&◌, ◌==◌, nat_lt, Option, is_some, if◌then◌else◌}
use Rattle.sn_limits.specs.declared.limits.Limits.{Limits}
use Rattle.sn_model.specs.declared.link.Link.{Link}
use Rattle.sn_model.specs.Tree.{Tree, names_in, names_for}

-- how many names the new directory has when the old name is gone, and what had the new one
abbrev pub names_left : Tree → Link → Link → Option ℕ → ℕ
names_left tree old new target = names_in tree new.directory - ((if is_some target then 1 else 0) + (if old.directory == new.directory then 1 else 0))

-- there is a place for one more
abbrev pub has_room_left : Limits → Tree → Link → Link → ℕ → Option ℕ → Bool
has_room_left limits tree old new number target = nat_lt (names_left tree old new target) limits.names && nat_lt (names_for tree number - 1) limits.links
