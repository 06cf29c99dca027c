-- Which blocks changes may touch.
use Rattle.std.specs.Prelude.{ℕ, ◌+◌, ◌≤◌, List, Contains, length}
use Rattle.sn_names.specs.Prints.{print_of}
use Rattle.sn_dir_change.specs.declared.name_change.NameChange.{NameChange}

-- the print of the name that is to change
abbrev pub print_for : NameChange → ℕ
print_for change = print_of change.name.now

-- The print of each name that is there is in the list, and no name that waits takes fewer bytes.
pub record Covers (prints : List ℕ) (least : ℕ) (standing waiting : List NameChange) : Type 0 where
  pub prints_there : (change : NameChange) → Contains standing change → Contains prints (print_for change)
  pub least_bytes : (change : NameChange) → Contains waiting change → least ≤ length change.name.now + 3
