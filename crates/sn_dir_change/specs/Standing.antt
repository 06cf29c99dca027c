-- Names that are to change, and whether the directory has them.
use Rattle.std.specs.Prelude.{◌||◌, List, is_some}
use Rattle.sn_layout_node.specs.Directory.{Link, number_of}
use Rattle.sn_dir_change.specs.declared.name_change.NameChange.{NameChange}
use Rattle.sn_dir_change.specs.declared.standing.Sought.{Sought}

abbrev pub change_of : Sought → NameChange
change_of sought = sought.change

-- a change, and whether its name is among these
abbrev pub seen : List Link → NameChange → Sought
seen names change = record { change = change; stands = is_some (number_of change.name.now names) }

-- the same where the name may also be before them
abbrev pub seen_too : List Link → Sought → Sought
seen_too names sought = record { change = sought.change; stands = sought.stands || is_some (number_of sought.change.name.now names) }
