-- The ACLs of a new object. acl(5), "OBJECT CREATION AND DEFAULT ACLs".
use Rattle.std.specs.Prelude.{Bool, if◌then◌else◌, List, Option, Some, None}
use Rattle.sn_acl.specs.declared.entries.Entry.{Entry}
use Rattle.sn_acl.specs.declared.modes.Mode.{Mode}
use Rattle.sn_acl.specs.Modes.{three_entries, mode_of, with_mode, common_mode, mode_without}

-- The access ACL: the default ACL of the directory, whose three entries that show the mode lose what the mode
-- argument lacks; where there is no default ACL, that of the mode less the umask.
abbrev pub inherited_access : Option (List Entry) → Mode → Mode → List Entry
inherited_access None mode umask = three_entries (mode_without mode umask)
inherited_access (Some default) mode umask = with_mode (common_mode (mode_of default) mode) default

-- the default ACL: that of the directory, where the new object is a directory too
abbrev pub inherited_default : Option (List Entry) → Bool → Option (List Entry)
inherited_default default is_directory = if is_directory then default else None
