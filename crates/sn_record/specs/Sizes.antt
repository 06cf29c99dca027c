-- How many bytes a change is spelled in.
use Rattle.std.specs.Prelude.{ℕ, ◌+◌, ◌*◌, length}
use Rattle.sn_model.specs.declared.change.Change.{Change}
use Rattle.sn_model.specs.declared.change.Change.TheVariants.{Make, AddLink, Remove, Rename, Write, SetSize, SetAttributes}
use Rattle.sn_model.specs.declared.change.Ownership.{Ownership}
use Rattle.sn_layout_acl.specs.AclBlock.{entries_in}
use Rattle.sn_record.specs.Payload.{lists_of}

-- how many entries its lists have
abbrev pub entries_of : Ownership → ℕ
entries_of o = entries_in (lists_of o)

-- without the first byte
abbrev pub fields_size : Change → ℕ
fields_size (Make directory name number kind o) = 19 + 8 * entries_of o + length name
fields_size (AddLink directory name number) = 5 + length name
fields_size (Remove directory name) = 3 + length name
fields_size (Rename old_directory old_name new_directory new_name) = 6 + length old_name + length new_name
fields_size (Write number offset bytes) = 10 + length bytes
fields_size (SetSize number size) = 10
fields_size (SetAttributes number o) = 15 + 8 * entries_of o
