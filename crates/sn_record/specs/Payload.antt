-- The payload of a log record: what a change has to be to have one, and its one spelling.
use Rattle.std.specs.Prelude.{◌≡◌, ℕ, ◌^◌, ◌<◌, ◌≤◌, Bool, not, ◌||◌, List, [], ◌∷◌, ◌++◌, length, filter, IsTrue}
use Rattle.sn_acl.specs.declared.entries.Tag.{Tag}
use Rattle.sn_acl.specs.declared.entries.Entry.{Entry}
use Rattle.sn_acl.specs.declared.modes.Mode.{Mode}
use Rattle.sn_acl.specs.Entries.{is_user_obj, is_group_obj, is_other}
use Rattle.sn_acl.specs.AccessList.{IsValid}
use Rattle.sn_acl.specs.Modes.{entry_of, granted_by, mode_bits}
use Rattle.sn_limits.specs.Names.{is_name}
use Rattle.sn_model.specs.declared.change.Change.{Change}
use Rattle.sn_model.specs.declared.change.Change.TheVariants.{Make, AddLink, Remove, Rename, Write, SetSize, SetAttributes}
use Rattle.sn_model.specs.declared.change.Ownership.{Ownership}
use Rattle.sn_layout.specs.Bytes.{number_bytes}
use Rattle.sn_layout_acl.specs.Mode.{mode_bytes}
use Rattle.sn_layout_acl.specs.AclBlock.{IsDefault, acls_bytes}
use Rattle.sn_layout_acl.specs.declared.acl_block.AclBlock.{AclBlock}
use Rattle.sn_layout_node.specs.Directory.{name_bytes}
use Rattle.sn_layout_node.specs.Inode.{kind_number, flags_number}
use Rattle.sn_record.specs.declared.ownership.Front.{Front}

-- what USER_OBJ, GROUP_OBJ and OTHER grant, which the rights say
abbrev pub objects_of : List Entry → Mode
objects_of acl = record {
  owner = granted_by (entry_of is_user_obj acl);
  group = granted_by (entry_of is_group_obj acl);
  other = granted_by (entry_of is_other acl);
}

abbrev pub is_object : Tag → Bool
is_object tag = is_user_obj tag || is_group_obj tag || is_other tag

-- the other entries, USER, GROUP and MASK
abbrev pub named_of : List Entry → List Entry
named_of acl = filter (λ e. not (is_object e.tag)) acl

abbrev pub lists_of : Ownership → AclBlock
lists_of o = record { access = named_of o.acl; default = o.default_acl }

-- numbers that fit their fields, and valid ACLs
pub record IsOwnership (o : Ownership) : Type 0 where
  pub owner : o.owner < 256 ^ 4
  pub group : o.group < 256 ^ 4
  pub acl : IsValid o.acl
  pub default : IsDefault o.default_acl

-- the widths of the numbers in front of the lists: S bits, rights, owner and group
abbrev pub front_widths : List ℕ
front_widths = 1 ∷ 2 ∷ 4 ∷ 4 ∷ []

abbrev pub front_numbers : Ownership → List ℕ
front_numbers o = flags_number o.set_gid o.sticky ∷ mode_bits (objects_of o.acl) ∷ o.owner ∷ o.group ∷ []

-- the numbers as they were read
abbrev pub listed : Front → List ℕ
listed n = n.bits ∷ n.rights ∷ n.owner ∷ n.group ∷ []

-- S bits, rights, owner, group, and both lists
abbrev pub ownership_bytes : Ownership → List ℕ
ownership_bytes o = flags_number o.set_gid o.sticky ∷ (mode_bytes (objects_of o.acl) ++ number_bytes 4 o.owner ++ number_bytes 4 o.group ++ acls_bytes (lists_of o))

-- numbers that fit their fields
abbrev pub HasFittingNumbers : Change → Type 0
HasFittingNumbers (Make directory name number kind o) = (directory < 256 ^ 2) × (number < 256 ^ 2) × IsOwnership o
HasFittingNumbers (AddLink directory name number) = (directory < 256 ^ 2) × (number < 256 ^ 2)
HasFittingNumbers (Remove directory name) = directory < 256 ^ 2
HasFittingNumbers (Rename old_directory old_name new_directory new_name) = (old_directory < 256 ^ 2) × (new_directory < 256 ^ 2)
HasFittingNumbers (Write number offset bytes) = (number < 256 ^ 2) × (offset < 256 ^ 8)
HasFittingNumbers (SetSize number size) = (number < 256 ^ 2) × (size < 256 ^ 8)
HasFittingNumbers (SetAttributes number o) = (number < 256 ^ 2) × IsOwnership o

-- names that a directory can have, and 1 to 65,536 bytes that are written
abbrev pub HasFittingBytes : Change → Type 0
HasFittingBytes (Make directory name number kind o) = IsTrue (is_name name)
HasFittingBytes (AddLink directory name number) = IsTrue (is_name name)
HasFittingBytes (Remove directory name) = IsTrue (is_name name)
HasFittingBytes (Rename old_directory old_name new_directory new_name) = IsTrue (is_name old_name) × IsTrue (is_name new_name)
HasFittingBytes (Write number offset bytes) = (1 ≤ length bytes) × (length bytes ≤ 65536)
HasFittingBytes change = Unit {0}

-- A change that has a payload. Whether it can be applied to a tree is not asked: a file with a default ACL is spelled.
abbrev pub IsSpelled : Change → Type 0
IsSpelled change = HasFittingNumbers change × HasFittingBytes change

-- the first byte
abbrev pub change_number : Change → ℕ
change_number (Make directory name number kind o) = 1
change_number (AddLink directory name number) = 2
change_number (Remove directory name) = 3
change_number (Rename old_directory old_name new_directory new_name) = 4
change_number (Write number offset bytes) = 5
change_number (SetSize number size) = 6
change_number (SetAttributes number o) = 7

-- what follows it
abbrev pub fields_bytes : Change → List ℕ
fields_bytes (Make directory name number kind o) = number_bytes 2 directory ++ number_bytes 2 number ++ (kind_number kind ∷ ownership_bytes o) ++ name_bytes name
fields_bytes (AddLink directory name number) = number_bytes 2 directory ++ number_bytes 2 number ++ name_bytes name
fields_bytes (Remove directory name) = number_bytes 2 directory ++ name_bytes name
fields_bytes (Rename old_directory old_name new_directory new_name) = number_bytes 2 old_directory ++ number_bytes 2 new_directory ++ name_bytes old_name ++ name_bytes new_name
fields_bytes (Write number offset bytes) = number_bytes 2 number ++ number_bytes 8 offset ++ bytes
fields_bytes (SetSize number size) = number_bytes 2 number ++ number_bytes 8 size
fields_bytes (SetAttributes number o) = number_bytes 2 number ++ ownership_bytes o

abbrev pub payload_bytes : Change → List ℕ
payload_bytes change = change_number change ∷ fields_bytes change

-- a payload has at least the byte of its kind, and at most the bytes of the longest write
abbrev pub PayloadsFit : Type 0
PayloadsFit = (change : Change) → IsSpelled change → (1 ≤ length (payload_bytes change)) × (length (payload_bytes change) ≤ 65547)

-- no two changes have one payload
abbrev pub PayloadsDiffer : Type 0
PayloadsDiffer = (a b : Change) → IsSpelled a → IsSpelled b → payload_bytes a ≡ payload_bytes b → a ≡ b
