-- The entries of ACLs.
use Rattle.std.specs.Prelude.{ℕ, ◌^◌, ◌<◌, List, [], ◌∷◌, ◌++◌}
use Rattle.std.specs.List.{flat_map}
use Rattle.sn_acl.specs.declared.entries.Tag.{Tag}
use Rattle.sn_acl.specs.declared.entries.Tag.TheVariants.{UserObj, User, GroupObj, Group, Mask, Other}
use Rattle.sn_acl.specs.declared.entries.Entry.{Entry}
use Rattle.sn_acl.specs.Entries.{qualifier_of}
use Rattle.sn_layout.specs.Bytes.{number_bytes, zeros}

abbrev pub tag_number : Tag → ℕ
tag_number UserObj = 1
tag_number (User _) = 2
tag_number GroupObj = 3
tag_number (Group _) = 4
tag_number Mask = 5
tag_number Other = 6

-- numbers that fit their fields
pub record IsEntry (entry : Entry) : Type 0 where
  pub permissions : entry.permissions < 8
  pub qualifier : qualifier_of entry.tag < 256 ^ 4

-- tag, permissions, zeros, and the user or group number, which is 0 where the tag has none
abbrev pub entry_bytes : Entry → List ℕ
entry_bytes e = (tag_number e.tag ∷ e.permissions ∷ []) ++ zeros 2 ++ number_bytes 4 (qualifier_of e.tag)

abbrev pub entries_bytes : List Entry → List ℕ
entries_bytes entries = flat_map entry_bytes entries
