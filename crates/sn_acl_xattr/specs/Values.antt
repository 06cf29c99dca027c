-- The values of an ACL as an extended attribute of Linux (include/uapi/linux/posix_acl_xattr.h).
use Rattle.std.specs.Prelude.{◌≡◌, ℕ, ◌^◌, ◌<◌, true, List, [], ◌∷◌, ◌++◌, map}
use Rattle.std.specs.List.{flat_map, AllByRecursion}
use Rattle.std.specs.List.Sorted.{IsPermutation}
use Rattle.sn_acl.specs.declared.entries.Tag.{Tag}
use Rattle.sn_acl.specs.declared.entries.Tag.TheVariants.{UserObj, User, GroupObj, Group, Mask, Other}
use Rattle.sn_acl.specs.declared.entries.Entry.{Entry}
use Rattle.sn_acl.specs.Entries.{is_named, qualifier_of}
use Rattle.sn_bytes.specs.Bytes.{number_bytes}
use Rattle.sn_acl_xattr.specs.declared.entries.RawEntry.{RawEntry}

abbrev pub tag_number : Tag → ℕ
tag_number UserObj = 1
tag_number (User _) = 2
tag_number GroupObj = 4
tag_number (Group _) = 8
tag_number Mask = 16
tag_number Other = 32

-- the user or group number, and 0xffffffff where the tag has none
abbrev pub written_id : Tag → ℕ
written_id (User n) = n
written_id (Group n) = n
written_id _ = 4294967295

-- numbers that fit their fields
pub record IsRaw (raw : RawEntry) : Type 0 where
  pub tag : raw.tag < 256 ^ 2
  pub permissions : raw.permissions < 256 ^ 2
  pub id : raw.id < 256 ^ 4

-- the bytes of an entry's numbers
abbrev pub raw_bytes : RawEntry → List ℕ
raw_bytes raw = number_bytes 2 raw.tag ++ number_bytes 2 raw.permissions ++ number_bytes 4 raw.id

abbrev pub raws_bytes : List RawEntry → List ℕ
raws_bytes raws = flat_map raw_bytes raws

-- the numbers are those of the entry, whose id counts only where its tag has one
pub record IsRawOf (raw : RawEntry) (entry : Entry) : Type 0 where
  pub tag : raw.tag ≡ tag_number entry.tag
  pub permissions : raw.permissions ≡ entry.permissions
  pub id : is_named entry.tag ≡ true → raw.id ≡ qualifier_of entry.tag

-- the numbers are those of the entries, one by one
abbrev pub AreRawOf : List RawEntry → List Entry → Type 0
AreRawOf [] [] = Unit {0}
AreRawOf (raw ∷ raws) (entry ∷ entries) = IsRawOf raw entry × AreRawOf raws entries
AreRawOf [] (entry ∷ entries) = ⊥
AreRawOf (raw ∷ raws) [] = ⊥

-- version 2, and then the entries' numbers
abbrev pub bytes_of : List RawEntry → List ℕ
bytes_of raws = number_bytes 4 2 ++ raws_bytes raws

-- the bytes are a value with these entries, in this order
pub record HasEntries (value : List ℕ) (entries : List Entry) : Type 0 where
  pub raws : List RawEntry
  pub bytes : value ≡ bytes_of raws
  pub fit : AllByRecursion IsRaw raws
  pub are : AreRawOf raws entries

-- The bytes are a value of the ACL: they have its entries, in whatever order.
pub record IsValueOf (value : List ℕ) (acl : List Entry) : Type 0 where
  pub entries : List Entry
  pub has : HasEntries value entries
  pub order : IsPermutation acl entries

-- the numbers that are written for an entry
abbrev pub raw_of : Entry → RawEntry
raw_of entry = record { tag = tag_number entry.tag; permissions = entry.permissions; id = written_id entry.tag }

-- the value that is written for an ACL
abbrev pub value_of : List Entry → List ℕ
value_of acl = bytes_of (map raw_of acl)
