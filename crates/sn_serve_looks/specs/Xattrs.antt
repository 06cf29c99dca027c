-- The extended attributes that a node can have: its ACLs.
use Rattle.std.specs.Prelude.{ℕ, ◌==◌, nat_le, Bool, true, false, not, List, [], ◌∷◌, ◌++◌, length, codes, Option, None, Some, Result, Ok, Err, ok_or, if◌then◌else◌}
use Rattle.std.specs.Str.{bytes_eq}
use Rattle.sn_acl.specs.AccessList.{IsValid}
use Rattle.sn_acl.specs.declared.entries.Entry.{Entry}
use Rattle.sn_acl_xattr.specs.Values.{IsValueOf, value_of}
use Rattle.sn_fuse_replies.specs.declared.errno.Errno.{Errno}
use Rattle.sn_fuse_replies.specs.declared.errno.Errno.TheVariants.{ENODATA, EOPNOTSUPP, ERANGE}
use Rattle.sn_model.specs.declared.argument.AclKind.{AclKind}
use Rattle.sn_model.specs.declared.argument.AclKind.TheVariants.{Access, Default}
use Rattle.sn_serve_looks.specs.declared.values.Xattr.{Xattr}
use Rattle.sn_serve_looks.specs.declared.values.Xattr.TheVariants.{Bytes, Size}

-- ---- names

abbrev pub access_name : List ℕ
access_name = codes "system.posix_acl_access"

abbrev pub default_name : List ℕ
default_name = codes "system.posix_acl_default"

abbrev pub kind_of : List ℕ → Option AclKind
kind_of name = if bytes_eq name access_name then Some Access else (if bytes_eq name default_name then Some Default else None)

-- another attribute isn't there, and can't be set
abbrev pub kind_there : List ℕ → Result AclKind Errno
kind_there name = ok_or (kind_of name) ENODATA

abbrev pub kind_to_set : List ℕ → Result AclKind Errno
kind_to_set name = ok_or (kind_of name) EOPNOTSUPP

-- ---- values

-- An access ACL of three entries says no more than the mode, and is none.
abbrev pub says_more : AclKind → List Entry → Bool
says_more Access acl = not (length acl == 3)
says_more Default acl = true

abbrev pub has_value : AclKind → Option (List Entry) → Bool
has_value kind None = false
has_value kind (Some acl) = says_more kind acl

-- the bytes, in so much room, or their size where no room is given
abbrev pub sized : ℕ → List ℕ → Result Xattr Errno
sized size bytes = if size == 0 then Ok (Size (length bytes)) else (if nat_le (length bytes) size then Ok (Bytes (record { items = bytes })) else Err ERANGE)

abbrev pub value_in : AclKind → ℕ → Option (List Entry) → Result Xattr Errno
value_in kind size None = Err ENODATA
value_in kind size (Some acl) = if says_more kind acl then sized size (value_of acl) else Err ENODATA

-- the value's ACL, or none where it is of none
abbrev pub IsRead : List ℕ → Option (List Entry) → Type 0
IsRead value None = (acl : List Entry) → IsValid acl → IsValueOf value acl → ⊥
IsRead value (Some acl) = IsValid acl × IsValueOf value acl

-- ---- lists

abbrev pub listed : Bool → List ℕ → List ℕ
listed there name = if there then name ++ 0 ∷ [] else []

-- the names of the attributes that are there, each with a 0 after it
abbrev pub names_text : Bool → Bool → List ℕ
names_text access default = listed access access_name ++ listed default default_name
