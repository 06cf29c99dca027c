-- The block of an inode's ACL entries that its mode bits don't hold.
use Rattle.std.specs.Prelude.{ℕ, ◌+◌, ◌-◌, ◌*◌, ◌<◌, Bool, true, false, List, [], ◌∷◌, ◌++◌, length, take, drop, Option, take_while, IfSome, unwrap_or}
use Rattle.sn_acl.specs.declared.entries.Tag.{Tag}
use Rattle.sn_acl.specs.declared.entries.Tag.TheVariants.{UserObj, User, GroupObj, Other}
use Rattle.sn_acl.specs.declared.entries.Entry.{Entry}
use Rattle.sn_acl.specs.declared.modes.Mode.{Mode}
use Rattle.sn_acl.specs.AccessList.{IsValid}
use Rattle.sn_layout.specs.Bytes.{zeros}
use Rattle.sn_layout_acl.specs.AclEntry.{entries_bytes}
use Rattle.sn_layout_acl.specs.declared.acl_block.AclBlock.{AclBlock}

abbrev pub is_user : Tag → Bool
is_user (User _) = true
is_user _ = false

-- how many entries come before the first that is not a user's
abbrev pub users_in : List Entry → ℕ
users_in named = length (take_while (λ e. is_user e.tag) named)

-- entries of users, groups and the MASK with the three that mode bits show put where they belong
abbrev pub joined : Mode → List Entry → List Entry
joined mode named =
    ((record { tag = UserObj; permissions = mode.owner } ∷ take (users_in named) named) ++ (record { tag = GroupObj; permissions = mode.group } ∷ drop (users_in named) named)) ++ record { tag = Other; permissions = mode.other } ∷ []

-- the same where the mode bits grant nothing
abbrev pub with_objects : List Entry → List Entry
with_objects named = joined (record { owner = 0; group = 0; other = 0 }) named

-- entries that are a valid access ACL together with those that mode bits show
abbrev pub IsNamedPart : List Entry → Type 0
IsNamedPart named = IsValid (with_objects named)

-- the entries of a default ACL, none where there is none
abbrev pub default_entries : Option (List Entry) → List Entry
default_entries default = unwrap_or default []

abbrev pub IsDefault : Option (List Entry) → Type 0
IsDefault default = IfSome default IsValid

-- the numbers of the entries, and then the entries
abbrev pub lists_bytes : List Entry → List Entry → List ℕ
lists_bytes access default = (length access ∷ length default ∷ []) ++ zeros 6 ++ entries_bytes access ++ entries_bytes default ++ zeros (4088 - 8 * (length access + length default))

-- two valid lists, either of which may be empty
pub record AreAcls (acls : AclBlock) : Type 0 where
  pub access : IsNamedPart acls.access
  pub default : IsDefault acls.default

-- how many entries both lists have
abbrev pub entries_in : AclBlock → ℕ
entries_in acls = length acls.access + length (default_entries acls.default)

-- the numbers of the entries, and then the entries, as a log record has them
abbrev pub acls_bytes : AclBlock → List ℕ
acls_bytes acls = (length acls.access ∷ length (default_entries acls.default) ∷ []) ++ entries_bytes acls.access ++ entries_bytes (default_entries acls.default)

-- two valid lists, of which one is not empty
pub record IsAclBlock (block : AclBlock) : Type 0 where
  pub access : IsNamedPart block.access
  pub default : IsDefault block.default
  pub some : 0 < entries_in block

abbrev pub acl_block_bytes : AclBlock → List ℕ
acl_block_bytes block = lists_bytes block.access (default_entries block.default)
