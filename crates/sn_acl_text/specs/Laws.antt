-- What follows from the definitions of texts.
use Rattle.std.specs.Prelude.{◌≡◌, List, Some, map}
use Rattle.sn_acl.specs.declared.entries.Tag.{Tag}
use Rattle.sn_acl.specs.declared.entries.Tag.TheVariants as tag
use Rattle.sn_acl.specs.declared.entries.Entry.{Entry}
use Rattle.sn_acl.specs.AccessList.{IsValid}
use Rattle.sn_acl_text.specs.declared.entries.Qualifier.TheVariants.{Number}
use Rattle.sn_acl_text.specs.declared.entries.Whom.{Whom}
use Rattle.sn_acl_text.specs.declared.entries.Whom.TheVariants.{UserObj, User, GroupObj, Group, Mask, Other}
use Rattle.sn_acl_text.specs.declared.entries.TextEntry.{TextEntry}
use Rattle.sn_acl_text.specs.Long.{long_text}
use Rattle.sn_acl_text.specs.Reading.{said}

-- whom the entries with a tag are for, in a text with numbers
abbrev pub whom : Tag → Whom
whom tag.UserObj = UserObj
whom (tag.User n) = User (Number n)
whom tag.GroupObj = GroupObj
whom (tag.Group n) = Group (Number n)
whom tag.Mask = Mask
whom tag.Other = Other

abbrev pub told : Entry → TextEntry
told e = record { whom = whom e.tag; permissions = e.permissions }

-- What was written for an ACL says its entries.
abbrev pub WrittenIsRead : Type 0
WrittenIsRead = (entries : List Entry) → IsValid entries → said (long_text entries) ≡ Some (map told entries)
