-- The ACL that a text spells, with the numbers of names.
use Rattle.std.specs.Prelude.{ℕ, nat_lt, if◌then◌else◌, List, [], ◌∷◌, length, Option, Some, None, Result, Ok, Err}
use Rattle.std.specs.Cmp.Lexicographic.{slice_cmp}
use Rattle.std.specs.FinMap as fin
use Rattle.std.specs.List.{insert, position_or_len}
use Rattle.std.specs.Option.{option_and_then, option_map}
use Rattle.std.specs.Ordering.{nat_cmp}
use Rattle.sn_acl.specs.AccessList.{is_acl}
use Rattle.sn_acl.specs.Entries.{precedes}
use Rattle.sn_acl.specs.declared.entries.Entry.{Entry}
use Rattle.sn_acl.specs.declared.entries.Tag.{Tag}
use Rattle.sn_acl.specs.declared.entries.Tag.TheVariants as tag
use Rattle.sn_acl_text.specs.declared.entries.Qualifier.{Qualifier}
use Rattle.sn_acl_text.specs.declared.entries.Qualifier.TheVariants.{Number, Name}
use Rattle.sn_acl_text.specs.declared.entries.Whom.{Whom}
use Rattle.sn_acl_text.specs.declared.entries.Whom.TheVariants.{UserObj, User, GroupObj, Group, Mask, Other}
use Rattle.sn_acl_text.specs.declared.entries.TextEntry.{TextEntry}
use Rattle.sn_acl_text.specs.Reading.{said}
use Rattle.sn_import_entry.specs.declared.fault.EntryFault.{EntryFault}
use Rattle.sn_import_entry.specs.declared.fault.EntryFault.TheVariants.{Acl, Account}
use Rattle.sn_import_entry.specs.declared.names.Names.{Names}

-- the numbers of names
abbrev pub Numbers : Type 0
Numbers = fin.FinMap (slice_cmp nat_cmp) ℕ

abbrev pub number_of : Numbers → Qualifier → Option ℕ
number_of numbers (Number n) = Some n
number_of numbers (Name name) = fin.get numbers name

abbrev pub user_tag : Names → Qualifier → Option Tag
user_tag names user = option_map tag.User (number_of names.users user)

abbrev pub group_tag : Names → Qualifier → Option Tag
group_tag names group = option_map tag.Group (number_of names.groups group)

-- whom an entry is for, unless it is a name without a number
abbrev pub tag_of : Names → Whom → Option Tag
tag_of names UserObj = Some tag.UserObj
tag_of names (User user) = user_tag names user
tag_of names GroupObj = Some tag.GroupObj
tag_of names (Group group) = group_tag names group
tag_of names Mask = Some tag.Mask
tag_of names Other = Some tag.Other

abbrev pub entry_of : Names → TextEntry → Option Entry
entry_of names e = option_map (λ t. record { tag = t; permissions = e.permissions }) (tag_of names e.whom)

-- entries with one more, at its place in canonical order
abbrev pub placed : Entry → List Entry → List Entry
placed entry entries = insert entries (position_or_len (λ e. precedes entry.tag e.tag) entries) entry

-- entries in canonical order, and those that a text says put among them; none where a name has no number
abbrev pub numbered : Names → List Entry → List TextEntry → Option (List Entry)
numbered names entries [] = Some entries
numbered names entries (e ∷ es) = option_and_then (λ entry. numbered names (placed entry entries) es) (entry_of names e)

-- the ACL with these entries, if they are one
abbrev pub valid : List Entry → Result (List Entry) EntryFault
valid entries = if is_acl entries then Ok entries else Err Acl

abbrev pub valid_if : Option (List Entry) → Result (List Entry) EntryFault
valid_if None = Err Account
valid_if (Some entries) = valid entries

-- the ACL of entries that a text says: 36 at the most
abbrev pub acl_said : Names → Option (List TextEntry) → Result (List Entry) EntryFault
acl_said names None = Err Acl
acl_said names (Some es) = if nat_lt 36 (length es) then Err Acl else valid_if (numbered names [] es)

-- the ACL that a text spells, or why it spells none
abbrev pub acl_of : Names → List ℕ → Result (List Entry) EntryFault
acl_of names text = acl_said names (said text)
