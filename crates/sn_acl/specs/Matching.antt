-- The entries of a class, as the code finds them.
use Rattle.std.specs.Prelude.{Bool, true, false, List, filter}
use Rattle.sn_acl.specs.declared.access.Class.{Class}
use Rattle.sn_acl.specs.declared.access.Class.TheVariants.{Owner, User, Groups, Others}
use Rattle.sn_acl.specs.declared.entries.Tag.{Tag}
use Rattle.sn_acl.specs.declared.entries.Entry.{Entry}
use Rattle.sn_acl.specs.Entries.{is_user_obj, is_user, is_other}
use Rattle.sn_acl.specs.Access.{is_held_group}
use Rattle.sn_acl.specs.Access as access

-- whether an entry with this tag is in the class
abbrev pub is_in : Class → Tag → Bool
is_in Owner tag = is_user_obj tag
is_in (User uid) tag = is_user uid tag
is_in (Groups cred group) tag = is_held_group cred.now group tag
is_in Others tag = is_other tag

abbrev pub is_masked : Class → Bool
is_masked Owner = false
is_masked (User _) = true
is_masked (Groups _ _) = true
is_masked Others = false

abbrev pub matching : Class → List Entry → access.Class
matching class entries = record { members = filter (λ e. is_in class e.tag) entries; masked = is_masked class }
