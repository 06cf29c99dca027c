-- Who may do what. acl(5), "ACCESS CHECK ALGORITHM".
use Rattle.std.specs.Prelude.{ℕ, Bool, true, false, ◌==◌, if◌then◌else◌, List, [], ◌∷◌, Option, Some, None, filter, find}
use Rattle.std.specs.Option.{option_map_or}
use Rattle.std.specs.List.{list_any}
use Rattle.sn_acl.specs.declared.entries.Tag.{Tag}
use Rattle.sn_acl.specs.declared.entries.Tag.TheVariants.{GroupObj, Group, Other}
use Rattle.sn_acl.specs.declared.entries.Entry.{Entry}
use Rattle.sn_acl.specs.Entries.{is_user_obj, is_user, is_mask, is_other}
use Rattle.sn_acl.specs.Rights.{contains}
use Rattle.sn_acl.specs.Credential.{Credential, is_member}

-- the entries whose tag passes the test, in order
abbrev pub entries_of : (Tag → Bool) → List Entry → List Entry
entries_of p entries = filter (λ e. p e.tag) entries

-- whether the tag names a group of the caller: the file's group, or a qualifier
abbrev pub is_held_group : Credential → ℕ → Tag → Bool
is_held_group cred group GroupObj = is_member cred group
is_held_group cred group (Group n) = is_member cred n
is_held_group cred group _ = false

-- The entries among which an access is decided, and whether the MASK limits them.
pub record Class : Type 0 where
  pub members : List Entry
  pub masked : Bool

-- a class that has entries, or else a later one
abbrev pub or_else : List Entry → Bool → Class → Class
or_else [] masked later = later
or_else (e ∷ es) masked later = record { members = e ∷ es; masked = masked }

-- The first class with an entry: the owner's entry where the caller is the owner; the entry of the caller's
-- uid; the entries of the groups of the caller; the entry of others.
abbrev pub class_of : Credential → ℕ → ℕ → List Entry → Class
class_of cred owner group entries =
    or_else (if cred.uid == owner then entries_of is_user_obj entries else []) false
    (or_else (entries_of (is_user cred.uid) entries) true
    (or_else (entries_of (is_held_group cred group) entries) true
    (record { members = entries_of is_other entries; masked = false })))

-- the MASK, where there is one and it limits the class
abbrev pub limit_of : Class → List Entry → Option Entry
limit_of class entries = if class.masked then find (λ e. is_mask e.tag) entries else None

-- whether the limit lets all that is wanted through
abbrev pub is_within : ℕ → Option Entry → Bool
is_within want limit = option_map_or (λ mask. contains mask.permissions want) limit true

-- the first entry of a class, which is never empty in a valid ACL
abbrev pub first_of : List Entry → Entry
first_of [] = record { tag = Other; permissions = 0 }
first_of (e ∷ es) = e

-- The entry that denies: the MASK, if an entry of the class contains all that is wanted, else the first entry of
-- the class. None where one entry of the class, and the MASK if it limits the class, contain what is wanted.
abbrev pub denial_in : Class → List Entry → ℕ → Option Entry
denial_in class entries want =
    if list_any (λ e. contains e.permissions want) class.members
    then (if is_within want (limit_of class entries) then None else limit_of class entries)
    else Some (first_of class.members)

-- The entry that denies what is wanted, or None where it is granted. The user 0 is granted everything.
abbrev pub denial_of : Credential → ℕ → ℕ → List Entry → ℕ → Option Entry
denial_of cred owner group entries want =
    if cred.uid == 0 then None else denial_in (class_of cred owner group entries) entries want
