-- The object that an entry makes.
use Rattle.std.specs.Prelude.{ℕ, ◌+◌, ◌%◌, Bool, false, not, ◌==◌, nat_lt, bit_and, if◌then◌else◌, List, [], ◌∷◌, ◌++◌, length, Option, Some, None, Result, Ok, Err}
use Rattle.std.specs.Option.{option_map}
use Rattle.std.specs.Str.{bytes_eq}
use Rattle.std.specs.Vec.{vec_items}
use Rattle.sn_acl.specs.Modes.{three_entries}
use Rattle.sn_acl.specs.declared.entries.Entry.{Entry}
use Rattle.sn_model.specs.Tests.{mode_from_bits}
use Rattle.sn_import.specs.declared.object.Object.{Object}
use Rattle.sn_import.specs.declared.object.Rights.{Rights}
use Rattle.sn_import.specs.declared.object.What.{What}
use Rattle.sn_import.specs.declared.object.What.TheVariants as what
use Rattle.sn_untar.specs.Names.{fits, place_of}
use Rattle.sn_untar.specs.declared.members.Member.{Member}
use Rattle.sn_untar.specs.declared.names.NameFault.{NameFault}
use Rattle.sn_import_entry.specs.Acls.{acl_of}
use Rattle.sn_import_entry.specs.Forms.{form_of}
use Rattle.sn_import_entry.specs.declared.fault.EntryFault.{EntryFault}
use Rattle.sn_import_entry.specs.declared.fault.EntryFault.TheVariants as fault
use Rattle.sn_import_entry.specs.declared.form.Form.{Form}
use Rattle.sn_import_entry.specs.declared.form.Form.TheVariants as form
use Rattle.sn_import_entry.specs.declared.names.Names.{Names}

-- what follows from a value, or the first fault
abbrev pub after : {A B F : Type 0} → Result A F → (A → Result B F) → Result B F
after (Ok a) further = further a
after (Err e) further = Err e

-- ---- rights

abbrev pub owner : ℕ → Result ℕ EntryFault
owner number = if nat_lt number 4294967296 then Ok number else Err fault.Owner

abbrev pub has_bit : ℕ → ℕ → Bool
has_bit mode bit = not (bit_and mode bit == 0)

-- the ACL of a text, else the three entries of the permission bits
abbrev pub access : Names → ℕ → Option (List ℕ) → Result (List Entry) EntryFault
access names mode None = Ok (three_entries (mode_from_bits (mode % 512)))
access names mode (Some text) = acl_of names text

abbrev pub default : Names → Option (List ℕ) → Result (Option (List Entry)) EntryFault
default names None = Ok None
default names (Some text) = after (acl_of names text) (λ acl. Ok (Some acl))

-- owner, group and ACLs of an entry, where its default ACL has this text, or none is looked at
abbrev pub rights : Names → Member → Option (List ℕ) → Result Rights EntryFault
rights names member default_text =
    after (owner member.user) (λ owner_number.
    after (owner member.group) (λ group_number.
    after (access names member.mode (option_map vec_items member.access_acl)) (λ access_acl.
    after (default names default_text) (λ default_acl.
    Ok (record {
      user = owner_number;
      group = group_number;
      set_gid = has_bit member.mode 1024;
      sticky = has_bit member.mode 512;
      access = access_acl;
      default = default_acl;
    })))))

abbrev pub directory_rights : Names → Member → Result Rights EntryFault
directory_rights names member = rights names member (option_map vec_items member.default_acl)

-- ---- paths

-- what a path below a directory begins with: nothing below the root
abbrev pub front : List ℕ → List ℕ
front directory = if bytes_eq directory (47 ∷ []) then [] else directory

-- how many bytes such a path has before its first name
abbrev pub lead : List ℕ → ℕ
lead directory = length (front directory) + 1

abbrev pub joined : List ℕ → List ℕ → Result (List ℕ) NameFault
joined before place = fits (before ++ place)

-- the path below a directory that a name stands for
abbrev pub below : List ℕ → List ℕ → Result (List ℕ) NameFault
below directory name = after (place_of name) (joined (front directory))

abbrev pub is_here : Result (List ℕ) NameFault → Bool
is_here (Ok place) = length place == 0
is_here (Err e) = false

-- whether it stands for the directory itself
abbrev pub is_top : List ℕ → Bool
is_top name = is_here (place_of name)

abbrev pub told : (NameFault → EntryFault) → Result (List ℕ) NameFault → Result (List ℕ) EntryFault
told of (Ok path) = Ok path
told of (Err e) = Err (of e)

abbrev pub path : List ℕ → List ℕ → Result (List ℕ) EntryFault
path directory name = if is_top name then Err fault.NameEmpty else told fault.Name (below directory name)

abbrev pub link : List ℕ → List ℕ → Result (List ℕ) EntryFault
link directory name = if is_top name then Err fault.LinkEmpty else told fault.Link (below directory name)

-- ---- objects

abbrev pub object : ℕ → List ℕ → What → Object
object before place made = record { path = place; lead = before; what = made }

abbrev pub file : Names → List ℕ → Member → Result Object EntryFault
file names into member =
    after (path into member.path.items) (λ place.
    after (rights names member None) (λ kept. Ok (object (lead into) place (what.File kept))))

abbrev pub hard_link : List ℕ → Member → Result Object EntryFault
hard_link into member =
    after (path into member.path.items) (λ place.
    after (link into member.link.items) (λ old. Ok (object (lead into) place (what.HardLink old))))

-- the directory that the archive goes into, above which nothing is made
abbrev pub top : Names → List ℕ → Member → Result Object EntryFault
top names into member = after (directory_rights names member) (λ kept. Ok (object (length into) into (what.Top kept)))

abbrev pub directory_below : Names → List ℕ → Member → Result Object EntryFault
directory_below names into member =
    after (path into member.path.items) (λ place.
    after (directory_rights names member) (λ kept. Ok (object (lead into) place (what.Directory kept))))

abbrev pub directory : Names → List ℕ → Member → Result Object EntryFault
directory names into member = if is_top member.path.items then top names into member else directory_below names into member

abbrev pub object_as : Names → List ℕ → Member → Form → Result Object EntryFault
object_as names into member form.File = file names into member
object_as names into member form.Directory = directory names into member
object_as names into member form.HardLink = hard_link into member

-- the object that an entry makes in a directory, or why it makes none
abbrev pub object_of : Names → List ℕ → Member → Result Object EntryFault
object_of names into member = after (form_of member) (object_as names into member)
