-- The calls that make an object of an archive, in their order.
use Rattle.std.specs.Prelude.{◌≡◌, ℕ, ◌+◌, ◌==◌, ◌||◌, Bool, true, false, if◌then◌else◌, List, [], ◌∷◌, ◌++◌, map, take, drop, Option, Some, None}
use Rattle.std.specs.Str.{bytes_eq}
use Rattle.sn_acl.specs.Modes.{mode_bits, mode_of}
use Rattle.sn_acl.specs.Text.{acl_text}
use Rattle.sn_acl.specs.declared.entries.Entry.{Entry}
use Rattle.sn_model.specs.declared.argument.AclKind.TheVariants as kind
use Rattle.sn_model.specs.declared.argument.OpenFlags.{OpenFlags}
use Rattle.sn_model.specs.declared.call.Call.{Call}
use Rattle.sn_model.specs.declared.call.Call.TheVariants as call
use Rattle.sn_import.specs.declared.object.Object.{Object}
use Rattle.sn_import.specs.declared.object.Rights.{Rights}
use Rattle.sn_import.specs.declared.object.What.{What}
use Rattle.sn_import.specs.declared.object.What.TheVariants.{File, Directory, Top, HardLink}
use Rattle.sn_import.specs.declared.opening.Opening.{Opening}
use Rattle.sn_import.specs.declared.opening.Opening.TheVariants as opening
use Rattle.sn_import.specs.declared.closing.Closing.{Closing}
use Rattle.sn_import.specs.declared.closing.Closing.TheVariants as closing

-- ---- rights

abbrev pub owning : List ℕ → Rights → Call
owning path rights = call.Chown path (Some rights.user) (Some rights.group)

abbrev pub granting : List ℕ → Rights → Call
granting path rights = call.SetAcl path kind.Access (acl_text rights.access)

-- the text of a default ACL, a dash for none
abbrev pub default_text : Option (List Entry) → List ℕ
default_text None = 45 ∷ []
default_text (Some acl) = acl_text acl

abbrev pub granting_new : List ℕ → Rights → Call
granting_new path rights = call.SetAcl path kind.Default (default_text rights.default)

abbrev pub bit : Bool → ℕ → ℕ
bit is_set value = if is_set then value else 0

-- the permission bits that the ACL shows, S_ISGID and S_ISVTX
abbrev pub bits_of : Rights → ℕ
bits_of rights = mode_bits (mode_of rights.access) + bit rights.set_gid 1024 + bit rights.sticky 512

abbrev pub marking : List ℕ → Rights → Call
marking path rights = call.Chmod path (bits_of rights)

-- ---- before the content

-- what is written, to a file that isn't there
abbrev pub new_file : OpenFlags
new_file = record { read = false; write = true; append = false; create = true; exclusive = true; truncate = false }

-- the directories that a path leads through, after a front of it: what is before each further slash
abbrev pub through : List ℕ → List ℕ → List (List ℕ)
through front [] = []
through front (b ∷ rest) = if b == 47 then front ∷ through (front ++ b ∷ []) rest else through (front ++ b ∷ []) rest

abbrev pub through_from : ℕ → List ℕ → List (List ℕ)
through_from at path = through (take at path) (drop at path)

-- missing directories above are made with 0755
abbrev pub making_above : List ℕ → Call
making_above path = call.Mkdir path 493

-- the owner of a directory, which gets its rights after all entries
abbrev pub owned : List ℕ → What → List Call
owned path (Directory rights) = owning path rights ∷ []
owned path (Top rights) = owning path rights ∷ []
owned path _ = []

-- what is made once nothing has the name: nobody but the user 0 has rights to it
abbrev pub made : List ℕ → What → List Call
made path (File rights) = call.Open path new_file 384 ∷ []
made path (Directory rights) = call.Mkdir path 448 ∷ owned path (Directory rights)
made path (Top rights) = owned path (Top rights)
made path (HardLink old) = call.Link old path ∷ []

-- a file that has the name goes; a file that is a link to itself is there already
abbrev pub cleared : List ℕ → What → List Call
cleared path (Top rights) = made path (Top rights)
cleared path (HardLink old) = if bytes_eq old path then [] else call.Unlink path ∷ made path (HardLink old)
cleared path what = call.Unlink path ∷ made path what

-- nothing goes for a link to what isn't there
abbrev pub looked : List ℕ → What → List Call
looked path (HardLink old) = call.Stat old ∷ cleared path (HardLink old)
looked path what = cleared path what

abbrev pub opening_from : Opening → Object → List Call
opening_from (opening.Above at) object = map making_above (through_from at object.path) ++ looked object.path object.what
opening_from opening.Look object = looked object.path object.what
opening_from opening.Clear object = cleared object.path object.what
opening_from opening.Make object = made object.path object.what
opening_from opening.Own object = owned object.path object.what
opening_from opening.Done object = []

-- the calls before the content; no directory above the one that the archive goes into is made
abbrev pub opening_calls : Object → List Call
opening_calls object = opening_from (opening.Above object.lead) object

-- ---- after the content, and of a directory after all entries

-- S_ISGID and S_ISVTX: a new file has neither
abbrev pub marked : List ℕ → What → List Call
marked path (File rights) = if rights.set_gid || rights.sticky then marking path rights ∷ [] else []
marked path (Directory rights) = marking path rights ∷ []
marked path (Top rights) = marking path rights ∷ []
marked path (HardLink old) = []

abbrev pub granted_new : List ℕ → What → List Call
granted_new path (Directory rights) = granting_new path rights ∷ marked path (Directory rights)
granted_new path (Top rights) = granting_new path rights ∷ marked path (Top rights)
granted_new path what = marked path what

-- nothing that was inherited stays
abbrev pub granted : List ℕ → What → List Call
granted path (File rights) = granting path rights ∷ granted_new path (File rights)
granted path (Directory rights) = granting path rights ∷ granted_new path (Directory rights)
granted path (Top rights) = granting path rights ∷ granted_new path (Top rights)
granted path (HardLink old) = []

abbrev pub given : List ℕ → What → List Call
given path (File rights) = owning path rights ∷ granted path (File rights)
given path what = granted path what

abbrev pub closed : ℕ → List ℕ → What → List Call
closed fd path (File rights) = call.Close fd ∷ given path (File rights)
closed fd path what = given path what

abbrev pub closing_from : Closing → Object → List Call
closing_from (closing.Close fd) object = closed fd object.path object.what
closing_from closing.Give object = given object.path object.what
closing_from closing.Grant object = granted object.path object.what
closing_from closing.GrantNew object = granted_new object.path object.what
closing_from closing.Mark object = marked object.path object.what
closing_from closing.Done object = []

abbrev pub closing_calls : ℕ → Object → List Call
closing_calls fd object = closing_from (closing.Close fd) object

-- ---- the next call

-- the first of some calls, and those from a place on
abbrev pub Goes : {Place : Type 0} → (Place → Object → List Call) → Object → Option (Call × Place) → List Call → Type 0
Goes from object None calls = calls ≡ []
Goes from object (Some next) calls = calls ≡ next.0 ∷ from next.1 object
