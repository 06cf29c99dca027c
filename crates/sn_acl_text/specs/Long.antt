-- The long text of an ACL, as archives have it: acl(5), "LONG TEXT FORM", with commas between the entries.
use Rattle.std.specs.Prelude.{ℕ, ◌==◌, if◌then◌else◌, List, [], ◌∷◌, ◌++◌, length, map, codes}
use Rattle.std.specs.List.{join_with_byte}
use Rattle.sn_acl.specs.declared.entries.Tag.{Tag}
use Rattle.sn_acl.specs.declared.entries.Tag.TheVariants.{UserObj, User, GroupObj, Group, Mask, Other}
use Rattle.sn_acl.specs.declared.entries.Entry.{Entry}
use Rattle.sn_acl.specs.Rights.{permissions_text}
use Rattle.sn_acl.specs.Text.{qualifier_text}

-- the word that an entry begins with
abbrev pub kind_word : Tag → List ℕ
kind_word UserObj = codes "user"
kind_word (User _) = codes "user"
kind_word GroupObj = codes "group"
kind_word (Group _) = codes "group"
kind_word Mask = codes "mask"
kind_word Other = codes "other"

-- kind, qualifier and permissions, as `group:50:r--`
abbrev pub long_entry : Entry → List ℕ
long_entry e = (kind_word e.tag ++ 58 ∷ []) ++ (qualifier_text e.tag ++ (58 ∷ permissions_text e.permissions))

-- a text that an entry may follow: nothing, or all that there is and a comma
abbrev pub separated : List ℕ → List ℕ
separated text = if length text == 0 then [] else text ++ 44 ∷ []

-- the entries, with commas between them
abbrev pub long_text : List Entry → List ℕ
long_text entries = join_with_byte 44 (map long_entry entries)
