-- Texts of entries. The short text form of acl(5), in canonical order and joined by commas.
use Rattle.std.specs.Prelude.{ℕ, ◌==◌, ◌&&◌, if◌then◌else◌, List, [], ◌∷◌, ◌++◌, map, Option, Some, None, codes, decimal}
use Rattle.std.specs.List.{slice_split}
use Rattle.std.specs.Str.{bytes_eq}
use Rattle.std.specs.Str.Parse.{digits_value}
use Rattle.sn_acl.specs.declared.entries.Tag.{Tag}
use Rattle.sn_acl.specs.declared.entries.Tag.TheVariants.{UserObj, User, GroupObj, Group, Mask, Other}
use Rattle.sn_acl.specs.declared.entries.Entry.{Entry}
use Rattle.sn_acl.specs.Rights.{permissions_text, rights_named}
use Rattle.sn_acl.specs.AccessList.{is_acl}

-- the name of an entry that denies
abbrev pub tag_text : Tag → List ℕ
tag_text UserObj = codes "owner"
tag_text (User n) = codes "user:" ++ decimal n
tag_text GroupObj = codes "group"
tag_text (Group n) = codes "group:" ++ decimal n
tag_text Mask = codes "mask"
tag_text Other = codes "other"

-- the letter that an entry begins with
abbrev pub kind_letter : Tag → ℕ
kind_letter UserObj = 117
kind_letter (User _) = 117
kind_letter GroupObj = 103
kind_letter (Group _) = 103
kind_letter Mask = 109
kind_letter Other = 111

-- the user or group number, without leading zeros
abbrev pub qualifier_text : Tag → List ℕ
qualifier_text (User n) = decimal n
qualifier_text (Group n) = decimal n
qualifier_text _ = []

-- kind, qualifier and permissions, as `g:50:r--`
abbrev pub entry_text : Entry → List ℕ
entry_text e = (kind_letter e.tag ∷ 58 ∷ []) ++ (qualifier_text e.tag ++ (58 ∷ permissions_text e.permissions))

-- each entry after a comma
abbrev pub more_text : List Entry → List ℕ
more_text [] = []
more_text (e ∷ es) = 44 ∷ (entry_text e ++ more_text es)

-- the entries, with commas between them
abbrev pub acl_text : List Entry → List ℕ
acl_text [] = []
acl_text (e ∷ es) = entry_text e ++ more_text es

-- a tag without a qualifier, or with the number that digits write
abbrev pub qualified : Tag → (ℕ → Tag) → List ℕ → Tag
qualified plain named [] = plain
qualified plain named (digit ∷ digits) = named (digits_value 10 (digit ∷ digits))

-- whom an entry is for that has this kind and this qualifier
abbrev pub tag_named : List ℕ → List ℕ → Tag
tag_named kind qualifier =
    if bytes_eq kind (codes "u") then qualified UserObj User qualifier else
    if bytes_eq kind (codes "g") then qualified GroupObj Group qualifier else
    if bytes_eq kind (codes "m") then Mask else Other

-- the entry that kind, qualifier and letters name
abbrev pub entry_named : List (List ℕ) → Entry
entry_named (kind ∷ qualifier ∷ letters ∷ others) = record { tag = tag_named kind qualifier; permissions = rights_named letters }
entry_named _ = record { tag = Other; permissions = 0 }

-- the entries that the words of a text name, which may have another text
abbrev pub entries_named : List ℕ → List Entry
entries_named text = map (λ word. entry_named (slice_split (λ b. b == 58) word)) (slice_split (λ b. b == 44) text)

-- The ACL that a text spells: the entries that it names, where they are a valid ACL and the text is theirs.
unfoldable pub acl_of : List ℕ → Option (List Entry)
acl_of text = let entries = entries_named text in
    if is_acl entries && bytes_eq text (acl_text entries) then Some entries else None
