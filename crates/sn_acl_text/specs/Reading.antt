-- What the text of an ACL says: its entries, each in the long or the short form.
use Rattle.std.specs.Prelude.{ℕ, Bool, ◌&&◌, ◌||◌, ◌==◌, nat_lt, if◌then◌else◌, List, [], ◌∷◌, ◌++◌, length, take, drop, Option, Some, None, codes, decimal}
use Rattle.std.specs.List.{list_all, before_first, after_first, slice_split}
use Rattle.std.specs.Option.{option_map}
use Rattle.std.specs.Str.{bytes_eq}
use Rattle.std.specs.Str.Parse.{digits_value}
use Rattle.sn_acl.specs.Rights.{permissions_text, rights_named}
use Rattle.sn_acl_text.specs.declared.entries.Qualifier.{Qualifier}
use Rattle.sn_acl_text.specs.declared.entries.Qualifier.TheVariants.{Number, Name}
use Rattle.sn_acl_text.specs.declared.entries.Whom.{Whom}
use Rattle.sn_acl_text.specs.declared.entries.Whom.TheVariants.{UserObj, User, GroupObj, Group, Mask, Other}
use Rattle.sn_acl_text.specs.declared.entries.TextEntry.{TextEntry}

-- ---- the parts of a text

-- what is before the first such byte, or all
abbrev pub before : ℕ → List ℕ → List ℕ
before byte text = before_first (λ b. b == byte) text

-- what is after the first such byte, or nothing
abbrev pub after : ℕ → List ℕ → List ℕ
after byte text = after_first (λ b. b == byte) text

-- the four fields of an entry, where those that are missing are empty
pub record Fields : Type 0 where
  pub kind : List ℕ
  pub qualifier : List ℕ
  pub rights : List ℕ
  pub number : List ℕ

abbrev pub fields_of : List ℕ → Fields
fields_of text = record {
  kind = before 58 text;
  qualifier = before 58 (after 58 text);
  rights = before 58 (after 58 (after 58 text));
  number = after 58 (after 58 (after 58 text));
}

-- ---- one field

-- the number of 32 bits that these decimal digits are, which have no zeros before them
abbrev pub number_of : List ℕ → Option ℕ
number_of digits = if bytes_eq digits (decimal (digits_value 10 digits)) && nat_lt (digits_value 10 digits) 4294967296 then Some (digits_value 10 digits) else None

-- a number where it is one, else a name
abbrev pub number_or_name : List ℕ → Option ℕ → Qualifier
number_or_name text None = Name text
number_or_name text (Some n) = Number n

-- the user or the group: the number of the fourth field, where there is one
abbrev pub qualifier_of : Fields → Option Qualifier
qualifier_of fields = if length fields.number == 0 then Some (number_or_name fields.qualifier (number_of fields.qualifier)) else option_map Number (number_of fields.number)

abbrev pub is_blank : ℕ → Bool
is_blank b = (b == 32) || (b == 9)

-- the rights that three letters are
abbrev pub rights_of : List ℕ → Option ℕ
rights_of letters = if bytes_eq letters (permissions_text (rights_named letters)) then Some (rights_named letters) else None

-- the rights: three letters, with nothing but blanks after them
abbrev pub rights_said : List ℕ → Option ℕ
rights_said field = if list_all is_blank (drop 3 field) then rights_of (take 3 field) else None

-- ---- one entry

abbrev pub is_word : List ℕ → List ℕ → List ℕ → Bool
is_word word long short = bytes_eq word long || bytes_eq word short

-- an entry that has no qualifier
abbrev pub plain : Whom → Fields → Option Whom
plain whom fields = if (length fields.qualifier == 0) && (length fields.number == 0) then Some whom else None

-- an entry of the object's own user or group, or of the one that is given
abbrev pub own_or : Whom → (Qualifier → Whom) → Fields → Option Whom
own_or own of fields = if length fields.qualifier == 0 then plain own fields else option_map of (qualifier_of fields)

-- whom an entry is for
abbrev pub whom_of : Fields → Option Whom
whom_of fields =
    if is_word fields.kind (codes "user") (codes "u") then own_or UserObj User fields else
    if is_word fields.kind (codes "group") (codes "g") then own_or GroupObj Group fields else
    if is_word fields.kind (codes "mask") (codes "m") then plain Mask fields else
    if is_word fields.kind (codes "other") (codes "o") then plain Other fields else None

-- an entry for somebody with some rights, if both are given
abbrev pub with_rights : Option Whom → Option ℕ → Option TextEntry
with_rights None rights = None
with_rights (Some whom) None = None
with_rights (Some whom) (Some rights) = Some (record { whom = whom; permissions = rights })

-- the entry that a text without a comment says
abbrev pub entry_said : List ℕ → Option TextEntry
entry_said text = with_rights (whom_of (fields_of text)) (rights_said (fields_of text).rights)

-- ---- all entries

-- a comma or a line end
abbrev pub is_separator : ℕ → Bool
is_separator b = (b == 44) || (b == 10)

-- the entry that a word says before its comment, which begins at a `#`
abbrev pub uncommented : List ℕ → List ℕ
uncommented word = before 35 word

-- one more entry before others
abbrev pub followed : Option TextEntry → Option (List TextEntry) → Option (List TextEntry)
followed None others = None
followed (Some e) None = None
followed (Some e) (Some others) = Some (e ∷ others)

-- the entries of words, of which those without an entry are passed over
abbrev pub entries_said : List (List ℕ) → Option (List TextEntry)
entries_said [] = Some []
entries_said (word ∷ words) = if length (uncommented word) == 0 then entries_said words else followed (entry_said (uncommented word)) (entries_said words)

-- what a text says: the entries between commas and line ends, or none where one of them is damaged
abbrev pub said : List ℕ → Option (List TextEntry)
said text = entries_said (slice_split is_separator text)

-- entries, and after them those of the rest of a text
abbrev pub onto : List TextEntry → Option (List TextEntry) → Option (List TextEntry)
onto entries others = option_map (λ more. entries ++ more) others
