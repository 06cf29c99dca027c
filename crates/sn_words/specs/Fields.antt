-- How the words of a script's line are spelled.
use Rattle.std.specs.Prelude.{◌≡◌, ℕ, ◌+◌, ◌/◌, ◌%◌, ◌==◌, ◌<◌, Bool, true, false, ◌&&◌, not, List, [], ◌∷◌, ◌++◌, Option, Some, None, length, map, codes, decimal}
use Rattle.std.specs.Char.{is_ascii_graphic}
use Rattle.std.specs.List.{join_with_byte, list_all, slice_split}
use Rattle.hex.specs.Hex.{encode_lower}
use Rattle.sn_model.specs.declared.argument.AclKind.{AclKind}
use Rattle.sn_model.specs.declared.argument.AclKind.TheVariants.{Access as OfAccess, Default as OfDefault}
use Rattle.sn_model.specs.declared.argument.OpenFlags.{OpenFlags}

-- the parts of a text between the bytes that separate them
abbrev pub parts : ℕ → List ℕ → List (List ℕ)
parts separator text = slice_split (λ b. b == separator) text

-- four octal digits
abbrev pub octal : ℕ → List ℕ
octal n = (48 + n / 512) ∷ (48 + n / 64 % 8) ∷ (48 + n / 8 % 8) ∷ (48 + n % 8) ∷ []

-- numbers joined by commas, or a dash for none
abbrev pub numbers_word : List ℕ → List ℕ
numbers_word [] = 45 ∷ []
numbers_word (n ∷ ns) = join_with_byte 44 (map decimal (n ∷ ns))

-- the number of a user or a group, or a dash for none
abbrev pub id_word : Option ℕ → List ℕ
id_word None = codes "-"
id_word (Some n) = decimal n

-- a word: one or more graphic bytes of ASCII, 0x21 to 0x7E
abbrev pub is_word : List ℕ → Bool
is_word bytes = not (length bytes == 0) && list_all is_ascii_graphic bytes

-- which of an object's ACLs
abbrev pub kind_word : AclKind → List ℕ
kind_word OfAccess = codes "a"
kind_word OfDefault = codes "d"

-- a letter where a flag is set
abbrev pub letter_word : ℕ → Bool → List ℕ
letter_word letter true = letter ∷ []
letter_word letter false = []

-- the letters of the flags that are set, in the order `rwacxt`
abbrev pub flags_word : OpenFlags → List ℕ
flags_word f = letter_word 114 f.read ++ (letter_word 119 f.write ++ (letter_word 97 f.append ++ (letter_word 99 f.create
    ++ (letter_word 120 f.exclusive ++ letter_word 116 f.truncate))))

-- one flag or more is set
abbrev pub has_flag : OpenFlags → Bool
has_flag f = not (length (flags_word f) == 0)

-- the mode of a file that open() makes is after the flags where one of them asks for that, and nothing is elsewhere
abbrev pub mode_words : Bool → ℕ → List (List ℕ)
mode_words true mode = octal mode ∷ []
mode_words false mode = []

-- a mode that is in no word is 0
abbrev pub IsFileMode : Bool → ℕ → Type 0
IsFileMode true mode = mode < 4096
IsFileMode false mode = mode ≡ 0

-- bytes in hexadecimal, or a dash for none
abbrev pub content_word : List ℕ → List ℕ
content_word [] = codes "-"
content_word (b ∷ bytes) = encode_lower (b ∷ bytes)
