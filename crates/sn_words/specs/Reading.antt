-- What a word of each kind spells, or that it spells nothing.
use Rattle.std.specs.Prelude.{◌≡◌, ℕ, ◌+◌, ◌-◌, ◌*◌, ◌^◌, ◌==◌, ◌&&◌, Bool, true, false, not, nat_le, nat_lt, List, [], ◌∷◌, length, Option, Some, None, Result, Ok, Err, if◌then◌else◌, codes, decimal}
use Rattle.std.specs.List.{list_any}
use Rattle.std.specs.Str.{bytes_eq}
use Rattle.std.specs.Str.Parse.{digits_value}
use Rattle.hex.specs.Hex.{decode_of}
use Rattle.hex.specs.declared.error.FromHexError.{FromHexError}
use Rattle.sn_model.specs.Chains.{◌>>=◌}
use Rattle.sn_model.specs.declared.reply.Access.{Access}
use Rattle.sn_model.specs.declared.argument.AclKind.{AclKind}
use Rattle.sn_model.specs.declared.argument.AclKind.TheVariants.{Access as OfAccess, Default as OfDefault}
use Rattle.sn_model.specs.declared.argument.OpenFlags.{OpenFlags}
use Rattle.sn_words.specs.declared.fault.SpellingFault.{SpellingFault}
use Rattle.sn_words.specs.declared.fault.SpellingFault.TheVariants.{Bad, Memory}
use Rattle.sn_words.specs.Fields.{content_word, is_word, parts}

-- what a function returned, seen by view, is what reading gives, unless memory ran out
abbrev pub IsRead : {X Y : Type 0} → (X → Y) → Result X SpellingFault → Option Y → Type 0
IsRead view (Ok x) read = read ≡ Some (view x)
IsRead view (Err Bad) read = read ≡ None
IsRead view (Err Memory) read = Unit {0}

-- a decimal number below a limit, without leading zeros
unfoldable pub number_below : ℕ → List ℕ → Option ℕ
number_below limit word = let n = digits_value 10 word in
    if bytes_eq word (decimal n) && nat_lt n limit then Some n else None

abbrev pub octal_digit_of : ℕ → Option ℕ
octal_digit_of b = if nat_le 48 b && nat_le b 55 then Some (b - 48) else None

-- four octal digits
unfoldable pub octal_of : List ℕ → Option ℕ
octal_of (a ∷ b ∷ c ∷ d ∷ []) = do
  i ← octal_digit_of a
  j ← octal_digit_of b
  k ← octal_digit_of c
  l ← octal_digit_of d
  Some (512 * i + 64 * j + 8 * k + l)
octal_of _ = None

unfoldable pub numbers_of : List (List ℕ) → Option (List ℕ)
numbers_of [] = Some []
numbers_of (word ∷ words) = do
  n ← number_below (2 ^ 32) word
  ns ← numbers_of words
  Some (n ∷ ns)

-- a dash for none, or numbers joined by commas
unfoldable pub groups_of : List ℕ → Option (List ℕ)
groups_of word =
    if bytes_eq word (codes "-") then Some [] else
    if nat_le (length (parts 44 word)) 32 then numbers_of (parts 44 word) else None

abbrev pub word_of : List ℕ → Option (List ℕ)
word_of bytes = if is_word bytes then Some bytes else None

-- a letter, or a dash
abbrev pub right_of : ℕ → ℕ → Option Bool
right_of letter b = if b == letter then Some true else (if b == 45 then Some false else None)

-- `r` or a dash, `w` or a dash, and `x` or a dash
unfoldable pub want_of : List ℕ → Option Access
want_of (a ∷ b ∷ c ∷ []) = do
  r ← right_of 114 a
  w ← right_of 119 b
  x ← right_of 120 c
  Some (record { read = r; write = w; execute = x })
want_of _ = None

-- `a` or `d`
unfoldable pub kind_named : List ℕ → Option AclKind
kind_named word = if bytes_eq word (codes "a") then Some OfAccess else (if bytes_eq word (codes "d") then Some OfDefault else None)

-- a dash for none, or a number
unfoldable pub id_of : List ℕ → Option (Option ℕ)
id_of word = if bytes_eq word (codes "-") then Some None else (number_below (2 ^ 32) word >>= (λ n. Some (Some n)))

-- whether a letter is at the front, and what is after it
abbrev pub letter_of : ℕ → List ℕ → Bool × List ℕ
letter_of letter [] = (false, [])
letter_of letter (b ∷ bytes) = if b == letter then (true, bytes) else (false, b ∷ bytes)

-- one or more of the letters `rwacxt`, each at most once and in this order
unfoldable pub flags_of : List ℕ → Option OpenFlags
flags_of word =
    let r = letter_of 114 word in
    let w = letter_of 119 r.1 in
    let a = letter_of 97 w.1 in
    let c = letter_of 99 a.1 in
    let x = letter_of 120 c.1 in
    let t = letter_of 116 x.1 in
    if not (length word == 0) && length t.1 == 0
    then Some (record { read = r.0; write = w.0; append = a.0; create = c.0; exclusive = x.0; truncate = t.0 })
    else None

-- the mode of a file that open() may make, and no word where it makes none
unfoldable pub file_mode_of : Bool → List (List ℕ) → Option ℕ
file_mode_of true (mode ∷ []) = octal_of mode
file_mode_of false [] = Some 0
file_mode_of _ _ = None

-- a digit from ten on in upper case, which no word has
abbrev pub is_upper_digit : ℕ → Bool
is_upper_digit c = nat_le 65 c && nat_le c 70

-- one digit or more, and none of them in upper case
abbrev pub are_lower_digits : List ℕ → Bool
are_lower_digits word = not (length word == 0) && not (list_any is_upper_digit word)

-- the bytes that digits denote, where they are spelled with these
abbrev pub spelled_by : List ℕ → Result (List ℕ) FromHexError → Option (List ℕ)
spelled_by word (Ok bytes) = if bytes_eq word (content_word bytes) then Some bytes else None
spelled_by word (Err e) = None

-- a dash for none, or two digits for each byte
unfoldable pub content_of : List ℕ → Option (List ℕ)
content_of word = if bytes_eq word (codes "-") then Some [] else spelled_by word (decode_of word)
