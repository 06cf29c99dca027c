-- Which names and numbers the text of /etc/passwd or /etc/group has.
use Rattle.std.specs.Prelude.{ℕ, ◌^◌, Bool, false, not, ◌&&◌, ◌||◌, ◌==◌, nat_le, if◌then◌else◌, List, [], ◌∷◌, ◌++◌, drop, Option, None}
use Rattle.std.specs.List.{before_first, after_first, position_or_len, slice_split}
use Rattle.std.specs.Option.{option_map, option_to_list}
use Rattle.sn_words.specs.Reading.{number_below}

abbrev pub is_colon : ℕ → Bool
is_colon b = b == 58

abbrev pub is_line_end : ℕ → Bool
is_line_end b = b == 10

-- what isspace() passes in the C locale: tab, line end, vertical tab, form feed, return and space
abbrev pub is_blank : ℕ → Bool
is_blank b = (b == 32) || (nat_le 9 b && nat_le b 13)

-- a line without the blanks before its first other byte
abbrev pub past_blanks : List ℕ → List ℕ
past_blanks line = drop (position_or_len (λ b. not (is_blank b)) line) line

-- whether a line that begins so has an account: no comment, no mark of another source of names, and some name
abbrev pub begins_account : List ℕ → Bool
begins_account [] = false
begins_account (b ∷ name) = not ((b == 35) || (b == 43) || (b == 45))

-- a name, a password and a number, with colons between them and whatever after another colon
abbrev pub account_in : List ℕ → Option (List ℕ × ℕ)
account_in line =
    let name = before_first is_colon line in
    let number = before_first is_colon (after_first is_colon (after_first is_colon line)) in
    if begins_account name then option_map (λ n. (name, n)) (number_below (2 ^ 32) number) else None

-- the account of a line
unfoldable pub account_of : List ℕ → Option (List ℕ × ℕ)
account_of line = account_in (past_blanks line)

-- those of lines, in their order
abbrev pub accounts_in : List (List ℕ) → List (List ℕ × ℕ)
accounts_in [] = []
accounts_in (line ∷ lines) = option_to_list (account_of line) ++ accounts_in lines

-- those of a text
abbrev pub accounts_of : List ℕ → List (List ℕ × ℕ)
accounts_of text = accounts_in (slice_split is_line_end text)
