-- The supplementary groups in a text of /proc/PID/status: proc_pid_status(5).
use Rattle.std.specs.Prelude.{◌≡◌, ℕ, ◌-◌, ◌^◌, ◌<◌, ◌==◌, ◌&&◌, ◌||◌, Bool, false, not, nat_le, nat_lt, if◌then◌else◌, List, [], ◌∷◌, ◌++◌, length, take, drop, map, filter, Option, None, Some, Result, Ok, Err, codes, decimal}
use Rattle.std.specs.List.{AllByRecursion, slice_split}
use Rattle.std.specs.Option.{option_to_list}
use Rattle.std.specs.Str.{bytes_eq}
use Rattle.std.specs.Str.Parse.{digits_value}
use Rattle.sn_caller_groups.specs.declared.groups.GroupsFault.{GroupsFault}
use Rattle.sn_caller_groups.specs.declared.groups.GroupsFault.TheVariants.{TooMany, Unmapped, Unreadable}

-- ---- the list

abbrev pub is_line_end : ℕ → Bool
is_line_end b = b == 10

-- what follows the name of the field in a line that lists groups
abbrev pub list_in : List ℕ → Option (List ℕ)
list_in line = if bytes_eq (take 7 line) (codes "Groups:") then Some (drop 7 line) else None

-- the lists of such lines
abbrev pub lists_in : List (List ℕ) → List (List ℕ)
lists_in [] = []
lists_in (line ∷ lines) = option_to_list (list_in line) ++ lists_in lines

abbrev pub only : List (List ℕ) → Option (List ℕ)
only (list ∷ []) = Some list
only _ = None

-- the list of a text that consists of lines, each with a line end after it, one of which lists groups
abbrev pub list_of : List ℕ → Option (List ℕ)
list_of text = if bytes_eq (drop (length text - 1) text) (10 ∷ []) then only (lists_in (slice_split is_line_end (take (length text - 1) text))) else None

-- ---- the groups

-- a space or a tab
abbrev pub is_blank : ℕ → Bool
is_blank b = (b == 32) || (b == 9)

-- the number of 32 bits that a word is, in decimal without zeros before it
unfoldable pub number_of : List ℕ → Option ℕ
number_of word = let n = digits_value 10 word in if bytes_eq word (decimal n) && nat_lt n (2 ^ 32) then Some n else None

-- Linux shows a group as 65534 that isn't mapped to the reader's namespace
abbrev pub is_hidden : Bool → ℕ → Bool
is_hidden all_mapped n = (n == 65534) && not all_mapped

-- groups and one more, of which there may be 32
abbrev pub with_group : Bool → List ℕ → Option ℕ → Result (List ℕ) GroupsFault
with_group all_mapped groups None = Err Unreadable
with_group all_mapped groups (Some n) =
    if is_hidden all_mapped n then Err Unmapped else
    if nat_le 32 (length groups) then Err TooMany else Ok (groups ++ n ∷ [])

abbrev pub after : Result (List ℕ) GroupsFault → (List ℕ → Result (List ℕ) GroupsFault) → Result (List ℕ) GroupsFault
after (Err fault) read = Err fault
after (Ok groups) read = read groups

-- groups and those that words spell, where two blanks may have nothing between them
abbrev pub read_groups : Bool → List ℕ → List (List ℕ) → Result (List ℕ) GroupsFault
read_groups all_mapped groups [] = Ok groups
read_groups all_mapped groups (word ∷ words) =
    if length word == 0 then read_groups all_mapped groups words else
    after (with_group all_mapped groups (number_of word)) (λ more. read_groups all_mapped more words)

abbrev pub groups_in : Bool → Option (List ℕ) → Result (List ℕ) GroupsFault
groups_in all_mapped None = Err Unreadable
groups_in all_mapped (Some list) = read_groups all_mapped [] (slice_split is_blank list)

-- the groups that a text lists, or the fault of the first word that has one
abbrev pub groups_of : Bool → List ℕ → Result (List ℕ) GroupsFault
groups_of all_mapped text = groups_in all_mapped (list_of text)

-- ---- the grammar

abbrev pub is_some_word : List ℕ → Bool
is_some_word word = not (length word == 0)

-- A text lists groups: it consists of whole lines, and the words of the only one that begins with `Groups:` are their numbers.
pub record Lists (text groups : List ℕ) : Type 0 where
  pub lines : List ℕ
  pub ended : text ≡ lines ++ 10 ∷ []
  pub list : List ℕ
  pub only_list : lists_in (slice_split is_line_end lines) ≡ list ∷ []
  pub words : filter is_some_word (slice_split is_blank list) ≡ map decimal groups
  pub numbers : AllByRecursion (λ n. n < 2 ^ 32) groups

abbrev pub AreShown : Bool → List ℕ → Type 0
AreShown all_mapped groups = AllByRecursion (λ n. is_hidden all_mapped n ≡ false) groups
