-- Paths: POSIX.1-2017, 3.271 Pathname. That a path is absolute, and which of its faults is reported first, are rules of this project.
use Rattle.std.specs.Prelude.{ℕ, ◌==◌, nat_lt, List, [], ◌∷◌, length, Option, None, Some, Result, Ok, Err, if◌then◌else◌}
use Rattle.std.specs.List.{list_all, slice_split}
use Rattle.sn_walk.specs.declared.fault.PathFault.{PathFault}
use Rattle.sn_walk.specs.declared.fault.PathFault.TheVariants.{Misspelt, TooLong}
use Rattle.sn_limits.specs.Names.{is_name_spelled, has_name_length}

-- the pieces between the slashes: one more than there are slashes
abbrev pub pieces : List ℕ → List (List ℕ)
pieces text = slice_split (λ c. c == 47) text

-- the pieces of a text, where there is one
abbrev pub pieces_of : Option (List ℕ) → List (List ℕ)
pieces_of None = []
pieces_of (Some text) = pieces text

-- the names of what follows a path's first slash
abbrev pub components : List ℕ → List (List ℕ)
components [] = []
components (b ∷ bs) = pieces (b ∷ bs)

-- names that are all spelled as names: the path, or a fault where one is too long
abbrev pub of_length : List (List ℕ) → Result (List (List ℕ)) PathFault
of_length names = if list_all has_name_length names then Ok names else Err TooLong

abbrev pub of_names : List (List ℕ) → Result (List (List ℕ)) PathFault
of_names names = if list_all is_name_spelled names then of_length names else Err Misspelt

-- a word that isn't too long: it has to begin with the slash
abbrev pub of_word : List ℕ → Result (List (List ℕ)) PathFault
of_word [] = Err Misspelt
of_word (b ∷ bs) = if b == 47 then of_names (components bs) else Err Misspelt

-- the names of a path, or what is wrong in it: its length comes first, and the length of a name last
abbrev pub parsed : List ℕ → Result (List (List ℕ)) PathFault
parsed word = if nat_lt 1023 (length word) then Err TooLong else of_word word

-- the last of a name and those after it
abbrev pub last_after : List ℕ → List (List ℕ) → List ℕ
last_after name [] = name
last_after name (next ∷ names) = last_after next names

abbrev pub last_of : List (List ℕ) → Option (List ℕ)
last_of [] = None
last_of (name ∷ names) = Some (last_after name names)
