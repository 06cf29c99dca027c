-- The numbers of objects, as a mount shows them: the number in a tree, and 65,536 times the home that the tree has.
use Rattle.std.specs.Prelude.{ℕ, ◌+◌, ◌*◌, ◌/◌, ◌%◌, ◌==◌, zero, suc, Bool, false, List, [], ◌∷◌, ◌++◌, length, Option, None, Some, nat_lt, slice_index_or, slice_set, if◌then◌else◌}
use Rattle.std.specs.Cmp.Lexicographic.{pointwise}
use Rattle.std.specs.Option.{option_map}
use Rattle.std.specs.List.{position_or_len}
use Rattle.sn_walk.specs.declared.object.Home.{Home}
use Rattle.sn_walk.specs.declared.object.Home.TheVariants.{Live, Frozen}
use Rattle.sn_walk.specs.declared.object.Object.{Object}
use Rattle.sn_walk.specs.declared.object.Object.TheVariants.{Node, Snapshots}

-- The snapshots that were met, each at a place that nobody else gets. One that was deleted leaves its place empty.
abbrev pub Places : Type 0
Places = List (Option (List ℕ))

abbrev pub has_name : List ℕ → Option (List ℕ) → Bool
has_name name None = false
has_name name (Some other) = pointwise ◌==◌ other name

-- the place of a snapshot, past the last one where it has none
abbrev pub place_of : Places → List ℕ → ℕ
place_of places name = position_or_len (has_name name) places

-- a snapshot that wasn't met before gets the next place
abbrev pub met : Places → List ℕ → Places
met places name = if nat_lt (place_of places name) (length places) then places else places ++ Some name ∷ []

-- the places once an object was met
abbrev pub met_with : Places → Object → Places
met_with places (Node (Frozen name) number) = met places name
met_with places (Node Live number) = places
met_with places Snapshots = places

-- the places once a snapshot was deleted
abbrev pub without : Places → List ℕ → Places
without places name = slice_set places (place_of places name) None

-- ---- numbers

-- the live tree has home 0, the directory of snapshots 1, and the snapshot at a place two more than that
abbrev pub home_of : Places → Home → ℕ
home_of places Live = 0
home_of places (Frozen name) = 2 + place_of places name

abbrev pub number_of : Places → Object → ℕ
number_of places (Node home number) = home_of places home * 65536 + number
number_of places Snapshots = 65537

abbrev pub home_at : Places → ℕ → Option Home
home_at places zero = Some Live
home_at places (suc zero) = None
home_at places (suc (suc place)) = option_map Frozen (slice_index_or places place None)

-- the object with a number, none where it was never given, or its snapshot was deleted since
abbrev pub object_at : Places → ℕ → Option Object
object_at places number = if number == 65537 then Some Snapshots else option_map (λ home. Node home (number % 65536)) (home_at places (number / 65536))
