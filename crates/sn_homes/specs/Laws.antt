-- What numbers tell.
use Rattle.std.specs.Prelude.{◌≡◌, ◌<◌, ℕ, List, length, None, Some, slice_index_or}
use Rattle.sn_walk.specs.declared.object.Object.{Object}
use Rattle.sn_walk.specs.declared.object.Object.TheVariants.{Node, Snapshots}
use Rattle.sn_homes.specs.Homes.{Places, met_with, number_of, object_at, place_of, without}

-- the number of an object in its tree has 16 bits
abbrev pub HasNumber : Object → Type 0
HasNumber (Node home number) = number < 65536
HasNumber Snapshots = Unit {0}

-- the object that is met has the number that it is shown by
abbrev pub NumbersTellObjects : Type 0
NumbersTellObjects = (places : Places) (object : Object) → HasNumber object → object_at (met_with places object) (number_of (met_with places object) object) ≡ Some object

-- a place that was left empty stays so
abbrev pub IsLeft : Places → ℕ → Type 0
IsLeft places place = (place < length places) × (slice_index_or places place None ≡ None)

abbrev pub PlacesStayLeft : Type 0
PlacesStayLeft = (places : Places) (place : ℕ) → IsLeft places place → ((object : Object) → IsLeft (met_with places object) place) × ((name : List ℕ) → IsLeft (without places name) place)

-- that of a snapshot that is deleted is
abbrev pub DeletedLeave : Type 0
DeletedLeave = (places : Places) (name : List ℕ) → place_of places name < length places → IsLeft (without places name) (place_of places name)
