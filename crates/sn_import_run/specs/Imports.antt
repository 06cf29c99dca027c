-- What an import does: its entries in their order, and the rights of directories after them.
use Rattle.std.specs.Prelude.{◌≡◌, ℕ, ◌+◌, Bool, true, false, not, List, [], ◌∷◌, ◌++◌, length, Option, Some, None, Result, Ok, Err}
use Rattle.std.specs.Bool.{MatchBool}
use Rattle.sn_import.specs.Calls.{closing_from}
use Rattle.sn_import.specs.Depths.{AreDeepestFirst}
use Rattle.sn_import.specs.declared.closing.Closing.TheVariants.{Give}
use Rattle.sn_import.specs.declared.object.Object.{Object}
use Rattle.sn_import_entry.specs.declared.names.Names.{Names}
use Rattle.sn_import_calls.specs.Acts.{Act, Told}
use Rattle.sn_import_calls.specs.Carried.{AreMade, IsStopped, is_outside}
use Rattle.sn_import_files.specs.Entries.{IsDone}
use Rattle.sn_import_calls.specs.Stops.{ends_import, ends_reading, is_call}
use Rattle.sn_import_files.specs.Streams.{Part}
use Rattle.sn_import_calls.specs.declared.stop.Stop.{Stop}
use Rattle.sn_import_calls.specs.declared.stop.Stop.TheVariants.{Memory}
use Rattle.sn_import_calls.specs.declared.why.Why.TheVariants as why

abbrev pub goes_on : Option Stop → Bool
goes_on None = true
goes_on (Some stop) = not (ends_reading stop)

-- only what ends the reading stays an error
abbrev pub IsPassed : {A : Type 0} → Result A Stop → Option Stop → Type 0
IsPassed (Ok a) stop = goes_on stop ≡ true
IsPassed (Err e) stop = (stop ≡ Some e) × (ends_reading e ≡ true)

-- Entries from a place on are done, one after the other, and none ends the reading.
abbrev pub AreDone : Names → List ℕ → ℕ → List Part → List Act → List Object → Type 0
AreDone names into place [] acts directories = (acts ≡ []) × (directories ≡ [])
AreDone names into place (part ∷ parts) acts directories =
    (first : List Act) × (more : List Act) × (own : List Object) × (others : List Object) × (stop : Option Stop)
    × (acts ≡ first ++ more) × (directories ≡ own ++ others) × (goes_on stop ≡ true)
    × IsDone names into place part first own stop × AreDone names into (place + 1) parts more others

-- the reading ends after so many entries
abbrev pub end_told : ℕ → Option Stop → List Act
end_told count None = []
end_told count (Some stop) = Told (Some (count + 1)) [] (why.Stop stop) ∷ []

-- Of entries, all that is done before directories get their rights, and what ended the reading, if it wasn't the archive's end.
pub data AreRead (names : Names) (into : List ℕ) (parts : List Part) : List Act → List Object → Option Stop → Type 0 where
  all : (acts : List Act) (directories : List Object) → AreDone names into 1 parts acts directories → AreRead names into parts acts directories None
  -- between two entries, where no call was refused
  broken : (acts : List Act) (directories : List Object) (stop : Stop) → is_outside stop ≡ true → AreDone names into 1 parts acts directories
      → AreRead names into parts (acts ++ end_told (length parts) (Some stop)) directories (Some stop)
  -- in an entry
  within : (front : List Part) (last : Part) (acts more : List Act) (directories own : List Object) (stop : Stop) → parts ≡ front ++ last ∷ []
      → AreDone names into 1 front acts directories → IsDone names into (length front + 1) last more own (Some stop) → ends_reading stop ≡ true
      → AreRead names into parts (acts ++ more) (directories ++ own) (Some stop)

-- ---- the rights of directories

abbrev pub stop_told : Object → Option Stop → List Act
stop_told object None = []
stop_told object (Some stop) = Told None object.path (why.Stop stop) ∷ []

-- the archive is no reason to stop here
abbrev pub IsGranted : Object → List Act → Option Stop → Type 0
IsGranted object acts None = AreMade object.what (closing_from Give object) [] acts
IsGranted object acts (Some stop) = (is_call stop ≡ true) × IsStopped object.what (closing_from Give object) acts stop

abbrev pub is_over : Option Stop → Bool
is_over None = false
is_over (Some stop) = ends_import stop

-- The directories get their rights in this order, until one ends the import.
abbrev pub AreGranted : List Object → List Act → Type 0
AreGranted [] acts = acts ≡ []
AreGranted (object ∷ objects) acts =
    (own : List Act) × (more : List Act) × (stop : Option Stop) × (acts ≡ (own ++ stop_told object stop) ++ more) × IsGranted object own stop
    × MatchBool (is_over stop) (more ≡ []) (AreGranted objects more)

-- the deepest first, unless no memory is left to sort them
pub data SetsRights (directories : List Object) : List Act → Type 0 where
  sorted : (order : List Object) (acts : List Act) → AreDeepestFirst directories order → AreGranted order acts → SetsRights directories acts
  unsorted : SetsRights directories (Told None [] (why.Stop Memory) ∷ [])

-- ---- the whole

-- What an import of entries does, whose reading this stopped, or nothing: they are done, and then directories get their rights, unless
-- nothing more is made.
pub record IsImport (names : Names) (into : List ℕ) (parts : List Part) (stop : Option Stop) (acts : List Act) : Type 0 where
  pub reading : List Act
  pub after : List Act
  pub directories : List Object
  pub acts_are : acts ≡ reading ++ after
  pub are_read : AreRead names into parts reading directories stop
  pub rights : MatchBool (is_over stop) (after ≡ []) (SetsRights directories after)
