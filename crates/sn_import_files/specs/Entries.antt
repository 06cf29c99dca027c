-- What is done of an entry.
use Rattle.std.specs.Prelude.{◌≡◌, ◌⊎◌, ◌<◌, ◌≤◌, ◌+◌, ℕ, Bool, true, false, if◌then◌else◌, List, [], ◌∷◌, ◌++◌, length, take, Option, Some, None, Ok, Err}
use Rattle.sn_model.specs.declared.call.Call.{Call}
use Rattle.sn_import.specs.Calls.{closing_calls, opening_calls}
use Rattle.sn_import.specs.Writes.{Unwritten, writes, writes_of}
use Rattle.sn_import.specs.declared.object.Object.{Object}
use Rattle.sn_import.specs.declared.object.What.{What}
use Rattle.sn_import.specs.declared.object.What.TheVariants.{File, Directory, Top}
use Rattle.sn_import_entry.specs.Entries.{object_of}
use Rattle.sn_import_entry.specs.Forms.{has_set_uid}
use Rattle.sn_import_entry.specs.declared.fault.EntryFault.{EntryFault}
use Rattle.sn_import_entry.specs.declared.fault.ObjectFault.{ObjectFault}
use Rattle.sn_import_entry.specs.declared.fault.ObjectFault.TheVariants as missing
use Rattle.sn_import_entry.specs.declared.names.Names.{Names}
use Rattle.sn_untar.specs.declared.members.Member.{Member}
use Rattle.sn_import_calls.specs.Acts.{Act, Told}
use Rattle.sn_import_calls.specs.Carried.{AreMade, IsStopped, last_descriptor}
use Rattle.sn_import_calls.specs.Stops.{is_call}
use Rattle.sn_import_files.specs.Streams.{Part, begun, longer}
use Rattle.sn_untar.specs.declared.told.Told.{Told as Says}
use Rattle.sn_untar.specs.declared.told.Told.TheVariants as told
use Rattle.sn_import_calls.specs.declared.stop.Stop.{Stop}
use Rattle.sn_import_calls.specs.declared.stop.Stop.TheVariants.{Memory}
use Rattle.sn_import_calls.specs.declared.why.Why.{Why}
use Rattle.sn_import_calls.specs.declared.why.Why.TheVariants as why

-- ---- an object

-- the calls after those that open a file of this content
abbrev pub filling : ℕ → Object → List ℕ → List Call
filling fd object content = writes_of fd content ++ closing_calls fd object

-- all writes that a content fills are made: less than one is left
pub record IsFed (what : What) (fd : ℕ) (content : List ℕ) (acts : List Act) : Type 0 where
  pub left : Unwritten
  pub short : length left.held < 28672
  pub made : AreMade what (writes_of fd content) (writes left []) acts

-- A file that is open gets so many bytes of a content, and is closed. Where it is stopped, that is so whatever content would have followed; and
-- where the archive is the reason, all writes that its content fills are made.
abbrev pub IsFilled : ℕ → Object → ℕ → List ℕ → List Act → Option Stop → Type 0
IsFilled fd object size content acts None = (size ≤ length content) × AreMade object.what (filling fd object (take size content)) [] acts
IsFilled fd object size content acts (Some stop) =
    ((rest : List ℕ) → IsStopped object.what (filling fd object (take size (content ++ rest))) acts stop) × (is_call stop ≡ false → IsFed object.what fd (take size content) acts)

-- after the calls that open it: a directory gets its rights after all entries
abbrev pub IsFinished : What → ℕ → Object → ℕ → List ℕ → List Act → Option Stop → Type 0
IsFinished (File rights) fd object size content acts stop = IsFilled fd object size content acts stop
IsFinished _ fd object size content acts stop = (acts ≡ []) × (stop ≡ None)

-- the calls before the content are made, up to one that stops the object: nothing of the archive is read between them
pub record IsUnopened (object : Object) (acts : List Act) (stop : Option Stop) : Type 0 where
  pub reason : Stop
  pub called : is_call reason ≡ true
  pub stopped : IsStopped object.what (opening_calls object) acts reason
  pub stop_is : stop ≡ Some reason

-- all of them are made, and then the others
pub record IsOpened (object : Object) (size : ℕ) (content : List ℕ) (acts : List Act) (stop : Option Stop) : Type 0 where
  pub first : List Act
  pub more : List Act
  pub acts_are : acts ≡ first ++ more
  pub made : AreMade object.what (opening_calls object) [] first
  pub finished : IsFinished object.what (last_descriptor object.what first) object size content more stop

-- The calls of an object are made, up to one that stops it.
abbrev pub IsMade : Object → ℕ → List ℕ → List Act → Option Stop → Type 0
IsMade object size content acts stop = IsUnopened object acts stop ⊎ IsOpened object size content acts stop

-- ---- an entry

abbrev pub report : ℕ → Member → Why → Act
report place member reason = Told (Some place) member.path.items reason

-- S_ISUID is reported
abbrev pub set_uid_told : ℕ → Member → List Act
set_uid_told place member = if has_set_uid member then report place member why.SetUid ∷ [] else []

-- why it isn't made to its end
abbrev pub stop_told : ℕ → Member → Option Stop → List Act
stop_told place member None = []
stop_told place member (Some stop) = report place member (why.Stop stop) ∷ []

-- why there is no object, and whether that ends the import
abbrev pub fault_told : ObjectFault → Why
fault_told (missing.Entry fault) = why.Fault fault
fault_told missing.Memory = why.Stop Memory

abbrev pub fault_stop : ObjectFault → Option Stop
fault_stop (missing.Entry fault) = None
fault_stop missing.Memory = Some Memory

abbrev pub rights_wait : What → Bool
rights_wait (Directory rights) = true
rights_wait (Top rights) = true
rights_wait _ = false

-- a directory that was made
abbrev pub kept : Object → Option Stop → List Object
kept object None = if rights_wait object.what then object ∷ [] else []
kept object (Some stop) = []

-- What is done of an entry, which directory is kept until the end, and what stopped it.
pub data IsDone (names : Names) (into : List ℕ) (place : ℕ) (part : Part) : List Act → List Object → Option Stop → Type 0 where
  -- what was said of it isn't kept, so that it may be another
  cut : part.is_cut ≡ true → IsDone names into place part (report place part.member why.TooLong ∷ []) [] None
  faulty : (fault : EntryFault) → part.is_cut ≡ false → object_of names into part.member ≡ Err fault
      → IsDone names into place part (report place part.member (why.Fault fault) ∷ []) [] None
  -- before anything was made
  unmade : IsDone names into place part (report place part.member (why.Stop Memory) ∷ []) [] (Some Memory)
  made : (object : Object) (acts : List Act) (stop : Option Stop) → part.is_cut ≡ false → object_of names into part.member ≡ Ok object
      → IsMade object part.member.size part.content acts stop
      → IsDone names into place part (set_uid_told place part.member ++ acts ++ stop_told place part.member stop) (kept object stop) stop

-- What is done where the reader tells this after so many entries, how many there are then, and which directories are kept.
abbrev pub IsTaken : Names → List ℕ → ℕ → Says → List ℕ → List Act → List Object → Option Stop → ℕ → Type 0
IsTaken names into count (told.Entry member) came acts own stop next = IsDone names into (count + 1) (longer (begun member false) came) acts own stop × (next ≡ count + 1)
IsTaken names into count (told.Cut member) came acts own stop next = IsDone names into (count + 1) (begun member true) acts own stop × (next ≡ count + 1) × (came ≡ [])
IsTaken names into count _ came acts own stop next = (acts ≡ []) × (own ≡ []) × (stop ≡ None) × (next ≡ count) × (came ≡ [])
