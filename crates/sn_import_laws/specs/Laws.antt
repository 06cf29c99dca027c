-- What the calls of an import make.
use Rattle.std.specs.Prelude.{◌≡◌, ◌≢◌, ◌⊎◌, ◌++◌, ℕ, List, [], take, None}
use Rattle.sn_limits.specs.declared.limits.Limits.{Limits}
use Rattle.sn_import.specs.Calls.{closing_from, opening_from, owned}
use Rattle.sn_import.specs.declared.closing.Closing.TheVariants.{Give}
use Rattle.sn_import.specs.Writes.{writes_of}
use Rattle.sn_import.specs.declared.object.Object.{Object}
use Rattle.sn_import.specs.declared.object.Rights.{Rights}
use Rattle.sn_import.specs.declared.object.What.{What}
use Rattle.sn_import.specs.declared.object.What.TheVariants.{File, Directory, Top, HardLink}
use Rattle.sn_import.specs.declared.opening.Opening.TheVariants.{Make}
use Rattle.sn_import_calls.specs.Acts.{Act}
use Rattle.sn_import_calls.specs.Carried.{AreMade, last_descriptor}
use Rattle.sn_import_files.specs.Entries.{IsMade, filling}
use Rattle.sn_model.specs.Tree.{Node}
use Rattle.sn_model.specs.World.{World}
use Rattle.sn_model.specs.Worlds.{IsWorld}
use Rattle.sn_import_laws.specs.Contents.{IsFilled, IsFilling}
use Rattle.sn_import_laws.specs.Files.{IsMadeFile, file_node}
use Rattle.sn_import_laws.specs.Names.{IsNewDirectory, IsNewLink}
use Rattle.sn_import_laws.specs.Rights.{AreRights, as_directory, as_file, with_owner}
use Rattle.sn_import_laws.specs.Runs.{IsRoots, Runs}
use Rattle.sn_import_laws.specs.Trees.{IsTurned}
use Rattle.sn_import_laws.specs.Vacant.{IsVacant}

-- The calls after a file's content give it its rights.
abbrev pub FilesGetRights : Type 0
FilesGetRights = (limits : Limits) (old new : World) (object : Object) (rights : Rights) (acts : List Act)
    → IsWorld limits old → IsRoots old → AreRights rights → object.what ≡ File rights
    → AreMade object.what (closing_from Give object) [] acts → Runs limits old acts new → IsTurned old new object.path (as_file rights)

-- The calls of a directory after all entries give it its rights.
abbrev pub DirectoriesGetRights : Type 0
DirectoriesGetRights = (limits : Limits) (old new : World) (object : Object) (rights : Rights) (acts : List Act)
    → IsWorld limits old → IsRoots old → AreRights rights → (object.what ≡ Directory rights) ⊎ (object.what ≡ Top rights)
    → AreMade object.what (closing_from Give object) [] acts → Runs limits old acts new → IsTurned old new object.path (as_directory rights)

-- The last call that makes a directory gives it its owner and its group.
abbrev pub DirectoriesGetOwners : Type 0
DirectoriesGetOwners = (limits : Limits) (old new : World) (object : Object) (rights : Rights) (acts : List Act)
    → IsWorld limits old → IsRoots old → (object.what ≡ Directory rights) ⊎ (object.what ≡ Top rights)
    → AreMade object.what (owned object.path object.what) [] acts → Runs limits old acts new → IsTurned old new object.path (with_owner rights)

-- The writes of a content write it, from the end of the file on that is open.
abbrev pub ContentIsWritten : Type 0
ContentIsWritten = (limits : Limits) (old new : World) (what : What) (fd number : ℕ) (node : Node) (content : List ℕ) (acts : List Act)
    → IsWorld limits old → IsFilling old fd number node → AreMade what (writes_of fd content) [] acts → Runs limits old acts new
    → IsFilled old new fd number (record node { bytes = node.bytes ++ content })

-- The calls that open a new file, write its content, close it and give it its rights make it.
abbrev pub FilesAreMade : Type 0
FilesAreMade = (limits : Limits) (old new : World) (object : Object) (rights : Rights) (content : List ℕ) (first more : List Act)
    → IsWorld limits old → IsRoots old → AreRights rights → object.what ≡ File rights
    → AreMade object.what (opening_from Make object) [] first → AreMade object.what (filling (last_descriptor object.what first) object content) [] more
    → Runs limits old (first ++ more) new → IsMadeFile old new object.path (file_node rights content)

-- The entry of a file makes it, where its directories are there and nothing has its name.
abbrev pub FilesAreImported : Type 0
FilesAreImported = (limits : Limits) (old new : World) (object : Object) (rights : Rights) (size : ℕ) (content : List ℕ) (acts : List Act)
    → IsWorld limits old → IsRoots old → AreRights rights → object.what ≡ File rights → IsVacant old object
    → IsMade object size content acts None → Runs limits old acts new → IsMadeFile old new object.path (file_node rights (take size content))

-- The entry of a directory makes it there. Its rights come after all entries.
abbrev pub DirectoriesAreImported : Type 0
DirectoriesAreImported = (limits : Limits) (old new : World) (object : Object) (rights : Rights) (size : ℕ) (content : List ℕ) (acts : List Act)
    → IsWorld limits old → IsRoots old → object.what ≡ Directory rights → IsVacant old object
    → IsMade object size content acts None → Runs limits old acts new → IsNewDirectory old new object.path rights

-- The entry of a hard link makes one more name there, of the file that the other path leads to.
abbrev pub LinksAreImported : Type 0
LinksAreImported = (limits : Limits) (old new : World) (object : Object) (target : List ℕ) (size : ℕ) (content : List ℕ) (acts : List Act)
    → IsWorld limits old → IsRoots old → object.what ≡ HardLink target → target ≢ object.path → IsVacant old object
    → IsMade object size content acts None → Runs limits old acts new → IsNewLink old new target object.path
