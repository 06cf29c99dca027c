-- What an import of an exported tree makes.
use Rattle.std.specs.Prelude.{◌≡◌, ℕ, List, [], ◌∷◌, length, Option, None, Some}
use Rattle.sn_limits.specs.Versions.{limits_written}
use Rattle.sn_limits.specs.declared.kind.Kind.TheVariants.{Directory}
use Rattle.sn_limits.specs.declared.limits.Limits.{Limits}
use Rattle.sn_model.specs.NameTree.{HasKind, IsTree}
use Rattle.sn_model.specs.Tree.{Tree}
use Rattle.sn_model.specs.World.{World}
use Rattle.sn_model.specs.Worlds.{IsWorld}
use Rattle.sn_export.specs.Archives.{IsArchive}
use Rattle.sn_import.specs.declared.object.Object.{Object}
use Rattle.sn_import.specs.declared.object.Rights.{Rights}
use Rattle.sn_import.specs.declared.object.What.TheVariants.{Top}
use Rattle.sn_import_entry.specs.declared.names.Names.{Names}
use Rattle.sn_import_calls.specs.Acts.{Act}
use Rattle.sn_import_files.specs.Entries.{IsMade}
use Rattle.sn_import_run.specs.Imports.{IsImport}
use Rattle.sn_import_files.specs.Streams.{IsReadTo, Part}
use Rattle.sn_import_calls.specs.declared.stop.Stop.{Stop}
use Rattle.sn_archive_laws.specs.Trees.{FitsBelow}
use Rattle.sn_import_laws.specs.Rights.{with_owner}
use Rattle.sn_import_laws.specs.Runs.{IsRoots, Runs}
use Rattle.sn_import_laws.specs.Trees.{IsTurned}
use Rattle.sn_import_tree_laws.specs.Copies.{IsCopy}
use Rattle.sn_import_tree_laws.specs.Reports.{AreCalled}
use Rattle.sn_import_tree_laws.specs.Targets.{IsImported, IsTarget}

-- The entry of the directory itself that an archive goes into gives it its owner and its group. Its rights come after all entries.
abbrev pub TopsAreImported : Type 0
TopsAreImported = (limits : Limits) (old new : World) (object : Object) (rights : Rights) (size : ℕ) (content : List ℕ) (acts : List Act)
    → IsWorld limits old → IsRoots old → object.what ≡ Top rights → object.lead ≡ length object.path
    → IsMade object size content acts None → Runs limits old acts new → IsTurned old new object.path (with_owner rights)

-- An import of the archive of a directory into an empty one, which reports nothing, makes what was exported.
abbrev pub TreesAreImported : Type 0
TreesAreImported = (limits : Limits) (accounts : Names) (into : List ℕ) (tree : Tree) (top : ℕ) (bytes : List ℕ) (parts : List Part) (stop : Option Stop) (acts : List Act) (old new : World) (place : ℕ)
    → IsTree limits_written tree → HasKind tree top Directory → FitsBelow into tree top
    → IsArchive tree top (46 ∷ []) bytes → IsReadTo (Some bytes) parts stop → IsImport accounts into parts stop acts → AreCalled acts
    → IsWorld limits old → IsRoots old → IsTarget tree top old into place → Runs limits old acts new → IsImported tree top old new into place

-- A copy has the same archive.
abbrev pub CopiesHaveTheArchive : Type 0
CopiesHaveTheArchive = (one : Tree) (top : ℕ) (other : Tree) (place : ℕ) (path bytes : List ℕ)
    → IsCopy one top other place → IsArchive one top path bytes → IsArchive other place path bytes

-- The archive of what such an import made is the one that it read.
abbrev pub ImportsAreExported : Type 0
ImportsAreExported = (limits : Limits) (accounts : Names) (into : List ℕ) (tree : Tree) (top : ℕ) (bytes : List ℕ) (parts : List Part) (stop : Option Stop) (acts : List Act) (old new : World) (place : ℕ)
    → IsTree limits_written tree → HasKind tree top Directory → FitsBelow into tree top
    → IsArchive tree top (46 ∷ []) bytes → IsReadTo (Some bytes) parts stop → IsImport accounts into parts stop acts → AreCalled acts
    → IsWorld limits old → IsRoots old → IsTarget tree top old into place → Runs limits old acts new → IsArchive new.live place (46 ∷ []) bytes
