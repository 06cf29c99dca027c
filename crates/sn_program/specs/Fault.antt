-- What a fault says to the shell, and the fault that a run ends with.
use Rattle.std.specs.Prelude.{ℕ, ◌≡◌, ◌⊎◌, Option, None, Some, Result, Ok, Err}
use Rattle.sn_model.specs.declared.end.End.{End}
use Rattle.sn_model.specs.declared.end.End.TheVariants as end
use Rattle.sn_export_image.specs.declared.fault.ImageFault.{ImageFault}
use Rattle.sn_export_image.specs.declared.fault.ImageFault.TheVariants as image
use Rattle.sn_export_reading.specs.declared.fault.ExportFault.TheVariants as export
use Rattle.sn_import_image.specs.declared.fault.ImportFault.{ImportFault}
use Rattle.sn_import_image.specs.declared.fault.ImportFault.TheVariants as import
use Rattle.sn_script.specs.declared.fault.ScriptFault.TheVariants as reading
use Rattle.sn_command.specs.declared.fault.WordsFault.{WordsFault}
use Rattle.sn_command.specs.declared.fault.WordsFault.TheVariants as words
use Rattle.sn_serve_image.specs.declared.fault.ServeFault.{ServeFault}
use Rattle.sn_serve_image.specs.declared.fault.ServeFault.TheVariants as serve
use Rattle.sn_program.specs.declared.fault.ProgramFault.{ProgramFault}
use Rattle.sn_program.specs.declared.fault.ProgramFault.TheVariants as fault
use Rattle.sn_program.specs.declared.fault.Which.{Which}
use Rattle.sn_program.specs.declared.fault.Which.TheVariants as files

abbrev pub status_of : ProgramFault → ℕ
status_of fault.Usage = 2
status_of _ = 1

-- only a clean end is no fault
abbrev pub fault_of : End → Result (Unit {0}) ProgramFault
fault_of end.Clean = Ok tt
fault_of end.Stopped = Err fault.Stopped
fault_of end.Memory = Err fault.Memory
fault_of (end.Mount m) = Err (fault.Mount m)

-- the fault of a run goes before that of writing its replies
abbrev pub outcome_of : End → Result (Unit {0}) ProgramFault → Result (Unit {0}) ProgramFault
outcome_of end.Clean written = written
outcome_of end.Stopped written = Err fault.Stopped
outcome_of end.Memory written = Err fault.Memory
outcome_of (end.Mount m) written = Err (fault.Mount m)

-- the fault of an outcome
abbrev pub fault_in : Result (Unit {0}) ProgramFault → Option ProgramFault
fault_in (Ok x) = None
fault_in (Err why) = Some why

-- a file or an output failed, or memory did on the way
abbrev pub IsOfFile : ProgramFault → Type 0
IsOfFile (fault.File which error) = Unit {0}
IsOfFile fault.Memory = Unit {0}
IsOfFile cause = ⊥

-- a script's file failed, or memory did, also in the reading of its lines
abbrev pub IsUnread : ProgramFault → Type 0
IsUnread given = IsOfFile given ⊎ (given ≡ fault.Script reading.Memory)

-- a line of a script is bad, or there are too many bytes
abbrev pub IsOfScript : ProgramFault → Type 0
IsOfScript given = (n : ℕ) × (given ≡ fault.Script (reading.Line n))

-- why a tree isn't written: there was no mount, nothing lies at the path, the output failed, memory was refused, or the mount stopped, as an answer that contradicts others also says
abbrev pub IsOfExport : ImageFault → ProgramFault → Type 0
IsOfExport (image.Mount m) given = given ≡ fault.Mount m
IsOfExport (image.Export export.Path) given = given ≡ fault.Path
IsOfExport (image.Export export.Memory) given = given ≡ fault.Memory
IsOfExport (image.Export export.Stopped) given = given ≡ fault.Stopped
IsOfExport (image.Export export.Contradiction) given = given ≡ fault.Stopped
IsOfExport (image.Export (export.Output error)) given = IsOfFile given

-- why an archive isn't imported
abbrev pub fault_of_import : ImportFault → ProgramFault
fault_of_import (import.Mount m) = fault.Mount m
fault_of_import import.Path = fault.Path
fault_of_import import.Memory = fault.Memory
fault_of_import import.Stopped = fault.Stopped

-- this stream failed
abbrev pub IsOfStream : Which → ProgramFault → Type 0
IsOfStream wanted (fault.File other error) = other ≡ wanted
IsOfStream wanted cause = ⊥

-- why no more messages of a mount were answered: there was no mount, memory was refused, the mount stopped, what came is no message or couldn't be read, or a reply wasn't taken
abbrev pub IsOfServe : ServeFault → ProgramFault → Type 0
IsOfServe (serve.Mount m) given = given ≡ fault.Mount m
IsOfServe serve.Memory given = given ≡ fault.Memory
IsOfServe serve.Stopped given = given ≡ fault.Stopped
IsOfServe serve.Message given = IsOfStream files.Input given
IsOfServe serve.Input given = IsOfStream files.Input given
IsOfServe serve.Output given = IsOfStream files.Output given

-- the words are no command, or there was no memory to read them
abbrev pub fault_of_words : WordsFault → ProgramFault
fault_of_words words.Usage = fault.Usage
fault_of_words words.Memory = fault.Memory
