-- What is open by seat, and which live file a seat that is closed was the last to have.
use Rattle.std.specs.Prelude.{◌≡◌, ℕ, ◌==◌, List, Option, None, Some, if◌then◌else◌}
use Rattle.sn_walk.specs.declared.object.Home.{Home}
use Rattle.sn_walk.specs.declared.object.Home.TheVariants.{Live, Frozen}
use Rattle.sn_desc.specs.Files.{files_at, room_at}
use Rattle.sn_desc.specs.Holders.{holders_of}
use Rattle.sn_desc.specs.declared.open_file.OpenFile.{OpenFile}
use Rattle.sn_desc.specs.declared.open_files.OpenFiles.{OpenFiles}

abbrev pub files_of : OpenFiles → List (Option OpenFile)
files_of o = files_at o.seats

abbrev pub room_of : OpenFiles → ℕ
room_of o = room_at o.seats

abbrev pub released_from : List (Option OpenFile) → Home → ℕ → Option ℕ
released_from left Live number = if holders_of number left == 0 then Some number else None
released_from left (Frozen name) number = None

-- the files that are left, and the one that was closed
abbrev pub released_file : List (Option OpenFile) → Option OpenFile → Option ℕ
released_file left None = None
released_file left (Some file) = released_from left file.home file.number

-- what is open at a seat, if anything is, is a file of this tree
abbrev pub IsOpenIn : Home → Option OpenFile → Type 0
IsOpenIn home None = ⊥
IsOpenIn home (Some file) = file.home ≡ home
