-- What is open by seat, and how many more files there is room for.
use Rattle.std.specs.Prelude.{ℕ, ◌-◌, List, Option}
use Rattle.slab.specs.Slab.{slab_len}
use Rattle.sn_desc.specs.Seats.{files_under}
use Rattle.sn_desc.specs.declared.open_file.OpenFile.{OpenFile}
use Rattle.sn_desc.specs.declared.seats.Seats.{Seats}

abbrev pub files_at : Seats → List (Option OpenFile)
files_at p = files_under p.files p.keys.items

-- how many more files fit
abbrev pub room_at : Seats → ℕ
room_at p = p.files.capacity - slab_len p.files

abbrev pub with_offset : ℕ → OpenFile → OpenFile
with_offset offset file = record file { offset = offset }
