-- Who is logged in, and what is open.
use Rattle.std.specs.Prelude.{◌≡◌, ℕ, ◌+◌, ◌*◌, ◌/◌, ◌%◌, ◌&&◌, nat_lt, List, [], ◌∷◌, count_by, Option, None, Some, IsSomeAnd, replicate, if◌then◌else◌}
use Rattle.std.specs.FinMap as map
use Rattle.sn_model.specs.declared.session.Session.{Session}
use Rattle.sn_model.specs.Descriptors.{Descriptors}
use Rattle.sn_model.specs.World.{Descriptor, World}
use Rattle.sn_walk.specs.declared.object.Home.{Home}
use Rattle.sn_desc.specs.declared.open_file.OpenFile.{OpenFile}
use Rattle.sn_desc.specs.Holders.{is_live}

abbrev pub descriptor_of : OpenFile → Descriptor
descriptor_of f = record { home = f.home; number = f.number; readable = f.readable; writable = f.writable; appends = f.appends; offset = f.offset }

-- the descriptors whose files are at seats from one on: each session has 64 seats
unfoldable pub seated_from : ℕ → List (Option OpenFile) → Descriptors
seated_from seat [] = map.empty
seated_from seat (None ∷ rest) = seated_from (seat + 1) rest
seated_from seat (Some file ∷ rest) = map.insert (seated_from (seat + 1) rest) (seat / 64, seat % 64) (descriptor_of file)

abbrev pub descriptors_in : List (Option OpenFile) → Descriptors
descriptors_in files = seated_from 0 files

-- the seat of a descriptor, where a session can have one with that number
abbrev pub seat_of : ℕ → ℕ → Option ℕ
seat_of session fd = if nat_lt session 64 && nat_lt fd 64 then Some (session * 64 + fd) else None

-- how many descriptors have live files
abbrev pub live_in : Descriptors → ℕ
live_in table = count_by (λ e. is_live e.1.home) (map.entries table)

pub record InUse : Type 0 where
  -- None where nobody is logged in
  pub sessions : List (Option Session)
  pub descriptors : Descriptors
  -- so many more files can be opened without memory
  pub room : ℕ

abbrev pub nothing_in_use : ℕ → InUse
nothing_in_use room = record { sessions = replicate 64 None; descriptors = map.empty; room = room }

-- a world with these sessions and descriptors
abbrev pub in_world : InUse → World → World
in_world u world = record world { sessions = u.sessions; descriptors = u.descriptors }

-- a descriptor has a file of this tree
abbrev pub HasOpen : Descriptors → Home → Type 0
HasOpen table home = (session : ℕ) × (fd : ℕ) × IsSomeAnd (map.get table (session, fd)) (λ d. d.home ≡ home)
