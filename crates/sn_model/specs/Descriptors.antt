-- What calls do to descriptors, and the tests of them: POSIX.1-2017, open(), close(), lseek() and 2.14, File Descriptor Allocation. That a session has 64 descriptors at the most is a rule of this project.
use Rattle.std.specs.Prelude.{ℕ, ◌==◌, Bool, not, nat_le, Option, None, Some, Result, Ok, Err, is_some, if◌then◌else◌, ok_or}
use Rattle.std.specs.Option.{option_map_or}
use Rattle.std.specs.List.{list_any}
use Rattle.std.specs.FinMap as map
use Rattle.sn_limits.specs.declared.limits.Limits.{Limits}
use Rattle.sn_walk.specs.declared.object.Home.{Home}
use Rattle.sn_walk.specs.declared.object.Home.TheVariants.{Live, Frozen}
use Rattle.sn_walk.specs.Chains.{◌>>=◌}
use Rattle.sn_model.specs.declared.argument.OpenFlags.{OpenFlags}
use Rattle.sn_model.specs.declared.reply.Errno.TheVariants.{Einval, Emfile, Ebadf}
use Rattle.sn_model.specs.declared.reply.Refusal.{Refusal}
use Rattle.sn_model.specs.Settling.{is_of_live}
use Rattle.sn_model.specs.Tests.{plain}
use Rattle.sn_model.specs.Tree.{first_without}
use Rattle.sn_model.specs.World.{Descriptor, descriptor_cmp}

-- what is open, by session and number of the descriptor
abbrev pub Descriptors : Type 0
Descriptors = map.FinMap descriptor_cmp Descriptor

-- a descriptor of a file: its rights are those that it is opened for
abbrev pub descriptor_for : OpenFlags → Home → ℕ → Descriptor
descriptor_for flags home number = record { home = home; number = number; readable = flags.read; writable = flags.write; appends = flags.append; offset = 0 }

-- the descriptor that a session gets next: the least of 64 that it doesn't have
abbrev pub next_descriptor : Descriptors → ℕ → Result ℕ Refusal
next_descriptor table session = ok_or (first_without (λ fd. is_some (map.get table (session, fd))) 0 64) (plain Emfile)

-- a descriptor that a session has
abbrev pub descriptor_at : Descriptors → ℕ → ℕ → Result Descriptor Refusal
descriptor_at table session fd = ok_or (map.get table (session, fd)) (plain Ebadf)

-- rights are those of open(), and are asked of the descriptor alone
abbrev pub readable_at : Descriptors → ℕ → ℕ → Result Descriptor Refusal
readable_at table session fd = descriptor_at table session fd >>= (λ d. if d.readable then Ok d else Err (plain Ebadf))

abbrev pub writable_at : Descriptors → ℕ → ℕ → Result Descriptor Refusal
writable_at table session fd = descriptor_at table session fd >>= (λ d. if d.writable then Ok d else Err (plain Ebadf))

-- an offset that a file can have: EINVAL over the largest size
abbrev pub is_offset : Limits → ℕ → Result ℕ Refusal
is_offset limits offset = if nat_le offset limits.largest_file then Ok offset else Err (plain Einval)

abbrev pub opened : Descriptors → ℕ → ℕ → Descriptor → Descriptors
opened table session fd d = map.insert table (session, fd) d

abbrev pub closed : Descriptors → ℕ → ℕ → Descriptors
closed table session fd = map.remove table (session, fd)

-- a descriptor that is there gets another offset
abbrev pub moved_if : Descriptors → ℕ → ℕ → ℕ → Option Descriptor → Descriptors
moved_if table session fd offset entry = option_map_or (λ d. opened table session fd (record d { offset = offset })) entry table

abbrev pub moved_to : Descriptors → ℕ → ℕ → ℕ → Descriptors
moved_to table session fd offset = moved_if table session fd offset (map.get table (session, fd))

-- what is open without a session
abbrev pub without_session : Descriptors → ℕ → Descriptors
without_session table session = map.retain_keys table (λ k. not (k.0 == session))

-- whether a descriptor has the live file with a number
abbrev pub is_held_in : Descriptors → ℕ → Bool
is_held_in table number = list_any (λ e. is_of_live number e.1.home e.1.number) (map.entries table)

-- the live file that a closed descriptor had, where none of those that are left has it
abbrev pub released_at : Descriptors → Home → ℕ → Option ℕ
released_at left Live number = if is_held_in left number then None else Some number
released_at left (Frozen name) number = None

abbrev pub released : Descriptors → Descriptor → Option ℕ
released left d = released_at left d.home d.number

-- seek: EBADF; EINVAL over the largest size
abbrev pub sought : Limits → Descriptors → ℕ → ℕ → ℕ → Result Descriptors Refusal
sought limits table session fd offset = descriptor_at table session fd >>= (λ _. is_offset limits offset >>= (λ _. Ok (moved_to table session fd offset)))
