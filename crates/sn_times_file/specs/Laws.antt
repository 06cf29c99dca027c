-- What lasts from one mount to the next.
use Rattle.std.specs.Prelude.{◌≡◌, ◌≢◌, ◌<◌, ℕ, ◌/◌, ◌%◌, List, length, Some}
use Rattle.std.specs.FinMap as fin
use Rattle.sn_fuse.specs.declared.operation.Time.{Time}
use Rattle.sn_times.specs.Dates.{Dates, met, stamps_at}
use Rattle.sn_times_file.specs.Keeping.{begun, left_by}

-- the times with which a mount begins that takes what another left
abbrev pub taken : List ℕ → Dates → Time → Dates
taken root old now = begun (left_by root old).sections now

-- live objects have the times that they had
abbrev pub LiveTimesLast : Type 0
LiveTimesLast = (root : List ℕ) (old : Dates) (now : Time) (number : ℕ) → number < 65536 → stamps_at (taken root old now) number ≡ stamps_at old number

-- and so have those of a snapshot, once it is met by its name, whichever home it has then
abbrev pub SnapshotTimesLast : Type 0
SnapshotTimesLast = (root : List ℕ) (old : Dates) (now : Time) (name : List ℕ) (home new_home : ℕ) → length name ≢ 0 → fin.get old.homes name ≡ Some home → new_home < 281474976710656
    → (number new_number : ℕ) → number / 65536 ≡ home → new_number / 65536 ≡ new_home → new_number % 65536 ≡ number % 65536
    → stamps_at (met (taken root old now) new_home name) new_number ≡ stamps_at old number
