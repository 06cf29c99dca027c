-- The times of objects, and what marks make of them (POSIX.1-2017, 4.9 "File Times Update").
use Rattle.std.specs.Prelude.{◌≡◌, ◌≢◌, ◌⊎◌, ℕ, ◌==◌, ◌/◌, ◌%◌, nat_le, Bool, List, Option, None, Some, if◌then◌else◌}
use Rattle.std.specs.Cmp.Lexicographic.{slice_cmp}
use Rattle.std.specs.FinMap as map
use Rattle.std.specs.Option.{option_and_then, option_eq, unwrap_or}
use Rattle.std.specs.Ordering.{nat_cmp}
use Rattle.sn_fuse.specs.declared.operation.Time.{Time}
use Rattle.sn_times.specs.declared.stamps.Stamps.{Stamps}
use Rattle.sn_times.specs.declared.stamps.Mark.{Mark}
use Rattle.sn_times.specs.declared.stamps.Mark.TheVariants.{Made, Modified, Changed, Dated, Frozen, Thawed, Met}

-- the times of a tree's objects: of those that have times of their own, by their numbers in it, and the time of each other
pub record Tree : Type 0 where
  pub base : Time
  pub own : map.FinMap nat_cmp Stamps

-- the homes of snapshots by their names
abbrev pub Homes : Type 0
Homes = map.FinMap (slice_cmp nat_cmp) ℕ

-- The time of each object of a tree that isn't kept, the trees that are, by their homes, and which of these homes are of which snapshots. Homes from 2^48 on
-- have no numbers: there are the times of snapshots that the mount hasn't met yet.
pub record Dates : Type 0 where
  pub base : Time
  pub trees : map.FinMap nat_cmp Tree
  pub homes : Homes

-- all three times are one
abbrev pub all_at : Time → Stamps
all_at time = record { accessed = time; modified = time; changed = time }

-- no object has a time of its own
abbrev pub bare : Time → Tree
bare base = record { base = base; own = map.empty }

abbrev pub stamps_in : Tree → ℕ → Stamps
stamps_in tree number = unwrap_or (map.get tree.own number) (all_at tree.base)

abbrev pub tree_of : Dates → ℕ → Tree
tree_of dates home = unwrap_or (map.get dates.trees home) (bare dates.base)

-- the times that the object with a number has of its own. The number is 65,536 times its home and its number in that tree
abbrev pub own_at : Dates → ℕ → Option Stamps
own_at dates number = map.get (tree_of dates (number / 65536)).own (number % 65536)

abbrev pub stamps_at : Dates → ℕ → Stamps
stamps_at dates number = stamps_in (tree_of dates (number / 65536)) (number % 65536)

-- the times with some of them set
abbrev pub modified_at : Time → Stamps → Stamps
modified_at now stamps = record { accessed = stamps.accessed; modified = now; changed = now }

abbrev pub changed_at : Time → Stamps → Stamps
changed_at now stamps = record { accessed = stamps.accessed; modified = stamps.modified; changed = now }

abbrev pub dated_at : Time → Option Time → Option Time → Stamps → Stamps
dated_at now accessed modified stamps = record { accessed = unwrap_or accessed stamps.accessed; modified = unwrap_or modified stamps.modified; changed = now }

-- ---- what is kept

-- a home has these times, or none are kept of it
abbrev pub with_tree : Dates → ℕ → Option Tree → Dates
with_tree dates home None = record dates { trees = map.remove dates.trees home }
with_tree dates home (Some tree) = record dates { trees = map.insert dates.trees home tree }

-- a name is of the snapshot that has this home
abbrev pub with_name : Dates → List ℕ → ℕ → Dates
with_name dates name home = record dates { homes = map.insert dates.homes name home }

-- an object has these times of its own
abbrev pub put_in : Tree → ℕ → Stamps → Tree
put_in tree number stamps = record { base = tree.base; own = map.insert tree.own number stamps }

abbrev pub put : Dates → ℕ → Stamps → Dates
put dates number stamps = with_tree dates (number / 65536) (Some (put_in (tree_of dates (number / 65536)) (number % 65536) stamps))

abbrev pub frozen : Dates → ℕ → Dates
frozen dates home = with_tree dates home (map.get dates.trees 0)

-- the live tree, of home 0, is never gone
abbrev pub thawed : Dates → ℕ → Dates
thawed dates home = if home == 0 then dates else with_tree dates home None

abbrev pub thawed_if : Dates → Option ℕ → Dates
thawed_if dates None = dates
thawed_if dates (Some home) = thawed dates home

-- no times are kept of the snapshot that has a name
abbrev pub without : Dates → List ℕ → Dates
without dates name = thawed_if dates (map.get dates.homes name)

-- a snapshot was made, which has a name and a home
abbrev pub frozen_as : Dates → ℕ → List ℕ → Dates
frozen_as dates home name = with_name (frozen (without dates name) home) name home

-- the snapshot that has a name is gone
abbrev pub gone : Dates → List ℕ → Dates
gone dates name = record (without dates name) { homes = map.remove dates.homes name }

-- the times of one home are those of another, of which none are kept then
abbrev pub moved : Dates → ℕ → ℕ → Dates
moved dates home other = with_tree (with_tree dates home None) other (map.get dates.trees home)

abbrev pub is_met : Dates → ℕ → List ℕ → Bool
is_met dates home name = option_eq ◌==◌ (map.get dates.homes name) (Some home)

-- times that wait are those of the home that a snapshot has
abbrev pub taken_if : Dates → Option ℕ → ℕ → Dates
taken_if dates None home = dates
taken_if dates (Some kept) home = if nat_le 281474976710656 kept then moved dates kept home else dates

-- the snapshot of a name has a home
abbrev pub met : Dates → ℕ → List ℕ → Dates
met dates home name = if is_met dates home name then dates else taken_if (with_name dates name home) (map.get dates.homes name) home

-- the times that a snapshot has by its name
abbrev pub named_tree : Dates → List ℕ → Option Tree
named_tree dates name = option_and_then (map.get dates.trees) (map.get dates.homes name)

-- no object has a time of its own, and each has this one; no snapshot was met
abbrev pub all_forgotten : Time → Dates
all_forgotten time = record { base = time; trees = map.empty; homes = map.empty }

-- ---- marks

-- the times of an object once a message marked some: of the one that it names, or of all in a snapshot, which has those of the live objects with the same numbers
abbrev pub froze : ℕ → Dates → ℕ → Stamps
froze home dates number = if number / 65536 == home then stamps_at dates (number % 65536) else stamps_at dates number

abbrev pub marked : Mark → Time → Dates → ℕ → Stamps
marked (Made it) now dates number = if number == it then all_at now else stamps_at dates number
marked (Modified it) now dates number = if number == it then modified_at now (stamps_at dates it) else stamps_at dates number
marked (Changed it) now dates number = if number == it then changed_at now (stamps_at dates it) else stamps_at dates number
marked (Dated it accessed modified) now dates number = if number == it then dated_at now accessed modified (stamps_at dates it) else stamps_at dates number
marked (Frozen home name) now dates number = froze home (without dates name) number
marked (Thawed name) now dates number = stamps_at (without dates name) number
marked (Met home name) now dates number = stamps_at (met dates home name) number

-- the homes of snapshots then
abbrev pub homes_after : Mark → Dates → Homes
homes_after (Frozen home name) dates = map.insert dates.homes name home
homes_after (Thawed name) dates = map.remove dates.homes name
homes_after (Met home name) dates = if is_met dates home name then dates.homes else map.insert dates.homes name home
homes_after other dates = dates.homes

-- each object has the times that the mark gives it
pub record IsExact (mark : Mark) (now : Time) (old new : Dates) : Type 0 where
  pub stamps : (number : ℕ) → stamps_at new number ≡ marked mark now old number
  pub base : new.base ≡ old.base
  pub homes : new.homes ≡ homes_after mark old

-- which marks need memory: those of an object without times of its own, and of a snapshot that was made, or that wasn't met before
abbrev pub TakesMemory : Mark → Dates → Type 0
TakesMemory (Made it) dates = own_at dates it ≡ None
TakesMemory (Modified it) dates = own_at dates it ≡ None
TakesMemory (Changed it) dates = own_at dates it ≡ None
TakesMemory (Dated it accessed modified) dates = own_at dates it ≡ None
TakesMemory (Frozen home name) dates = Unit {0}
TakesMemory (Thawed name) dates = ⊥
TakesMemory (Met home name) dates = map.get dates.homes name ≢ Some home

-- A mark is made, or it needed memory that was refused: then every object has the time at which it was.
abbrev pub IsMarked : Mark → Time → Dates → Dates → Type 0
IsMarked mark now old new = IsExact mark now old new ⊎ (TakesMemory mark old × (new ≡ all_forgotten now))

-- nothing is kept of a snapshot that is gone
abbrev pub KeepsNone : Mark → Dates → Dates → Type 0
KeepsNone (Thawed name) old new = (home : ℕ) → map.get old.homes name ≡ Some home → home ≢ 0 → map.get new.trees home ≡ None
KeepsNone mark old new = Unit {0}
