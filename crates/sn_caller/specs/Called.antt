-- What becomes of a caller, and what has to be so before.
use Rattle.std.specs.Prelude.{◌≡◌, ℕ, ◌<◌, ◌≤◌, true, false, List, Ok, Contains}
use Rattle.sn_model.specs.Descriptors.{Descriptors, next_descriptor}
use Rattle.sn_model.specs.declared.outcome.Caller.{Caller}
use Rattle.sn_model.specs.declared.outcome.Caller.TheVariants.{Opens}
use Rattle.sn_model.specs.Outcomes.{is_opening}
use Rattle.sn_model.specs.Settling.{is_abandoned, is_held}
use Rattle.sn_model.specs.World.{World}

-- this many more files can be opened: some, where one is to be
abbrev pub HasRoom : Caller → ℕ → Type 0
HasRoom caller room = is_opening caller ≡ true → 0 < room

-- the same of a file that is opened with its number: a new one gets that first
abbrev pub HasRoomNow : Caller → ℕ → Type 0
HasRoomNow (Opens fd home number flags) room = 0 < room
HasRoomNow outcome room = Unit {0}

-- what is opened gets the session's next descriptor, and there is room for it
pub record IsNext (table : Descriptors) (room session fd : ℕ) : Type 0 where
  pub session_within : session < 64
  pub room_left : 0 < room
  pub next : next_descriptor table session ≡ Ok fd

abbrev pub CanTurn : Descriptors → ℕ → ℕ → Caller → Type 0
CanTurn table room session (Opens fd home number flags) = IsNext table room session fd
CanTurn table room session outcome = Unit {0}

-- the live files that had a descriptor and have none any more are among these
abbrev pub TellsReleased : World → World → List ℕ → Type 0
TellsReleased old new numbers = (number : ℕ) → is_held old number ≡ true → is_held new number ≡ false → Contains numbers number

-- what may be dropped has a number of a node
abbrev pub AreNumbers : World → Type 0
AreNumbers world = (number : ℕ) → is_abandoned world number ≡ true → 2 ≤ number

-- each of these had a descriptor
abbrev pub WereHeld : World → List ℕ → Type 0
WereHeld old numbers = (number : ℕ) → Contains numbers number → is_held old number ≡ true
