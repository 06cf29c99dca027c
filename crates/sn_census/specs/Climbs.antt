-- Going up from parent to parent.
use Rattle.std.specs.Prelude.{◌≡◌, ◌≢◌, ℕ, ◌<◌, List}
use Rattle.sn_census.specs.Rows.{row_at}
use Rattle.sn_census.specs.declared.table.Row.{Row}

-- the parents in the rows
abbrev pub parents_of : List Row → ℕ → ℕ
parents_of rows number = (row_at rows number).parent

-- From a number one comes up to the root.
pub data LeadsUp (parents : ℕ → ℕ) : ℕ → Type 0 where
  root : LeadsUp parents 2
  below : (number : ℕ) → LeadsUp parents (parents number) → LeadsUp parents number

-- no way was gone
abbrev pub AreUnclimbed : List Row → Type 0
AreUnclimbed rows = (number : ℕ) → (row_at rows number).climb ≡ 0

-- Ways up were gone from directories below one alone, and all of them led to the root.
pub record AreClimbed (parents : ℕ → ℕ) (end : ℕ) (rows : List Row) : Type 0 where
  pub parents_are : (number : ℕ) → (row_at rows number).parent ≡ parents number
  pub before : (number : ℕ) → (row_at rows number).climb < end
  pub up : (number : ℕ) → (row_at rows number).climb ≢ 0 → LeadsUp parents number
  pub top : (row_at rows 2).climb ≢ 0

-- A row is as it was, but for the way that came through.
pub record KeepsRow (old new : Row) : Type 0 where
  pub kind : new.kind ≡ old.kind
  pub names : new.names ≡ old.names
  pub parent : new.parent ≡ old.parent

abbrev pub KeepsRows : List Row → List Row → Type 0
KeepsRows old new = (number : ℕ) → KeepsRow (row_at old number) (row_at new number)
