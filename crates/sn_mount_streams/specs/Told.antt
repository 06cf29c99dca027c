-- What the system tells of processes.
use Rattle.std.specs.Prelude.{ℕ, List, Option}

-- any text: no contract can say what a file of /proc holds
abbrev pub tells_anything : Unit {0} → ℕ → Option (List ℕ) → Unit {0} → Type 0
tells_anything before process text after = Unit {0}
