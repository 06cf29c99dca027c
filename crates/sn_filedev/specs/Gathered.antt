-- What becomes of a write.
use Rattle.std.specs.Prelude.{◌≡◌, ◌⊎◌, ℕ, ◌+◌, ◌/◌, List, ◌++◌, length}
use Rattle.sn_filedev.specs.declared.gathered.Gathered.{Gathered}

-- The sector `at` is the last of those that wait. Its bytes wait after those that waited before, or alone.
pub record Gathers (at : ℕ) (bytes : List ℕ) (old new : Gathered) : Type 0 where
  pub last : new.first + length new.bytes.items / 512 ≡ at + 1
  pub behind : (new.bytes.items ≡ old.bytes.items ++ bytes) ⊎ (new.bytes.items ≡ bytes)
