-- Searching numbers.
use Rattle.std.specs.Prelude.{◌≤◌, ℕ, List, Contains, Option, None, Some, IfSome}

-- the answer is there, and no later than this
abbrev pub IsAtMost : Option ℕ → ℕ → Type 0
IsAtMost None most = ⊥
IsAtMost (Some n) most = n ≤ most

-- The least of these numbers from one on.
pub record IsNext (from : ℕ) (numbers : List ℕ) (result : Option ℕ) : Type 0 where
  pub after : IfSome result (λ n. from ≤ n)
  pub least : (n : ℕ) → Contains numbers n → from ≤ n → IsAtMost result n

-- nothing is lost
abbrev pub HasAll : List ℕ → List ℕ → Type 0
HasAll old new = (n : ℕ) → Contains old n → Contains new n
