-- Which number a new node gets, where some are kept back.
use Rattle.std.specs.Prelude.{◌≡◌, ℕ, ◌-◌, ◌<◌, ◌≤◌, Bool, true, not, ◌&&◌, ◌||◌, Option, None, Some, is_some, min, max, if◌then◌else◌}
use Rattle.std.specs.Option.{option_or}
use Rattle.std.specs.FinMap as map
use Rattle.sn_limits.specs.declared.limits.Limits.{Limits}
use Rattle.sn_model.specs.declared.change.Change.{Change}
use Rattle.sn_model.specs.declared.change.Change.TheVariants.{Make}
use Rattle.sn_model.specs.Tree.{Tree, first_without, least_unused}

-- a number that no new node gets yet: it has a node, or it is kept back
abbrev pub is_taken : Tree → (ℕ → Bool) → ℕ → Bool
is_taken tree kept number = is_some (map.get tree.nodes number) || kept number

-- the number of a new node: the least that isn't taken, and where all that are unused are kept back, the least of those
abbrev pub next_number : Limits → Tree → (ℕ → Bool) → Option ℕ
next_number limits tree kept = option_or (first_without (is_taken tree kept) 2 (limits.largest_number - 1)) (least_unused limits tree)

-- What stays kept back by a change. A number that is kept back is given out where no other is left, and then none is kept back any more.
abbrev pub kept_after : Change → (ℕ → Bool) → ℕ → Bool
kept_after (Make directory name number kind o) kept n = kept n && not (kept number)
kept_after change kept n = kept n

-- The same of those that are kept back since the consistency point in progress began.
abbrev pub since_after : Change → (ℕ → Bool) → (ℕ → Bool) → ℕ → Bool
since_after (Make directory name number kind o) kept since n = since n && not (kept number)
since_after change kept since n = since n

-- each number below the next one is taken
pub record AreTaken (tree : Tree) (kept : ℕ → Bool) (next : ℕ) : Type 0 where
  pub low : 2 ≤ next
  pub high : next ≤ 65536
  pub taken : (number : ℕ) → 2 ≤ number → number < next → is_taken tree kept number ≡ true

-- the same once a number has lost its node, or may have
abbrev pub next_after : Tree → ℕ → Option ℕ → ℕ
next_after tree next None = next
next_after tree next (Some number) = if is_some (map.get tree.nodes number) then next else max (min next number) 2
