use Rattle.std.proofs.Common.{◌≤◌, ◌<◌, ℕ, List, Option, get_or, IfSome}
use Rattle.sn_names.specs.Search.{IsAtMost}
use Rattle.sn_names.proofs.search.next_among.Given as goal

-- of the numbers so far it's the next
pub record IsNextSoFar (numbers : List ℕ) (from i : ℕ) (next : Option ℕ) : Type 0 where
  pub after : IfSome next (λ n. from ≤ n)
  pub least : (k : ℕ) → k < i → from ≤ get_or numbers k 0 → IsAtMost next (get_or numbers k 0)

abbrev pub invariant-loop-number : goal.invariant-loop-number
invariant-loop-number l = IsNextSoFar l.numbers l.from l.number-index l.next
