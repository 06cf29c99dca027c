use Rattle.std.proofs.Common.{◌≡◌, ◌≤◌, ◌<◌, ℕ, true}
use Rattle.sn_number_table.specs.Marked.{mark_at}
use Rattle.sn_number_table.specs.Marks.{is_used}
use Rattle.sn_number_table.proofs.search.first_free.Given as goal

-- every number so far is used
abbrev pub invariant-loop-number : goal.invariant-loop-number
invariant-loop-number l = (k : ℕ) → l.from ≤ k → k < l.number → is_used (mark_at l.marks k) ≡ true
