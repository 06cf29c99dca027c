use Rattle.std.proofs.Common.{◌≡◌, ◌≤◌, ◌<◌, ℕ, true}
use Rattle.sn_number_table.specs.Marked.{mark_at}
use Rattle.sn_number_table.specs.Marks.{has_node}
use Rattle.sn_number_table.proofs.search.first_without_node.Given as goal

-- every number so far has a node
abbrev pub invariant-loop-number : goal.invariant-loop-number
invariant-loop-number l = (k : ℕ) → l.from ≤ k → k < l.number → has_node (mark_at l.marks k) ≡ true
