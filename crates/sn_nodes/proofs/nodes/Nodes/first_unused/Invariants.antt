use Rattle.std.proofs.Common.{◌≡◌, ◌≤◌, ◌<◌, ℕ, true, is_some}
use Rattle.std.specs.FinMap as map
use Rattle.sn_nodes.specs.Stored.{stored_of}
use Rattle.sn_nodes.proofs.nodes.Nodes.first_unused.Given as goal

-- every number so far has a node
abbrev pub invariant-loop-number : goal.invariant-loop-number
invariant-loop-number l = (k : ℕ) → l.from ≤ k → k < l.number → is_some (map.get (stored_of l.self) k) ≡ true
