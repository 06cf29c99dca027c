use Rattle.std.proofs.Common.{◌≡◌, ℕ, ◌<◌, ◌++◌, get_or}
use Rattle.sn_tree.proofs.parts.joined.Given as goal

abbrev pub invariant-loop-i : goal.invariant-loop-i
invariant-loop-i l = (k : ℕ) → k < l.i → get_or l.pointer-items k 0 ≡ get_or (l.front ++ l.behind) k 0
