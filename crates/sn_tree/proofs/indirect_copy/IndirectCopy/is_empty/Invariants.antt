use Rattle.std.proofs.Common.{◌≡◌, ◌<◌, ℕ, get_or}
use Rattle.sn_tree.proofs.indirect_copy.IndirectCopy.is_empty.Given as goal

abbrev pub invariant-loop-i : goal.invariant-loop-i
invariant-loop-i l = record {
  holes : (k : ℕ) → k < l.i → get_or l.pointers k 0 ≡ 0;
}
