use Rattle.std.proofs.Common.{◌≡◌, ℕ, ◌<◌, get_or, length}
use Rattle.sn_tree.proofs.indirect_copy.IndirectCopy.list.Given as goal

abbrev pub invariant-loop-i : goal.invariant-loop-i
invariant-loop-i l = record {
  count : length l.numbers ≡ 1024;
  read : (k : ℕ) → k < l.i → get_or l.numbers k 0 ≡ get_or l.pointers k 0;
}
