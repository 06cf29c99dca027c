use Rattle.std.proofs.Common.{◌≡◌, ◌≤◌, ◌<◌, ℕ, true}
use Rattle.sn_numbers.specs.Back.{held_of}
use Rattle.sn_number_table.specs.Numbers.{is_taken}
use Rattle.sn_plain.specs.Plain.{tree_of}
use Rattle.sn_numbers.proofs.numbered.first_free.Given as goal

-- every number so far is taken
abbrev pub invariant-loop-number : goal.invariant-loop-number
invariant-loop-number l = (k : ℕ) → l.from ≤ k → k < l.number → is_taken (tree_of l.tree) (held_of l.kept_back) k ≡ true
