use Rattle.std.proofs.Common.{◌≡◌, ◌++◌, drop, map, take}
use Rattle.sn_number_table.specs.Marks.{forgotten}
use Rattle.sn_number_table.proofs.mark.forget.Given as goal

-- those so far are changed
abbrev pub invariant-loop-mark : goal.invariant-loop-mark
invariant-loop-mark l = l.marks ≡ map forgotten (take l.mark-index l.fn.marks) ++ drop l.mark-index l.fn.marks
