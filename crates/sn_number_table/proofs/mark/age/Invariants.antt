use Rattle.std.proofs.Common.{◌≡◌, ◌++◌, drop, map, take}
use Rattle.sn_number_table.specs.Marks.{aged}
use Rattle.sn_number_table.proofs.mark.age.Given as goal

-- those so far are changed
abbrev pub invariant-loop-mark : goal.invariant-loop-mark
invariant-loop-mark l = l.marks ≡ map aged (take l.mark-index l.fn.marks) ++ drop l.mark-index l.fn.marks
