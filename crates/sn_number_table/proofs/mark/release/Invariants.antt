use Rattle.std.proofs.Common.{◌≡◌, ◌++◌, drop, map, take}
use Rattle.sn_number_table.specs.Marks.{released}
use Rattle.sn_number_table.proofs.mark.release.Given as goal

-- those so far are changed
abbrev pub invariant-loop-mark : goal.invariant-loop-mark
invariant-loop-mark l = l.marks ≡ map released (take l.mark-index l.fn.marks) ++ drop l.mark-index l.fn.marks
