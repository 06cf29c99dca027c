use Rattle.std.proofs.Common.{take}
use Rattle.sn_dir_change.specs.UnderWay.{AreApart}
use Rattle.sn_dir_change.proofs.name_change.are_apart.Given as goal

abbrev pub invariant-loop-i : goal.invariant-loop-i
invariant-loop-i l = AreApart (take l.i l.changes)
