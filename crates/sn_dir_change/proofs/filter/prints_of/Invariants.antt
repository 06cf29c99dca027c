use Rattle.std.proofs.Common.{◌≡◌, map, take}
use Rattle.sn_dir_change.specs.Filter.{print_for}
use Rattle.sn_dir_change.proofs.filter.prints_of.Given as goal

abbrev pub invariant-loop-marked : goal.invariant-loop-marked
invariant-loop-marked l = l.prints.items ≡ map print_for (take l.marked-index l.changes)
