-- Numbers of which most are in order.
use Rattle.std.specs.Prelude.{ℕ, List, ◌++◌}
use Rattle.sn_names.specs.declared.ordered.OrderedNumbers.{OrderedNumbers}

-- all of them
abbrev pub numbers_of : OrderedNumbers → List ℕ
numbers_of it = it.settled.items ++ it.recent.items
