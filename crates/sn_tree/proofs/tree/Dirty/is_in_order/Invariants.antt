use Rattle.std.proofs.Common.{◌↔◌, drop}
use Rattle.sn_tree.specs.Orders.{AreInOrder}
use Rattle.sn_tree.proofs.OrderLemmas.{AreLeft}
use Rattle.sn_tree.proofs.tree.Dirty.is_in_order.Given as goal

-- those that are left decide
abbrev pub invariant-loop-k : goal.invariant-loop-k
invariant-loop-k l = AreInOrder l.self.size l.self.blocks.items ↔ AreLeft l.self.size l.least (drop l.k l.self.blocks.items)
