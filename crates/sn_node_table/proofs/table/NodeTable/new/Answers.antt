use Rattle.std.proofs.Common.{arith}
use Rattle.sn_node_table.proofs.FreshLemmas.{fresh-inserted, fresh-is, fresh-none}
use Rattle.sn_node_table.proofs.table.NodeTable.new.Goals as goal

pub invariant_of-result : goal.invariant_of-result
invariant_of-result c =
    let none = fresh-is _ _ 1 c.new-nodes.ensures (fresh-none 1) in
    record { fresh = fresh-is _ _ 2 c.in_ok-insert.ensures.ok (fresh-inserted _ 2 1 _ (omega arith) none) }
