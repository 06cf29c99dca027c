use Rattle.sn_node_table.proofs.FreshLemmas.{fresh-is, fresh-updated}
use Rattle.sn_node_table.proofs.table.NodeTable.take_name.Goals as goal

pub invariant_of-self : goal.invariant_of-self
invariant_of-self c =
    let one = fresh-is _ _ c.args.self.now.next c.take_name.ensures (fresh-updated _ _ _ _ c.args.self.now.fresh) in
    record { fresh = fresh-is _ _ c.args.self.now.next c.drop_link.ensures (fresh-updated _ _ _ _ one) }
