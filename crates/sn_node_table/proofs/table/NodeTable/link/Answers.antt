use Rattle.sn_node_table.proofs.FreshLemmas.{fresh-is, fresh-updated}
use Rattle.sn_node_table.proofs.table.NodeTable.link.Goals as goal

pub invariant_of-self : goal.invariant_of-self
invariant_of-self c = record { fresh = fresh-is _ _ _ c.drop_link.ensures (fresh-updated _ _ _ _ c.put_link.new.self.fresh) }
