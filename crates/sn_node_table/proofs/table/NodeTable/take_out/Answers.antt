use Rattle.std.proofs.Common.{ap, sym, ◌∙◌}
use Rattle.sn_node_table.specs.Tables.{Nodes}
use Rattle.sn_node_table.specs.Stored.{links_in}
use Rattle.sn_node_table.specs.Told.{table_of}
use Rattle.sn_node_table.proofs.FreshLemmas.{fresh-is, fresh-removed, fresh-unhooked}
use Rattle.sn_node_table.proofs.SweepLemmas.{none_taken}
use Rattle.sn_node_table.proofs.table.NodeTable.take_out.Goals as goal

pub invariant_of-self : goal.invariant_of-self
invariant_of-self c = record { fresh = fresh-is _ _ c.args.self.now.next c.remove.ensures.gone (fresh-removed _ _ _ c.args.self.now.fresh) }

pub returns-in_default-clause-table : goal.returns-in_default-clause-table
returns-in_default-clause-table c =
    ap (λ (m : Nodes). record (table_of c.args.self.now) { nodes = m }) c.remove.ensures.gone ∙ none_taken (table_of c.args.self.now) c.args.id (sym c.in_default.ensures.node)

pub invariant_of-self-2 : goal.invariant_of-self-2
invariant_of-self-2 c =
    let one = fresh-is _ _ c.args.self.now.next c.remove.ensures.gone (fresh-removed _ _ _ c.args.self.now.fresh) in
    record { fresh = fresh-is _ _ c.args.self.now.next c.unhook.ensures (fresh-unhooked c.args.self.now.next (links_in c.in-Some.node.links) _ one) }
