use Rattle.std.proofs.Common.{ap, ◌∙◌}
use Rattle.sn_maps.specs.Maps.{updated}
use Rattle.sn_node_table.specs.Stored.{nodes_of}
use Rattle.sn_node_table.specs.Nodes.{without_last_link}
use Rattle.sn_node_table.specs.Tables.{Nodes}
use Rattle.sn_node_table.specs.Told.{table_of}
use Rattle.sn_node_table.proofs.FreshLemmas.{fresh-is, fresh-updated}
use Rattle.sn_node_table.proofs.UndoLemmas.{unlinked_last}
use Rattle.sn_node_table.proofs.table.NodeTable.put_link.Goals as goal

pub invariant_of-self-in-Ok : goal.invariant_of-self-in-Ok
invariant_of-self-in-Ok c =
    let one = fresh-is _ _ c.args.self.now.next c.in_ok-push_link.ensures.ok (fresh-updated _ _ _ _ c.args.self.now.fresh) in
    record { fresh = fresh-is _ _ c.args.self.now.next c.in-Ok.ensures.ok (fresh-updated _ _ _ _ one) }

pub invariant_of-self-in-Err : goal.invariant_of-self-in-Err
invariant_of-self-in-Err c =
    let same = c.pop_link.ensures ∙ ap (λ (m : Nodes). updated m c.args.id without_last_link) (c.in-Err.ensures.err ∙ c.in_ok-push_link.ensures.ok) ∙ unlinked_last (nodes_of c.args.self.now.nodes) c.args.id c.in_ok-link.link in
    record { fresh = fresh-is _ _ c.args.self.now.next same c.args.self.now.fresh }

pub returns-in-Err-clause-err : goal.returns-in-Err-clause-err
returns-in-Err-clause-err c =
    let same = c.pop_link.ensures ∙ ap (λ (m : Nodes). updated m c.args.id without_last_link) (c.in-Err.ensures.err ∙ c.in_ok-push_link.ensures.ok) ∙ unlinked_last (nodes_of c.args.self.now.nodes) c.args.id c.in_ok-link.link in
    ap (λ (m : Nodes). record (table_of c.args.self.now) { nodes = m }) same
