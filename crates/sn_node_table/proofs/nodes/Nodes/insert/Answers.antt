use Rattle.std.proofs.Common.{ap, ◌∙◌}
use Rattle.std.specs.Cmp.{nat_cmp_total}
use Rattle.std.specs.FinMap as map
use Rattle.std.specs.Ordering.{nat_cmp}
use Rattle.sn_node_table.specs.declared.node.StoredNode.{StoredNode}
use Rattle.std.proofs.lemmas.Map.Lookups.{exact_unsigned}
use Rattle.sn_maps.specs.Maps.{seen_by}
use Rattle.std.proofs.lemmas.Result.{err_from_is_err_and}
use Rattle.sn_node_table.specs.Stored.{nodes_of, boxed_node_of, node_of}
use Rattle.sn_maps.proofs.MapLemmas.{insert-seen_by}
use Rattle.sn_node_table.proofs.nodes.Nodes.insert.Goals as goal

pub returns-in_err-insert-clause-err : goal.returns-in_err-insert-clause-err
unfolding nodes_of
returns-in_err-insert-clause-err c =
    let p = err_from_is_err_and c.from_residual-in_err-insert.result c.from_residual-in_err-insert.ensures.1 in
    rw (p.1) (ap (seen_by nat_cmp boxed_node_of) c.in_err-insert.ensures.err)

pub returns-clause-ok : goal.returns-clause-ok
unfolding nodes_of
returns-clause-ok c =
    insert-seen_by nat_cmp boxed_node_of nat_cmp_total exact_unsigned c.args.self.now.map.entries c.insert.new.self.entries c.args.id c.in_ok-boxed.boxed c.in_ok-insert.ensures.updates.0
    ∙ ap (λ (s : StoredNode). map.insert (seen_by nat_cmp boxed_node_of c.args.self.now.map.entries) c.args.id (node_of s)) c.in_ok-boxed.ensures.ok
