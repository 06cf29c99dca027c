use Rattle.std.proofs.Common.{Some, sym, ap, ◌∙◌}
use Rattle.std.specs.Cmp.{nat_cmp_total}
use Rattle.std.specs.Option.{option_map}
use Rattle.std.specs.Ordering.{nat_cmp}
use Rattle.std.proofs.lemmas.Map.Lookups.{exact_unsigned}
use Rattle.sn_node_table.specs.declared.node.StoredNode.{StoredNode}
use Rattle.sn_node_table.specs.Stored.{nodes_of, boxed_node_of, node_of}
use Rattle.sn_maps.proofs.MapLemmas.{get-seen_by, remove-seen_by}
use Rattle.sn_node_table.proofs.nodes.Nodes.remove.Goals as goal

pub returns-in-Some-clause-node : goal.returns-in-Some-clause-node
unfolding nodes_of
returns-in-Some-clause-node c =
    ap (λ (s : StoredNode). Some (node_of s)) c.into_inner.ensures ∙ ap (option_map boxed_node_of) c.in-Some.ensures.value ∙ sym (get-seen_by nat_cmp boxed_node_of nat_cmp_total c.args.self.now.map.entries c.args.id)

pub returns-in-None-clause-node : goal.returns-in-None-clause-node
unfolding nodes_of
returns-in-None-clause-node c = ap (option_map boxed_node_of) c.in-None.ensures.value ∙ sym (get-seen_by nat_cmp boxed_node_of nat_cmp_total c.args.self.now.map.entries c.args.id)

pub returns-in-Some-clause-gone : goal.returns-in-Some-clause-gone
unfolding nodes_of
returns-in-Some-clause-gone c = remove-seen_by nat_cmp boxed_node_of nat_cmp_total exact_unsigned c.args.self.now.map.entries c.remove.new.self.entries c.args.id c.in-Some.ensures.updates.0

pub returns-in-None-clause-gone : goal.returns-in-None-clause-gone
unfolding nodes_of
returns-in-None-clause-gone c = remove-seen_by nat_cmp boxed_node_of nat_cmp_total exact_unsigned c.args.self.now.map.entries c.remove.new.self.entries c.args.id c.in-None.ensures.updates.0
