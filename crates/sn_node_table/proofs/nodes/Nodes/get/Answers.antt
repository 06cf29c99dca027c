use Rattle.std.proofs.Common.{Some, sym, ap, ◌∙◌}
use Rattle.std.specs.Cmp.{nat_cmp_total}
use Rattle.std.specs.Option.{option_map}
use Rattle.std.specs.Ordering.{nat_cmp}
use Rattle.sn_node_table.specs.declared.node.StoredNode.{StoredNode}
use Rattle.sn_node_table.specs.Stored.{nodes_of, boxed_node_of, node_of}
use Rattle.sn_maps.proofs.MapLemmas.{get-seen_by}
use Rattle.sn_node_table.proofs.nodes.Nodes.get.Goals as goal

pub returns-in-Some : goal.returns-in-Some
unfolding nodes_of
returns-in-Some c =
    ap (λ (s : StoredNode). Some (node_of s)) c.as_ref.ensures ∙ ap (option_map boxed_node_of) c.in-Some.ensures.value ∙ sym (get-seen_by nat_cmp boxed_node_of nat_cmp_total c.args.self.now.map.entries c.args.id)

pub returns-in-None : goal.returns-in-None
unfolding nodes_of
returns-in-None c = ap (option_map boxed_node_of) c.in-None.ensures.value ∙ sym (get-seen_by nat_cmp boxed_node_of nat_cmp_total c.args.self.now.map.entries c.args.id)
