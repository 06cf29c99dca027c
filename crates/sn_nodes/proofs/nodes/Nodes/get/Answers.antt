use Rattle.std.proofs.Common.{ap, sym, ◌∙◌}
use Rattle.std.specs.Cmp.{nat_cmp_total}
use Rattle.std.specs.Ordering.{nat_cmp}
use Rattle.std.specs.Option.{option_map}
use Rattle.sn_nodes.specs.Stored.{nodes_of, stored_of, node_of}
use Rattle.sn_maps.proofs.MapLemmas.{get-seen_by, get-seen_plain}
use Rattle.sn_nodes.proofs.nodes.Nodes.get.Goals as goal

pub returns-clause-nodes : goal.returns-clause-nodes
unfolding nodes_of
returns-clause-nodes c = ap (option_map node_of) c.get.ensures.value ∙ sym (get-seen_by nat_cmp node_of nat_cmp_total c.args.self.now.map.entries c.args.number)

pub returns-clause-stored : goal.returns-clause-stored
unfolding stored_of
returns-clause-stored c = c.get.ensures.value ∙ sym (get-seen_plain nat_cmp nat_cmp_total c.args.self.now.map.entries c.args.number)
