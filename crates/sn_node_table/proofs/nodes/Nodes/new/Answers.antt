use Rattle.std.proofs.Common.{ap}
use Rattle.std.specs.Ordering.{nat_cmp}
use Rattle.sn_maps.specs.Maps.{seen_by}
use Rattle.sn_node_table.specs.Stored.{nodes_of, boxed_node_of}
use Rattle.sn_node_table.proofs.nodes.Nodes.new.Goals as goal

pub returns : goal.returns
unfolding nodes_of
returns c = ap (seen_by nat_cmp boxed_node_of) c.new.ensures.empty
