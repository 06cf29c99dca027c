use Rattle.std.proofs.Common.{ap}
use Rattle.std.specs.Ordering.{nat_cmp}
use Rattle.sn_nodes.specs.declared.nodes.StoredNode.{StoredNode}
use Rattle.sn_maps.specs.Maps.{seen_by}
use Rattle.sn_nodes.specs.Stored.{nodes_of, stored_of, node_of}
use Rattle.sn_nodes.proofs.TallyLemmas.{tallied_none}
use Rattle.sn_nodes.proofs.nodes.Nodes.new.Goals as goal

pub invariant_of-result : goal.invariant_of-result
invariant_of-result c = record { tallied = tallied_none _ (ap (seen_by nat_cmp (λ (s : StoredNode). s)) c.new.ensures.empty) }

pub returns-clause-nodes : goal.returns-clause-nodes
unfolding nodes_of
returns-clause-nodes c = ap (seen_by nat_cmp node_of) c.new.ensures.empty

pub returns-clause-stored : goal.returns-clause-stored
unfolding stored_of
returns-clause-stored c = ap (seen_by nat_cmp (λ (s : StoredNode). s)) c.new.ensures.empty
