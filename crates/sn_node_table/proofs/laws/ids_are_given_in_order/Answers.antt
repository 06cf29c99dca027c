use Rattle.sn_node_table.proofs.PathLemmas.{next_made}
use Rattle.sn_node_table.proofs.laws.ids_are_given_in_order.Goals as goal

pub returns : goal.returns
returns c t parent name inode = next_made t parent name inode
