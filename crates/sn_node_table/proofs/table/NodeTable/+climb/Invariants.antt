use Rattle.sn_node_table.proofs.table.NodeTable.+climb.Given as goal

abbrev pub decreases-climb : goal.decreases-climb
decreases-climb l = l.hops
