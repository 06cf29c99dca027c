-- The model of a table in memory.
use Rattle.sn_node_table.specs.Stored.{current_of, nodes_of}
use Rattle.sn_node_table.specs.Tables.{Table}
use Rattle.sn_node_table.specs.declared.table.NodeTable.{NodeTable}

abbrev pub table_of : NodeTable → Table
table_of t = record { nodes = nodes_of t.nodes; current = current_of t.current; next = t.next }
