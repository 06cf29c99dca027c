-- The ids that were never given.
use Rattle.std.specs.Prelude.{ℕ}
use Rattle.sn_node_table.specs.declared.nodes.Nodes.{Nodes}
use Rattle.sn_node_table.specs.Stored.{nodes_of}
use Rattle.sn_node_table.specs.Tables.{IsFresh}

abbrev pub AreFresh : Nodes → ℕ → Type 0
AreFresh nodes next = IsFresh (nodes_of nodes) next
