use Rattle.std.proofs.Common.{◌≡◌, drop}
use Rattle.sn_node_table.specs.Tables.{unhooked}
use Rattle.sn_node_table.specs.Stored.{nodes_of}
use Rattle.sn_node_table.proofs.nodes.Nodes.unhook_all.Given as goal

abbrev pub invariant-loop-link : goal.invariant-loop-link
invariant-loop-link l = unhooked (nodes_of l.self) (drop l.link-index l.links) ≡ unhooked (nodes_of l.fn.self) l.links
