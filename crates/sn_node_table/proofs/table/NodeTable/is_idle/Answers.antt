use Rattle.std.proofs.Common.{subst, sym}
use Rattle.sn_node_table.specs.Tables.{IsIdleNode}
use Rattle.sn_node_table.proofs.table.NodeTable.is_idle.Goals as goal

pub returns-then-id-ne-ROOT_ID : goal.returns-then-id-ne-ROOT_ID
returns-then-id-ne-ROOT_ID c = (
  λ t. record { node = subst IsIdleNode c.in-Some.ensures (c.is_idle.ensures.0 t); lower = c.if-id-ne-ROOT_ID.true },
  λ idle. c.is_idle.ensures.1 (subst IsIdleNode (sym c.in-Some.ensures) idle.node),
)
