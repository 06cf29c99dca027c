use Rattle.std.proofs.Common.{Option, ap, sym, ◌∙◌}
use Rattle.std.specs.Ordering.{nat_cmp}
use Rattle.std.specs.Cmp.Lexicographic.{slice_cmp}
use Rattle.std.specs.FinMap as map
use Rattle.sn_node_table.specs.Nodes.{Node, below_of}
use Rattle.sn_node_table.proofs.table.NodeTable.named.Goals as goal

pub returns-in_err-node : goal.returns-in_err-node
returns-in_err-node c =
    c.from_residual.ensures ∙ sym (ap (λ (o : Option Node). map.get (below_of o) c.args.name.now) (sym c.in_err-node.ensures) ∙ map.get-empty (slice_cmp nat_cmp) c.args.name.now)
