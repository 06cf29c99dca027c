use Rattle.std.proofs.Common.{sym, ap, ◌∙◌}
use Rattle.std.specs.Ordering.{nat_cmp}
use Rattle.std.specs.Cmp.Lexicographic.{slice_cmp}
use Rattle.std.specs.FinMap as map
use Rattle.sn_node_table.specs.Nodes.{Below}
use Rattle.sn_node_table.specs.Stored.{names_in}
use Rattle.sn_node_table.proofs.below.NamesBelow.get.Goals as goal

pub returns-in-None : goal.returns-in-None
returns-in-None c = sym (ap (λ (m : Below). map.get m c.args.name.now) (ap names_in c.in-None.is) ∙ map.get-empty (slice_cmp nat_cmp) c.args.name.now)
