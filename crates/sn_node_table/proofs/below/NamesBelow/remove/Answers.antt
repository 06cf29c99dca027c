use Rattle.std.proofs.Common.{sym, ap, ◌∙◌}
use Rattle.std.specs.Ordering.{nat_cmp}
use Rattle.std.specs.Cmp.Lexicographic.{slice_cmp, nat_list_cmp_total}
use Rattle.std.specs.FinMap as map
use Rattle.std.proofs.lemmas.Map.Lookups.{exact_bytes}
use Rattle.sn_maps.proofs.MapLemmas.{remove-absent}
use Rattle.sn_node_table.specs.Nodes.{Below}
use Rattle.sn_node_table.specs.Stored.{names_in}
use Rattle.sn_node_table.proofs.below.NamesBelow.remove.Goals as goal

pub returns-in_default : goal.returns-in_default
returns-in_default c =
    let none = ap names_in c.in_default.is in
    none ∙ sym (remove-absent nat_list_cmp_total exact_bytes map.empty c.args.name.now (map.get-empty (slice_cmp nat_cmp) c.args.name.now))
    ∙ ap (λ (m : Below). map.remove m c.args.name.now) (sym none)
