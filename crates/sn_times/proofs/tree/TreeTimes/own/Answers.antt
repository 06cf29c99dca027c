use Rattle.std.proofs.Common.{sym, ap, ◌∙◌}
use Rattle.std.specs.Cmp.{nat_cmp_total}
use Rattle.std.specs.FinMap as map
use Rattle.std.specs.Ordering.{nat_cmp}
use Rattle.sn_maps.proofs.MapLemmas.{get-seen_plain}
use Rattle.sn_times.specs.Dates.{Tree}
use Rattle.sn_times.proofs.tree.TreeTimes.own.Goals as goal

pub returns : goal.returns
returns c =
    c.copied.ensures ∙ c.get.ensures.value ∙ sym (get-seen_plain nat_cmp nat_cmp_total c.self.inside.by_number.entries c.args.number)
    ∙ ap (λ (t : Tree). map.get t.own c.args.number) c.self.view_is
