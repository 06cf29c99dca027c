use Rattle.std.proofs.Common.{length, sym, ap, ◌∙◌}
use Rattle.std.specs.FinMap as map
use Rattle.sn_times.specs.Dates.{Tree}
use Rattle.sn_times.proofs.EntryLemmas.{entries-seen}
use Rattle.sn_times.proofs.tree.TreeTimes.len.Goals as goal

pub returns : goal.returns
returns c =
    c.len.ensures.len ∙ ap length (sym (entries-seen c.self.inside.by_number.entries c.len.ensures.ordered))
    ∙ sym (map.len-entries _) ∙ ap (λ (t : Tree). map.len t.own) c.self.view_is
