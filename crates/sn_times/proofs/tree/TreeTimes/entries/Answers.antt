use Rattle.std.proofs.Common.{sym, ap, ◌∙◌}
use Rattle.std.specs.FinMap as map
use Rattle.sn_times.specs.Dates.{Tree}
use Rattle.sn_times.proofs.EntryLemmas.{entries-seen}
use Rattle.sn_times.proofs.tree.TreeTimes.entries.Goals as goal

pub returns : goal.returns
returns c = c.iter.ensures.rest ∙ sym (entries-seen c.self.inside.by_number.entries c.iter.ensures.ordered) ∙ ap (λ (t : Tree). map.entries t.own) c.self.view_is
