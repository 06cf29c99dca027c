use Rattle.std.proofs.Common.{sym, ap, ◌∙◌}
use Rattle.std.specs.FinMap as map
use Rattle.sn_times.specs.Dates.{Dates}
use Rattle.sn_times.proofs.EntryLemmas.{entries-seen}
use Rattle.sn_times.proofs.times.Times.trees.Goals as goal

pub returns : goal.returns
returns c = c.iter.ensures.rest ∙ sym (entries-seen c.self.inside.trees.entries c.iter.ensures.ordered) ∙ ap (λ (d : Dates). map.entries d.trees) c.self.view_is
