use Rattle.std.proofs.Common.{ap, ◌∙◌}
use Rattle.std.specs.FinMap as map
use Rattle.sn_times.specs.Dates.{Dates}
use Rattle.sn_times.proofs.DatesLemmas.{found}
use Rattle.sn_times.proofs.times.Times.tree.Goals as goal

pub returns : goal.returns
returns c = c.get.ensures.value ∙ found c.self.inside.base c.self.inside.trees.entries c.self.inside.homes c.args.home ∙ ap (λ (d : Dates). map.get d.trees c.args.home) c.self.view_is
