use Rattle.std.proofs.Common.{Some, ap, ◌∙◌}
use Rattle.sn_times.specs.Dates.{Dates, with_tree}
use Rattle.sn_times.proofs.DatesLemmas.{kept-inserted}
use Rattle.sn_times.proofs.times.Times.put_tree.Goals as goal

pub returns-clause-ok : goal.returns-clause-ok
returns-clause-ok c =
    kept-inserted c.self.inside.base c.self.inside.trees.entries c.insert.new.self.entries c.self.inside.homes c.args.home c.args.tree c.in_ok-insert.ensures.updates.0
    ∙ ap (λ (d : Dates). with_tree d c.args.home (Some c.args.tree)) c.self.view_is
