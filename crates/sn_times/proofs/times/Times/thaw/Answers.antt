use Rattle.std.proofs.Common.{None, ap, ◌∙◌}
use Rattle.sn_times.specs.Dates.{Dates, with_tree}
use Rattle.sn_times.proofs.DatesLemmas.{kept-removed, thawed-other}
use Rattle.sn_times.proofs.times.Times.thaw.Goals as goal
use Rattle.sn_times.proofs.times.Times.thaw.Goals.{in-Some-1, in-None-1}

pub returns-then-home-ne-LIVE : goal.returns-then-home-ne-LIVE
returns-then-home-ne-LIVE c =
    let gone =
    kept-removed c.self.inside.base c.self.inside.trees.entries c.remove.new.self.entries c.self.inside.homes c.args.home c.remove.ensures.updates.0
    ∙ ap (λ (d : Dates). with_tree d c.args.home None) c.self.view_is
    ∙ thawed-other c.args.self.now c.args.home c.if-home-ne-LIVE.true in
    elim c.match-remove.branch [ in-Some-1 w ↦ w.self-is ∙ gone | in-None-1 w ↦ w.self-is ∙ gone ]
