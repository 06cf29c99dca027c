use Rattle.std.proofs.Common.{sym, ◌∙◌}
use Rattle.sn_logged.proofs.LaidLemmas.{laid_there}
use Rattle.sn_logged.proofs.preparing.prepare.Goals as goal

pub returns-in-Ok-clause-found : goal.returns-in-Ok-clause-found
returns-in-Ok-clause-found g c told whole =
    laid_there c.args.limits.now (g.T.Below.shows c.applies.new.tree) (g.T.Below.shows c.args.tree.now) (c.applies.ensures.left.2 told) c.args.change.now c.in-Ok.prepared whole
    (sym c.in-Ok-true.field-0-test ∙ c.in-Ok-true.ensures.found told whole) (c.in-Ok.ensures.found told)
