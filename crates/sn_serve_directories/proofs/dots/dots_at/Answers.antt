use Rattle.std.proofs.Common.{ap}
use Rattle.sn_plan.proofs.Following.{and_then, does_as, does_same, fails}
use Rattle.sn_serve_directories.specs.Entries.{dots, dots_at}
use Rattle.sn_serve_directories.proofs.Steps.{entries_held, entries_passed_on}
use Rattle.sn_serve_names.specs.Entries.{number_at}
use Rattle.sn_serve_directories.proofs.dots.dots_at.Goals as goal

pub returns-in_err-number : goal.returns-in_err-number
unfolding dots_at
returns-in_err-number g c = entries_passed_on c.from_residual.result c.in_err-number.field-0.0 c.from_residual.ensures.1 (fails _ (does_as c.in_err-number.was c.number_at.ensures))

pub returns-in_err-over : goal.returns-in_err-over
unfolding dots_at
returns-in_err-over g c = and_then _ c.number_at.ensures c.in_ok-number.was
    (entries_passed_on c.from_residual-in_err-over.result c.in_err-over.field-0.0 c.from_residual-in_err-over.ensures.1
    (fails _ (does_as c.in_err-over.was (does_same (ap number_at c.above.ensures) c.number_at-2.ensures))))

pub returns : goal.returns
unfolding dots_at
returns g c = and_then _ c.number_at.ensures c.in_ok-number.was
    (and_then _ (does_same (ap number_at c.above.ensures) c.number_at-2.ensures) c.in_ok-over.was
    (entries_held (dots c.in_ok-number.number c.in_ok-over.over) c.dots.result c.dots.ensures.held c.dots.ensures.err))
