use Rattle.std.proofs.Common.{⊎_elim, ◌<◌, ◌≤◌, arith}
use Rattle.std.proofs.lemmas.Bool.{cases_lt}
use Rattle.sn_census.specs.Rows.{row_at}
use Rattle.sn_census.proofs.RowLemmas.{unused_full}
use Rattle.sn_census.proofs.lacking.first_lacking.Goals as goal

pub returns-clause-none : goal.returns-clause-none
returns-clause-none c = λ number under. ⊎_elim
    (λ (below : number < c.loop-number.number). c.loop-number.invariant number below)
    (λ (behind : c.loop-number.number ≤ number). unused_full (row_at c.args.census.now number) (c.used-number-end.ensures.rest number (omega (arith, behind))))
    (cases_lt number c.loop-number.number)
