use Rattle.std.proofs.Common.{ap, arith, refl}
use Rattle.sn_census.specs.declared.table.Row.{Row}
use Rattle.sn_census.proofs.CountLemmas.{counts_one}
use Rattle.sn_census.proofs.naming.count_name.Goals as goal

pub returns-clause-counted : goal.returns-clause-counted
returns-clause-counted c told =
    let row = c.row-row.ensures.row in
    counts_one c.args.directory c.args.number _ c.args.census.now c.set_row.new.self c.set_row.ensures.set
    (omega (arith, c.if-row.false, ap (λ (r : Row). r.names) row, ap (λ (r : Row). r.links) row))
    (ap (λ (r : Row). r.kind) row) (ap (λ (r : Row). r.links) row) (ap (λ (r : Row). r.climb) row) (omega (arith, ap (λ (r : Row). r.names) row)) refl
