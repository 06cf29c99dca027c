use Rattle.std.proofs.Common.{refl, ap}
use Rattle.sn_census.specs.declared.table.Row.{Row}
use Rattle.sn_census.proofs.ClimbLemmas.{climbed_none}
use Rattle.sn_census.proofs.RowLemmas.{rows_kept}
use Rattle.sn_census.proofs.climbing.begin.Goals as goal

pub returns-clause-climbed : goal.returns-clause-climbed
returns-clause-climbed c none = climbed_none c.args.census.now c.set_row.new.self _ c.set_row.ensures.set refl (ap (λ (r : Row). r.parent) c.row-row.ensures.row) none

pub returns-clause-kept : goal.returns-clause-kept
returns-clause-kept c =
    let row = c.row-row.ensures.row in
    rows_kept 2 _ c.args.census.now c.set_row.new.self c.set_row.ensures.set (record { kind = ap (λ (r : Row). r.kind) row; names = ap (λ (r : Row). r.names) row; parent = ap (λ (r : Row). r.parent) row })
