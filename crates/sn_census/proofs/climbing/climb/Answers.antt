use Rattle.std.proofs.Common.{◌≡◌, refl, sym, ap, ◌∙◌}
use Rattle.sn_census.specs.Rows.{row_at}
use Rattle.sn_census.specs.declared.table.Row.{Row}
use Rattle.sn_census.proofs.ClimbLemmas.{apart_told, climbing_begun, climbing_more, climbed_apart, climbed_more, climbed_up, same_told}
use Rattle.sn_census.proofs.RowLemmas.{kept_joined, row_same, rows_kept}
use Rattle.sn_census.proofs.climbing.climb.Goals as goal

pub steps-init : goal.steps-init
steps-init c = record { way = λ parents climbed. climbing_begun parents c.args.directory c.args.census.now climbed; kept = λ number. row_same (row_at c.args.census.now number) }

pub steps-preserved : goal.steps-preserved
steps-preserved c =
    let row = c.row-row.ensures.row in
    let fresh : (row_at c.steps.census c.steps.at).climb ≡ 0 = sym (ap (λ (r : Row). r.climb) c.row.ensures.row) ∙ c.steps-test.true in
    record {
      way = λ parents climbed.
          climbing_more parents c.args.directory c.steps.at c.row-row.result.parent c.steps.census c.set_row.new.self _ c.set_row.ensures.set refl (ap (λ (r : Row). r.parent) row) (ap (λ (r : Row). r.parent) row) fresh
          (c.steps.invariant.way parents climbed);
      kept = λ number.
          kept_joined _ _ _ (c.steps.invariant.kept number)
          (rows_kept c.steps.at _ c.steps.census c.set_row.new.self c.set_row.ensures.set (record { kind = ap (λ (r : Row). r.kind) row; names = ap (λ (r : Row). r.names) row; parent = ap (λ (r : Row). r.parent) row }) number);
    }

pub returns-clause-climbed : goal.returns-clause-climbed
returns-clause-climbed c parents climbed up =
    climbed_more parents c.args.directory c.steps.at c.steps.census (c.steps.invariant.way parents climbed)
    (λ zero. c.steps-test.false (ap (λ (r : Row). r.climb) c.row.ensures.row ∙ zero))
    (λ same. apart_told c.row-2.result.climb c.args.directory up (ap (λ (r : Row). r.climb) c.row-2.ensures.row ∙ same))

pub returns-clause-up : goal.returns-clause-up
returns-clause-up c parents climbed up =
    climbed_up parents c.args.directory c.steps.at c.steps.census (c.steps.invariant.way parents climbed)
    (λ zero. c.steps-test.false (ap (λ (r : Row). r.climb) c.row.ensures.row ∙ zero))
    (λ same. apart_told c.row-2.result.climb c.args.directory up (ap (λ (r : Row). r.climb) c.row-2.ensures.row ∙ same))

pub returns-clause-apart : goal.returns-clause-apart
returns-clause-apart c parents climbed back =
    climbed_apart parents c.args.directory c.steps.at c.steps.census (c.steps.invariant.way parents climbed)
    (sym (ap (λ (r : Row). r.climb) c.row-2.ensures.row) ∙ same_told c.row-2.result.climb c.args.directory back)
