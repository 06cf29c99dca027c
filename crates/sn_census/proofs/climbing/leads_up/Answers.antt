use Rattle.std.proofs.Common.{sym, ap, ◌∙◌}
use Rattle.std.proofs.lemmas.Bool.{true≢false}
use Rattle.sn_census.specs.declared.table.Row.{Row}
use Rattle.sn_census.proofs.ClimbLemmas.{climbed_skip}
use Rattle.sn_census.specs.Rows.{row_at}
use Rattle.sn_census.proofs.RowLemmas.{row_same}
use Rattle.sn_census.proofs.climbing.leads_up.Goals as goal

pub returns-then-not-is_directory-clause-climbed : goal.returns-then-not-is_directory-clause-climbed
returns-then-not-is_directory-clause-climbed c parents climbed told = climbed_skip parents c.args.number c.args.census.now climbed

pub returns-then-not-is_directory-clause-up : goal.returns-then-not-is_directory-clause-up
returns-then-not-is_directory-clause-up c parents climbed kind told =
    absurd (true≢false (sym (c.is_directory.ensures.1 (ap (λ (r : Row). r.kind) c.row.ensures.row ∙ kind)) ∙ c.if-not-is_directory.true))

pub returns-clause-directory : goal.returns-clause-directory
returns-clause-directory c told = sym (ap (λ (r : Row). r.kind) c.row.ensures.row) ∙ c.is_directory.ensures.0 c.if-not-is_directory.false

pub returns-then-not-is_directory-clause-kept : goal.returns-then-not-is_directory-clause-kept
returns-then-not-is_directory-clause-kept c = λ number. row_same (row_at c.args.census.now number)
