use Rattle.std.proofs.Common.{◌≡◌, ℕ, ◌<◌}
use Rattle.sn_census.specs.Rows.{row_at}
use Rattle.sn_census.proofs.lacking.first_lacking.Given as goal

abbrev pub invariant-loop-number : goal.invariant-loop-number
invariant-loop-number l = (number : ℕ) → number < l.number → (row_at l.census number).names ≡ (row_at l.census number).links
