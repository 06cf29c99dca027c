use Rattle.std.proofs.Common.{◌≡◌, ℕ, List, ◌++◌, length}
use Rattle.std.specs.List.{slice_split}
use Rattle.sn_accounts.specs.Lines.{accounts_in, accounts_of, is_line_end}
use Rattle.sn_accounts.proofs.Tables.{told_map}
use Rattle.sn_accounts.proofs.accounts.Accounts.read.Given as goal

-- what was read so far, and what the rest has
abbrev pub invariant-loop-line : goal.invariant-loop-line
invariant-loop-line l = (told : List (List ℕ × ℕ)) × (l.accounts ≡ told_map told) × (told ++ accounts_in (slice_split is_line_end l.rest) ≡ accounts_of l.text)

abbrev pub decreases-loop-line : goal.decreases-loop-line
decreases-loop-line l = length l.rest
