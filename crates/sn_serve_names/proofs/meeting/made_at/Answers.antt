use Rattle.std.proofs.Common.{ℕ, List, ap}
use Rattle.sn_plan.proofs.Following.{and_then, does_same, gives_it, stops}
use Rattle.sn_serve_names.specs.Entries.{made_at, makes, number_at, status_at}
use Rattle.sn_serve_names.proofs.meeting.made_at.Goals as goal

pub returns-in_err-number : goal.returns-in_err-number
unfolding made_at
returns-in_err-number g c = stops _ c.from_residual.result c.from_residual.ensures.1 (does_same (ap number_at c.path.ensures) c.number_at.ensures) c.in_err-number.was

pub returns-in_err-status : goal.returns-in_err-status
unfolding made_at
returns-in_err-status g c = and_then _ (does_same (ap number_at c.path.ensures) c.number_at.ensures) c.in_ok-number.was
    (stops _ c.from_residual-in_err-status.result c.from_residual-in_err-status.ensures.1 (does_same (ap status_at c.path-2.ensures) c.status_at.ensures) c.in_err-status.was)

pub returns-in_err-id : goal.returns-in_err-id
unfolding made_at
returns-in_err-id g c = and_then _ (does_same (ap number_at c.path.ensures) c.number_at.ensures) c.in_ok-number.was
    (and_then _ (does_same (ap status_at c.path-2.ensures) c.status_at.ensures) c.in_ok-status.was
    (stops _ c.from_residual-in_err-id.result c.from_residual-in_err-id.ensures.1 (does_same (ap (λ (n : List ℕ). makes c.args.parent n c.in_ok-number.number) c.name.ensures) c.make.ensures) c.in_err-id.was))

pub returns : goal.returns
unfolding made_at
returns g c = and_then _ (does_same (ap number_at c.path.ensures) c.number_at.ensures) c.in_ok-number.was
    (and_then _ (does_same (ap status_at c.path-2.ensures) c.status_at.ensures) c.in_ok-status.was
    (and_then _ (does_same (ap (λ (n : List ℕ). makes c.args.parent n c.in_ok-number.number) c.name.ensures) c.make.ensures) c.in_ok-id.was
    (gives_it c.entry_of.ensures)))
