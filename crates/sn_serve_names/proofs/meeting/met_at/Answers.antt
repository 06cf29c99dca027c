use Rattle.std.proofs.Common.{ℕ, List, ap}
use Rattle.sn_plan.proofs.Following.{and_then, does_same, gives_it, stops}
use Rattle.sn_serve_names.specs.Entries.{meets, met_at, number_at}
use Rattle.sn_serve_names.proofs.meeting.met_at.Goals as goal

pub returns-in_err-number : goal.returns-in_err-number
unfolding met_at
returns-in_err-number g c = stops _ c.from_residual.result c.from_residual.ensures.1 (does_same (ap number_at c.path.ensures) c.number_at.ensures) c.in_err-number.was

pub returns-in_err-id : goal.returns-in_err-id
unfolding met_at
returns-in_err-id g c = and_then _ (does_same (ap number_at c.path.ensures) c.number_at.ensures) c.in_ok-number.was
    (stops _ c.from_residual-in_err-id.result c.from_residual-in_err-id.ensures.1 (does_same (ap (λ (n : List ℕ). meets c.args.parent n c.in_ok-number.number) c.name.ensures) c.meet.ensures) c.in_err-id.was)

pub returns : goal.returns
unfolding met_at
returns g c = and_then _ (does_same (ap number_at c.path.ensures) c.number_at.ensures) c.in_ok-number.was
    (and_then _ (does_same (ap (λ (n : List ℕ). meets c.args.parent n c.in_ok-number.number) c.name.ensures) c.meet.ensures) c.in_ok-id.was
    (gives_it c.entry_of.ensures))
