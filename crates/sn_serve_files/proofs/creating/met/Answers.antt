use Rattle.std.proofs.Common.{ap}
use Rattle.sn_plan.proofs.Following.{and_then, does_same, stops}
use Rattle.sn_serve_names.specs.Entries.{status_at}
use Rattle.sn_serve_files.specs.Messages.{met}
use Rattle.sn_serve_files.proofs.creating.met.Goals as goal

pub returns-in_err-status : goal.returns-in_err-status
unfolding met
returns-in_err-status g c = stops _ c.from_residual.result c.from_residual.ensures.1 (does_same (ap status_at c.path.ensures) c.status_at.ensures) c.in_err-status.was

pub returns : goal.returns
unfolding met
returns g c = and_then _ (does_same (ap status_at c.path.ensures) c.status_at.ensures) c.in_ok-status.was c.met_at.ensures
