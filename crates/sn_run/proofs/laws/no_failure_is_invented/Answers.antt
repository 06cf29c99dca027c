use Rattle.sn_run.proofs.FailureLemmas.{run_unfailing}
use Rattle.sn_run.proofs.laws.no_failure_is_invented.Goals as goal

pub returns : goal.returns
returns c = run_unfailing
