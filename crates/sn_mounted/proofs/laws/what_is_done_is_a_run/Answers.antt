use Rattle.sn_mounted.proofs.Doing.{did_runs}
use Rattle.sn_mounted.proofs.laws.what_is_done_is_a_run.Goals as goal

pub returns : goal.returns
returns c = did_runs
