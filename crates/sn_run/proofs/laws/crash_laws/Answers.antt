use Rattle.sn_run.proofs.RunLemmas.{lives}
use Rattle.sn_run.proofs.laws.crash_laws.Goals as goal

pub returns : goal.returns
returns c = lives
